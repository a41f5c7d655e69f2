use Rattle.book.proofs.Edits.{inserted_ascends, has_inserted, length_inserted, held_inserted, value_inserted}
use Rattle.book.proofs.laws.insert_adds_one.Goals as goal

pub returns : goal.returns
returns g c = record { order = inserted_ascends; members = has_inserted; count = length_inserted; keys = held_inserted; lookups = value_inserted }
