use Rattle.book.proofs.Edits.{removed_ascends, has_removed, length_removed, removed_unheld, value_removed}
use Rattle.book.proofs.laws.remove_takes_one.Goals as goal

pub returns : goal.returns
returns g c = record { order = removed_ascends; members = has_removed; count = length_removed; unheld = removed_unheld; lookups = value_removed }
