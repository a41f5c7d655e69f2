use Rattle.book.proofs.Edits.{removed_inserted}
use Rattle.book.proofs.laws.remove_undoes_insert.Goals as goal

pub returns : goal.returns
returns g c = removed_inserted
