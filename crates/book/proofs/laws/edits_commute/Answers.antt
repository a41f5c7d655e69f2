use Rattle.book.proofs.Edits.{inserts_commute, removes_commute, removed_inserted_other}
use Rattle.book.proofs.laws.edits_commute.Goals as goal

pub returns : goal.returns
returns g c = record { inserts = inserts_commute; removes = removes_commute; insert_and_remove = removed_inserted_other }
