use Rattle.avl.proofs.Folds.{front_is}
use Rattle.avl.proofs.front_is_first_entries.Goals as goal

pub returns : goal.returns
returns g c = front_is
