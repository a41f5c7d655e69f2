use Rattle.avl.proofs.Folds.{total_is}
use Rattle.avl.proofs.total_is_fold.Goals as goal

pub returns : goal.returns
returns g c = total_is
