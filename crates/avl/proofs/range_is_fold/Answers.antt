use Rattle.avl.proofs.Folds.{range_is}
use Rattle.avl.proofs.range_is_fold.Goals as goal

pub returns : goal.returns
returns g c = range_is
