use Rattle.avl.proofs.Folds.{total_turned}
use Rattle.avl.proofs.turn_keeps_total.Goals as goal

pub returns : goal.returns
returns g c = total_turned
