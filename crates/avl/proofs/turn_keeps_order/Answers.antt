use Rattle.avl.proofs.Cells.{turn_keeps_order}
use Rattle.avl.proofs.turn_keeps_order.Goals as goal

pub returns : goal.returns
returns g c = turn_keeps_order
