use Rattle.avl.proofs.Cells.{without_keeps_order}
use Rattle.avl.proofs.remove_keeps_order.Goals as goal

pub returns : goal.returns
returns g c = without_keeps_order
