use Rattle.avl.proofs.Cells.{with_keeps_order}
use Rattle.avl.proofs.insert_keeps_order.Goals as goal

pub returns : goal.returns
returns g c = with_keeps_order
