use Rattle.avl.proofs.Cells.{in_order_ascends, ascending_in_order}
use Rattle.avl.proofs.order_is_ascending.Goals as goal

pub returns : goal.returns
returns g c = λ t. (in_order_ascends t, ascending_in_order t)
