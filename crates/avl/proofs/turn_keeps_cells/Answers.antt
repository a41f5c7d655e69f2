use Rattle.avl.proofs.Cells.{cells_rebalanced}
use Rattle.avl.proofs.turn_keeps_cells.Goals as goal

pub returns : goal.returns
returns g c = cells_rebalanced
