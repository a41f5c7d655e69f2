use Rattle.avl.proofs.Cells.{cells_first}
use Rattle.avl.proofs.first_comes_out.Goals as goal

pub returns : goal.returns
returns g c = cells_first
