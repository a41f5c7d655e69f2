use Rattle.std.proofs.Common.{arith}
use Rattle.avl.specs.Tree.{height}
use Rattle.avl.proofs.Balance.{many}
use Rattle.avl.proofs.fewest_entries.Goals as goal

pub returns : goal.returns
returns g c = λ t b. many t b (height t) (omega arith)
