use Rattle.std.proofs.Common.{arith}
use Rattle.avl.proofs.Folds.{from_is, to_is}
use Rattle.avl.proofs.ends_are_folds.Goals as goal

pub returns : goal.returns
returns g c = record { from = λ unit join m lo hi t o u. from_is unit join m lo hi hi t (omega arith) o u; to = to_is }
