use Rattle.std.proofs.Common.{arith}
use Rattle.avl.proofs.Balance.{remove_fits}
use Rattle.avl.proofs.remove_keeps_balance.Goals as goal

pub returns : goal.returns
returns g c = λ x t h. let z = remove_fits x t h in (z.balanced, omega (arith, z.low), z.high)
