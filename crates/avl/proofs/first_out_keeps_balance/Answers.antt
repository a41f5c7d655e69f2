use Rattle.std.proofs.Common.{arith}
use Rattle.avl.proofs.Balance.{first_out_fits}
use Rattle.avl.proofs.first_out_keeps_balance.Goals as goal

pub returns : goal.returns
returns g c = λ i k v l r h. let z = first_out_fits i k v l r h in (z.balanced, omega (arith, z.low), z.high)
