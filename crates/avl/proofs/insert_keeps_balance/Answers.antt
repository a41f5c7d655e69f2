use Rattle.avl.proofs.Balance.{insert_fits}
use Rattle.avl.proofs.insert_keeps_balance.Goals as goal

pub returns : goal.returns
returns g c = λ n x y t h. let z = insert_fits n x y t h in (z.balanced, z.low, z.high)
