use Rattle.avl.proofs.Balance.{turn_restores}
use Rattle.avl.proofs.turn_restores_balance.Goals as goal

pub returns : goal.returns
returns g c = λ i k v l r hl hr f g. let z = turn_restores i k v l r hl hr f g in (z.balanced, z.low, z.high)
