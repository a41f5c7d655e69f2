use Rattle.avl.proofs.Balance.{low_enough}
use Rattle.avl.proofs.height_is_low.Goals as goal

pub returns : goal.returns
returns g c = low_enough
