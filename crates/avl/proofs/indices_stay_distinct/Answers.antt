use Rattle.avl.proofs.Indices.{indices_stay_distinct}
use Rattle.avl.proofs.indices_stay_distinct.Goals as goal

pub returns : goal.returns
returns g c = indices_stay_distinct
