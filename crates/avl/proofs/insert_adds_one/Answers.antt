use Rattle.avl.proofs.Views.{count_with}
use Rattle.avl.proofs.insert_adds_one.Goals as goal

pub returns : goal.returns
returns g c = count_with
