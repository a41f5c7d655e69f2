use Rattle.avl.proofs.Views.{count_without}
use Rattle.avl.proofs.remove_takes_one.Goals as goal

pub returns : goal.returns
returns g c = count_without
