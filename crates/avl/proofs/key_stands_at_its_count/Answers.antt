use Rattle.avl.proofs.Views.{key_at}
use Rattle.avl.proofs.key_stands_at_its_count.Goals as goal

pub returns : goal.returns
returns g c = key_at
