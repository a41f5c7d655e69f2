use Rattle.avl.proofs.Views.{below_entries}
use Rattle.avl.proofs.below_is_count.Goals as goal

pub returns : goal.returns
returns g c = below_entries
