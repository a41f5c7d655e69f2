use Rattle.avl.proofs.Views.{count_entries}
use Rattle.avl.proofs.count_is_length.Goals as goal

pub returns : goal.returns
returns g c = count_entries
