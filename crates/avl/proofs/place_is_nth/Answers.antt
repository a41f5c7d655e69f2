use Rattle.avl.proofs.Views.{at_entries}
use Rattle.avl.proofs.place_is_nth.Goals as goal

pub returns : goal.returns
returns g c = at_entries
