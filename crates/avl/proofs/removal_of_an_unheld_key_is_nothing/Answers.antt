use Rattle.avl.proofs.Balance.{removal_is_nothing}
use Rattle.avl.proofs.removal_of_an_unheld_key_is_nothing.Goals as goal

pub returns : goal.returns
returns g c = removal_is_nothing
