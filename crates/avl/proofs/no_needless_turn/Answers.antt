use Rattle.avl.proofs.Balance.{no_turn}
use Rattle.avl.proofs.no_needless_turn.Goals as goal

pub returns : goal.returns
returns g c = no_turn
