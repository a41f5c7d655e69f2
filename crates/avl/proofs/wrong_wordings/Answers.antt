use Rattle.avl.proofs.Wrong.{wrong_wordings}
use Rattle.avl.proofs.wrong_wordings.Goals as goal

pub returns : goal.returns
returns c = wrong_wordings
