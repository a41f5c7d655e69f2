use Rattle.page_laws.proofs.Gathered.{readers_hand_out}
use Rattle.page_laws.proofs.readers_hand_out.Goals as goal

pub returns : goal.returns
returns c = readers_hand_out
