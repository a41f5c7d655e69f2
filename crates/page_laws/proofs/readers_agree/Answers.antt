use Rattle.page_laws.proofs.Walked.{readers_agree}
use Rattle.page_laws.proofs.readers_agree.Goals as goal

pub returns : goal.returns
returns c = readers_agree
