use Rattle.page_laws.proofs.Walked.{next_keeps}
use Rattle.page_laws.proofs.rest_stays.Goals as goal

pub returns : goal.returns
returns c = next_keeps
