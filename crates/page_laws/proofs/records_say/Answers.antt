use Rattle.page_laws.proofs.Said.{records_say}
use Rattle.page_laws.proofs.records_say.Goals as goal

pub returns : goal.returns
returns c = records_say
