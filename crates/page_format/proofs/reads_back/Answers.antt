use Rattle.page_format.proofs.Pages.{reads_back}
use Rattle.page_format.proofs.reads_back.Goals as goal

pub returns : goal.returns
returns c = reads_back
