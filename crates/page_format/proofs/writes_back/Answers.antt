use Rattle.page_format.proofs.Pages.{writes_back}
use Rattle.page_format.proofs.writes_back.Goals as goal

pub returns : goal.returns
returns c = writes_back
