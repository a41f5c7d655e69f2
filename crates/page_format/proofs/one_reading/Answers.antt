use Rattle.page_format.proofs.Pages.{one_reading}
use Rattle.page_format.proofs.one_reading.Goals as goal

pub returns : goal.returns
returns c = one_reading
