use Rattle.page_format.proofs.Pages.{places_within}
use Rattle.page_format.proofs.places_within.Goals as goal

pub returns : goal.returns
returns c = places_within
