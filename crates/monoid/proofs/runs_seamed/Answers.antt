use Rattle.monoid.proofs.Seams.{runs_seamed}
use Rattle.monoid.proofs.runs_seamed.Goals as goal

pub returns : goal.returns
returns c = runs_seamed
