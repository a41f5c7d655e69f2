use Rattle.monoid.proofs.Steps.{steps_summed}
use Rattle.monoid.proofs.steps_summed.Goals as goal

pub returns : goal.returns
returns c = steps_summed
