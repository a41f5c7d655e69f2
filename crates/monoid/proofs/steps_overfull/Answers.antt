use Rattle.monoid.proofs.Steps.{steps_overfull}
use Rattle.monoid.proofs.steps_overfull.Goals as goal

pub returns : goal.returns
returns c = steps_overfull
