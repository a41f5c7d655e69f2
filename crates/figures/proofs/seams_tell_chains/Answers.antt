use Rattle.figures.proofs.seams_tell_chains.Goals as goal
use Rattle.figures.proofs.Sewn.{seams_tell_chains}

pub returns : goal.returns
returns c = seams_tell_chains
