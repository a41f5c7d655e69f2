use Rattle.figures.proofs.fittings_are_read.Goals as goal
use Rattle.figures.proofs.Unions.{fittings_are_read}

pub returns : goal.returns
returns c = fittings_are_read
