use Rattle.figures.proofs.level_is_read.Goals as goal
use Rattle.figures.proofs.Peaks.{level_is_read}

pub returns : goal.returns
returns c = level_is_read
