use Rattle.figures.proofs.need_is_read.Goals as goal
use Rattle.figures.proofs.Peaks.{need_is_read}

pub returns : goal.returns
returns c = need_is_read
