use Rattle.figures.proofs.stops_are_read.Goals as goal
use Rattle.figures.proofs.Places.{stops_are_read}

pub returns : goal.returns
returns c = stops_are_read
