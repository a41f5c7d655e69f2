use Rattle.figures.proofs.numbers_are_read.Goals as goal
use Rattle.figures.proofs.Places.{numbers_are_read}

pub returns : goal.returns
returns c = numbers_are_read
