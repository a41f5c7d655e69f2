use Rattle.figures.proofs.links_are_read.Goals as goal
use Rattle.figures.proofs.Linked.{links_are_read}

pub returns : goal.returns
returns c = links_are_read
