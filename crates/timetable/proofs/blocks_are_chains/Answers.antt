use Rattle.timetable.proofs.blocks_are_chains.Goals as goal
use Rattle.timetable.proofs.Fifo.{blocks_are_chains}

pub returns : goal.returns
returns c = blocks_are_chains
