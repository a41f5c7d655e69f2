use Rattle.timetable.proofs.blocks_are_fixed.Goals as goal
use Rattle.timetable.proofs.Blocks.{blocks_are_fixed}

pub returns : goal.returns
returns c = blocks_are_fixed
