use Rattle.timetable.proofs.fifo_can_be_done.Goals as goal
use Rattle.timetable.proofs.Sheet.{fifo_can_be_done}

pub returns : goal.returns
returns c = fifo_can_be_done
