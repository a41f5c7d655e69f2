use Rattle.timetable.proofs.fifo_sends_the_need.Goals as goal
use Rattle.timetable.proofs.Fifo.{fifo_sends_the_need}

pub returns : goal.returns
returns c = fifo_sends_the_need
