use Rattle.timetable.proofs.one_queue.Goals as goal
use Rattle.timetable.proofs.Numbers.{one_queue}

pub returns : goal.returns
returns c = one_queue
