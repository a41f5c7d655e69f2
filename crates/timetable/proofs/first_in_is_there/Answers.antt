use Rattle.timetable.proofs.first_in_is_there.Goals as goal
use Rattle.timetable.proofs.Queues.{first_in_is_there}

pub returns : goal.returns
returns c = first_in_is_there
