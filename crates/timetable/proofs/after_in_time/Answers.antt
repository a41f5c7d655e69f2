use Rattle.timetable.proofs.after_in_time.Goals as goal
use Rattle.timetable.proofs.Links.{after_in_time}

pub returns : goal.returns
returns c = after_in_time
