use Rattle.timetable.proofs.one_critical_minute.Goals as goal
use Rattle.timetable.proofs.OneNeed.{one_critical_minute}

pub returns : goal.returns
returns c = one_critical_minute
