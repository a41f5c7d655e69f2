use Rattle.timetable.proofs.one_need.Goals as goal
use Rattle.timetable.proofs.OneNeed.{one_need}

pub returns : goal.returns
returns c = one_need
