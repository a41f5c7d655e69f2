use Rattle.timetable.proofs.one_after.Goals as goal
use Rattle.timetable.proofs.Links.{one_after}

pub returns : goal.returns
returns c = one_after
