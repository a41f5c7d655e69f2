use Rattle.timetable.proofs.one_before.Goals as goal
use Rattle.timetable.proofs.Links.{one_before}

pub returns : goal.returns
returns c = one_before
