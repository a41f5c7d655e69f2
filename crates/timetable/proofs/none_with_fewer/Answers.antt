use Rattle.timetable.proofs.none_with_fewer.Goals as goal
use Rattle.timetable.proofs.Lower.{none_with_fewer}

pub returns : goal.returns
returns c = none_with_fewer
