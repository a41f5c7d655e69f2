use Rattle.timetable.proofs.total_is_the_least.Goals as goal
use Rattle.timetable.proofs.Totals.{total_is_the_least}

pub returns : goal.returns
returns c = total_is_the_least
