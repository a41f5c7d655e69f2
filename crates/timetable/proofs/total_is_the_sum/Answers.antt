use Rattle.timetable.proofs.total_is_the_sum.Goals as goal
use Rattle.timetable.proofs.OneNeed.{total_is_the_sum}

pub returns : goal.returns
returns c = total_is_the_sum
