use Rattle.timetable.proofs.same_is_shuffled.Goals as goal
use Rattle.timetable.proofs.Shuffle.{same_is_shuffled}

pub returns : goal.returns
returns c = same_is_shuffled
