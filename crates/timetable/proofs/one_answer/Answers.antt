use Rattle.timetable.proofs.one_answer.Goals as goal
use Rattle.timetable.proofs.OneNeed.{one_answer}

pub returns : goal.returns
returns c = one_answer
