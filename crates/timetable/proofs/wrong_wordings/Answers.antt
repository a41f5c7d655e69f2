use Rattle.timetable.proofs.wrong_wordings.Goals as goal
use Rattle.timetable.proofs.Wrong.{wrong_wordings}

pub returns : goal.returns
returns c = wrong_wordings
