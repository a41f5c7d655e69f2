use Rattle.timetable.proofs.links_undo.Goals as goal
use Rattle.timetable.proofs.Links.{links_undo}

pub returns : goal.returns
returns c = links_undo
