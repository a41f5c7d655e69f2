use Rattle.timetable.proofs.neighbours_are_links.Goals as goal
use Rattle.timetable.proofs.Blocks.{neighbours_are_links}

pub returns : goal.returns
returns c = neighbours_are_links
