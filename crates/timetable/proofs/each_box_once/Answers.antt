use Rattle.timetable.proofs.each_box_once.Goals as goal
use Rattle.timetable.proofs.Labels.{each_box_once}

pub returns : goal.returns
returns c = each_box_once
