use Rattle.timetable.proofs.each_run_once.Goals as goal
use Rattle.timetable.proofs.Blocks.{each_run_once}

pub returns : goal.returns
returns c = each_run_once
