use Rattle.timetable.proofs.worked_table.Goals as goal
use Rattle.timetable.proofs.Table.{worked_table}

pub returns : goal.returns
returns c = worked_table
