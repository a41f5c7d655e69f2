use Rattle.figures.proofs.worked_table.Goals as goal
use Rattle.figures.proofs.Table.{whole_table}

pub returns : goal.returns
returns c = whole_table
