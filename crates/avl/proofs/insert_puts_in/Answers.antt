use Rattle.avl.proofs.Cells.{cells_with, entries_with}
use Rattle.avl.proofs.insert_puts_in.Goals as goal

pub returns : goal.returns
returns g c = record { on_cells = cells_with; on_entries = entries_with }
