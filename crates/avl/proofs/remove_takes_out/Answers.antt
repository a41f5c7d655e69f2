use Rattle.avl.proofs.Cells.{cells_without, entries_without}
use Rattle.avl.proofs.remove_takes_out.Goals as goal

pub returns : goal.returns
returns g c = record { on_cells = cells_without; on_entries = entries_without }
