use Rattle.row.proofs.Shifts.{moved_up}
use Rattle.row.proofs.slots.put_in.Goals as goal

pub returns : goal.returns
returns g c = moved_up c.args.slots.now c.rotate_right.new.self c.args.place c.args.entry c.requires c.rotate_right.ensures.after
