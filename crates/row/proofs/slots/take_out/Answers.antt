use Rattle.std.proofs.Common.{◌-◌, length, take, ap, ◌∙◌}
use Rattle.row.proofs.Shifts.{moved_down}
use Rattle.row.proofs.slots.take_out.Goals as goal

pub returns : goal.returns
returns g c = ap (take (length c.args.slots.now - 1)) c.copy_within.ensures.after ∙ moved_down c.args.slots.now c.args.place c.requires
