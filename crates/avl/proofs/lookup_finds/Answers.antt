use Rattle.avl.proofs.Views.{lookup_held, lookup_value}
use Rattle.avl.proofs.lookup_finds.Goals as goal

pub returns : goal.returns
returns g c = record { holds = lookup_held; value = lookup_value }
