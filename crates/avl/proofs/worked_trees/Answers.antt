use Rattle.std.proofs.Common.{refl}
use Rattle.avl.specs.Tree.{rebalanced}
use Rattle.avl.proofs.worked_trees.Goals as goal

pub returns : goal.returns
unfolding rebalanced
returns c = record { full = refl; top_out = refl; two_turns = refl; found = refl; not_found = refl; place = (refl, refl); sums = (refl, refl) }
