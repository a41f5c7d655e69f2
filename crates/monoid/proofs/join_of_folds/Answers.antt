use Rattle.std.proofs.Common.{◌∙◌}
use Rattle.monoid.specs.FoldsLemmas.{total_append_read}
use Rattle.monoid.proofs.join_of_folds.Goals as goal

pub returns : goal.returns
returns g c =
    let m = g.M.Monoid in
    let w = g.met.M.Monoid in
    let joined = rw (c.fold.ensures, c.fold-2.ensures) at c.join.ensures in
    joined ∙ total_append_read m.neutral g.M.Semigroup.joined w.left w.right g.met.M.Semigroup.assoc m.reads c.args.front.now c.args.back.now
