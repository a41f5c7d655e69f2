use Rattle.std.proofs.Common.{take, vec_items, ◌∙◌}
use Rattle.row.specs.Invariant.{is_rising}
use Rattle.row.proofs.Pairs.{fold_part, fold_none}
use Rattle.row.proofs.calls.RowBook.fold.Goals as goal

pub returns-then-from-to : goal.returns-then-from-to
returns-then-from-to g c = λ _.
    let m = g.M.Monoid in
    let row = c.args.self.now in
    rw c.records.ensures at c.join_values.ensures ∙ fold_part m.neutral g.M.Semigroup.joined m.reads (take row.count (vec_items row.memory)) c.args.lo c.args.hi _ _ (is_rising m.reads row) c.place-from.ensures.below c.place-to.ensures.below c.if-from-to.true

pub returns-else-from-to : goal.returns-else-from-to
returns-else-from-to g c = λ _.
    let m = g.M.Monoid in
    let row = c.args.self.now in
    c.unit.ensures ∙ fold_none m.neutral g.M.Semigroup.joined m.reads (take row.count (vec_items row.memory)) c.args.lo c.args.hi _ _ (is_rising m.reads row) c.place-from.ensures.below c.place-to.ensures.below c.if-from-to.false
