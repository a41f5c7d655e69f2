use Rattle.std.proofs.Common.{◌≡◌, arith, rules}
use Rattle.page.proofs.Names.{reached_here, reached_more, reached_span}
use Rattle.page.proofs.whole.name_span.Goals as goal

pub bounds-page-at : goal.bounds-page-at
bounds-page-at c = let h = reached_here _ _ _ _ (search rules) c.loop.invariant in omega arith

pub overflow_add-at-in-loop : goal.overflow_add-at-in-loop
overflow_add-at-in-loop c = let h = reached_here _ _ _ _ (search rules) c.loop.invariant in search rules

pub loop-preserved : goal.loop-preserved
loop-preserved c = let h = reached_more _ _ _ _ (search rules) c.loop.invariant in search rules

pub overflow_add-result : goal.overflow_add-result
overflow_add-result c = let h = reached_here _ _ _ _ (omega arith) c.loop.invariant in search rules

pub bounds-page-at-2 : goal.bounds-page-at-2
bounds-page-at-2 c = let h = reached_here _ _ _ _ (omega arith) c.loop.invariant in omega arith

pub returns : goal.returns
returns c =
    let e : c.loop.counter ≡ c.args.k = omega arith in
    let h = reached_span _ _ _ _ (omega arith) (rw e at c.loop.invariant) in
    search rules
