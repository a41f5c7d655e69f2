use Rattle.std.proofs.Common.{ltb, sym, arith, rules}
use Rattle.std.proofs.lemmas.Bool.{ltb-true, ltb-false}
use Rattle.std.proofs.lemmas.List.Sorted.{IsPartitionedBy-ltb, IsPartitionPoint-from_clause}
use Rattle.row.specs.Invariant.{is_rising}
use Rattle.row.proofs.Searches.{keys_rise, below_at}
use Rattle.row.proofs.row.Row.place.Goals as goal

pub returns-clause-below : goal.returns-clause-below
returns-clause-below g c =
    let reads = g.M.Monoid.reads in
    let k = c.args.key in
    let es = c.records.result.now in
    let found = c.partition_point.ensures in
    let rises = keys_rise reads es (rw c.records.ensures (is_rising reads c.args.self.now)) in
    let point = IsPartitionPoint-from_clause (λ e. ltb e.key k) es c.partition_point.result found.partitioned (IsPartitionedBy-ltb (λ e. e.key) es k rises) (λ a r f called. search rules) in
    rw (← c.records.ensures) (sym (below_at reads k es c.partition_point.result found.bound (λ j d l. ltb-true _ _ (point.0 j d (omega arith) l)) (λ j d l w. ltb-false _ _ (point.1 j d l w))))
