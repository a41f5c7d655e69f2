use Rattle.std.proofs.Common.{rules}
use Rattle.std.proofs.lemmas.List.Sorted.{answers_always}
use Rattle.row.proofs.Searches.{searched}
use Rattle.row.proofs.row.Row.find.Goals as goal

pub returns : goal.returns
returns g c =
    let found = c.binary_search_by_key.ensures in
    let by_key = found.position (λ e. e.key) (answers_always _ _ _ (λ f a r g called. search rules)) in
    searched g.M.Monoid.reads c.args.self.now c.args.key c.binary_search_by_key.result (rw (← c.records.ensures) found.bound) (rw (← c.records.ensures) by_key)
