use Rattle.page.proofs.Names.{Reached}
use Rattle.page.proofs.whole.name_span.Given as goal

abbrev pub invariant-loop : goal.invariant-loop
invariant-loop l = Reached l.page l.count l.counter l.at
