use Rattle.std.proofs.Common.{◌<◌, arith}
use Rattle.std.proofs.ByRecursion.{All-from_get_or}
use Rattle.page_format.specs.Laws.{Bytes}
use Rattle.page.proofs.Exact.{exactly}
use Rattle.page.proofs.whole.check.Goals as goal

pub returns-clause-exact : goal.returns-clause-exact
returns-clause-exact c =
    let p = c.args.page.now in
    let b : Bytes p = All-from_get_or (λ n. n < 256) p 0 (λ i l. (let f = c.type_inv.page i in omega arith)) in
    rw c.tally.ensures (exactly p b)
