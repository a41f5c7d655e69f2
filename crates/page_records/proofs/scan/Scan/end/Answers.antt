use Rattle.std.proofs.Common.{rules}
use Rattle.page_records.proofs.Walks.{rest_more, rest_stop}
use Rattle.page_records.proofs.scan.Scan.end.Goals as goal

pub loop-preserved : goal.loop-preserved
loop-preserved c = search (rules, rest_more)

pub returns-in_err-take : goal.returns-in_err-take
returns-in_err-take c =
    let s = c.loop.scan in
    let w = rest_stop s.section s.page.now s.cursor _ c.in_err-take.field-0.0 c.loop.invariant.0 (search rules) (search rules) in
    search rules
