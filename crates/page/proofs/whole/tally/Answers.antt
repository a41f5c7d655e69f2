use Rattle.std.proofs.Common.{sym, ◌∙◌}
use Rattle.page.proofs.Tallies.{tallied_whole}
use Rattle.page.proofs.whole.tally.Goals as goal

pub returns : goal.returns
returns c =
    sym (tallied_whole c.args.page.now _ _ _ _ _ _ _ (sym c.section.ensures ∙ c.in_ok-names.was) (sym c.section-2.ensures ∙ c.in_ok-runs.was) (sym c.section-3.ensures ∙ c.in_ok-edits.was) (sym c.page_end.ensures ∙ c.in_ok-page_end.was))
