use Rattle.std.proofs.Common.{refl, arith}
use Rattle.std.proofs.lemmas.Int.{ints}
use Rattle.monoid.specs.Deficits.{numbers}
use Rattle.monoid.specs.DeficitsLemmas.{same}
use Rattle.monoid.proofs.Deficits.{joined_stays, joined_passes}
use Rattle.monoid.proofs.deficit.DeficitSummarySemigroup.join.Goals as goal

pub returns-then-self-reach : goal.returns-then-self-reach
returns-then-self-reach c =
    same _ _ (joined_stays (numbers c.args.self) (numbers c.args.other) _ (omega arith) refl (omega (arith, ints)) (omega (arith, ints)) refl refl)

pub returns : goal.returns
returns c =
    same _ _ (joined_passes (numbers c.args.self) (numbers c.args.other) _ (omega arith) refl (omega (arith, ints)) (omega (arith, ints)) (omega (arith, ints)) refl)
