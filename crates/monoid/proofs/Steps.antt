-- The fold of the summaries of departures and arrivals.
use Rattle.std.proofs.Common.{◌≡◌, ℕ, zero, suc, ◌+◌, ◌<◌, ◌≤◌, min, List, [], ◌∷◌, map, length, take, pos, ◌+ℤ◌, ◌≤ℤ◌, ◌<ℤ◌, sym, refl, ap, ◌∙◌, subst, ⊎_elim, arith}
use borrow.Author.Differences.{ints}
use Rattle.std.proofs.lemmas.Int.{by_lt_z}
use Rattle.std.proofs.lemmas.Bool.{cases_lt}
use Rattle.monoid.specs.declared.summary.DeficitSummary.{DeficitSummary}
use Rattle.monoid.specs.declared.summary.DeficitPlain.{DeficitPlain}
use Rattle.monoid.specs.Folds.{total}
use Rattle.monoid.specs.Deficits.{numbers, overfull, none, join}
use Rattle.monoid.specs.Steps.{Step, departs, arrives, rise, level, of_step, SumsUp}
use Rattle.monoid.specs.Laws.{Joins, StepsSummed, StepsOverfull}
use Rattle.monoid.specs.DeficitsLemmas.{fields, left, right, assoc}
use Rattle.monoid.proofs.Deficits.{join_rules}
use Rattle.monoid.specs.FoldsLemmas.{total_cons}

abbrev sum_of : List Step → DeficitSummary
sum_of steps = total none join (map of_step steps)

sum_of_cons : (p : Step) (ps : List Step) → sum_of (p ∷ ps) ≡ join (of_step p) (sum_of ps)
sum_of_cons p ps = total_cons none join left right assoc (of_step p) (map of_step ps)

-- ---- one step before others
record Single (p : Step) : Type 0 where
  count : (of_step p).count ≡ 1
  sum : (of_step p).sum ≡ rise p
  above : rise p ≤ℤ pos (of_step p).peak
  place : (of_step p).place ≤ 1
  reached : (ps : List Step) → level (take (of_step p).place (p ∷ ps)) ≡ pos (of_step p).peak
  rises : 0 < (of_step p).place → 0 < (of_step p).peak

single : (p : Step) → Single p
single departs = record { count = refl; sum = refl; above = omega (arith, ints); place = omega arith; reached = λ ps. refl; rises = λ h. omega arith }
single arrives = record { count = refl; sum = refl; above = omega (arith, ints); place = omega arith; reached = λ ps. refl; rises = λ h. absurd (omega arith) }

sums_up_cons : (p : Step) (ps : List Step) (y z : DeficitSummary) → suc (length ps) ≤ 65535 → SumsUp ps y → Joins (of_step p) y z → SumsUp (p ∷ ps) z
sums_up_cons p ps y z short h j = by_lt_z (pos (of_step p).peak) ((of_step p).sum +ℤ pos y.peak) passes stands
  where
    one : Single p
    one = single p

    fits : (of_step p).count + y.count ≤ 65535
    fits = omega (arith, one.count, h.count)

    count : z.count ≡ suc (length ps)
    count = omega (arith, one.count, h.count, j.count fits)

    sum : z.sum ≡ rise p +ℤ level ps
    sum = omega (arith, ints, one.sum, h.sum, j.sum fits)

    passes : pos (of_step p).peak <ℤ ((of_step p).sum +ℤ pos y.peak) → SumsUp (p ∷ ps) z
    passes over =
        let peak : pos z.peak ≡ rise p +ℤ pos y.peak = omega (arith, ints, one.sum, (j.passes fits over).0) in
        let place : z.place ≡ suc y.place = omega (arith, one.count, (j.passes fits over).1) in
        record {
          count = count;
          sum = sum;
          highest = λ k w. highest peak k w;
          within = omega (arith, h.within);
          reached = ap (λ n. level (take n (p ∷ ps))) place ∙ ap (λ v. rise p +ℤ v) h.reached ∙ sym peak;
          first = λ k w. first over peak place k w;
        }
      where
        highest : pos z.peak ≡ rise p +ℤ pos y.peak → (k : ℕ) → k ≤ suc (length ps) → level (take k (p ∷ ps)) ≤ℤ pos z.peak
        highest e zero w = omega (arith, ints)
        highest e (suc k) w = omega (arith, ints, h.highest k (omega arith))

        first : pos (of_step p).peak <ℤ ((of_step p).sum +ℤ pos y.peak) → pos z.peak ≡ rise p +ℤ pos y.peak → z.place ≡ suc y.place → (k : ℕ) → k < z.place → level (take k (p ∷ ps)) <ℤ pos z.peak
        first o e f zero w = omega (arith, ints, one.sum)
        first o e f (suc k) w = omega (arith, ints, h.first k (omega arith))

    stands : ((of_step p).sum +ℤ pos y.peak) ≤ℤ pos (of_step p).peak → SumsUp (p ∷ ps) z
    stands under =
        let peak : z.peak ≡ (of_step p).peak = (j.stands fits under).0 in
        let place : z.place ≡ (of_step p).place = (j.stands fits under).1 in
        record {
          count = count;
          sum = sum;
          highest = λ k w. highest under peak k w;
          within = omega (arith, one.place);
          reached = ap (λ n. level (take n (p ∷ ps))) place ∙ one.reached ps ∙ ap pos (sym peak);
          first = λ k w. first peak place k w;
        }
      where
        highest : ((of_step p).sum +ℤ pos y.peak) ≤ℤ pos (of_step p).peak → z.peak ≡ (of_step p).peak → (k : ℕ) → k ≤ suc (length ps) → level (take k (p ∷ ps)) ≤ℤ pos z.peak
        highest u e zero w = omega (arith, ints)
        highest u e (suc k) w = omega (arith, ints, one.sum, h.highest k (omega arith))

        first : z.peak ≡ (of_step p).peak → z.place ≡ (of_step p).place → (k : ℕ) → k < z.place → level (take k (p ∷ ps)) <ℤ pos z.peak
        first e f zero w = omega (arith, ints, one.rises (omega arith))
        first e f (suc k) w = absurd (omega (arith, one.place))

-- ---- all of them
none_sums_up : SumsUp [] none
none_sums_up = record { count = refl; sum = refl; highest = λ k w. first_none k; within = omega arith; reached = refl; first = λ k w. absurd (omega arith) }
  where
    first_none : (k : ℕ) → level (take k []) ≤ℤ pos 0
    first_none zero = omega (arith, ints)
    first_none (suc k) = omega (arith, ints)

pub steps_summed : StepsSummed
steps_summed [] short = none_sums_up
steps_summed (p ∷ ps) short =
    let P : DeficitSummary → Type 0 = λ z. SumsUp (p ∷ ps) z in
    subst P (sym (sum_of_cons p ps)) (sums_up_cons p ps (sum_of ps) (join (of_step p) (sum_of ps)) short (steps_summed ps (omega arith)) (join_rules (of_step p) (sum_of ps)))

-- the count goes no further than 65,536
counted_more : (p : Step) (ps : List Step) (y z : DeficitSummary) → Joins (of_step p) y z → y.count ≡ min 65536 (length ps) → z.count ≡ min 65536 (suc (length ps))
counted_more p ps y z j h = ⊎_elim over within (cases_lt 65535 ((of_step p).count + y.count))
  where
    over : 65535 < (of_step p).count + y.count → z.count ≡ min 65536 (suc (length ps))
    over w = omega (arith, ap (λ (a : DeficitPlain). a.count) (j.over w), (single p).count)

    within : (of_step p).count + y.count ≤ 65535 → z.count ≡ min 65536 (suc (length ps))
    within w = omega (arith, j.count w, (single p).count)

counted : (steps : List Step) → (sum_of steps).count ≡ min 65536 (length steps)
counted [] = refl
counted (p ∷ ps) =
    ap (λ (z : DeficitSummary). z.count) (sum_of_cons p ps)
    ∙ counted_more p ps (sum_of ps) (join (of_step p) (sum_of ps)) (join_rules (of_step p) (sum_of ps)) (counted ps)

full_overfull : (x : DeficitSummary) → x.count ≡ 65536 → numbers x ≡ overfull
full_overfull x e = let rest = x.full e in fields (numbers x) overfull e rest.0 rest.1 rest.2

pub steps_overfull : StepsOverfull
steps_overfull steps over = full_overfull (sum_of steps) (omega (arith, counted steps))
