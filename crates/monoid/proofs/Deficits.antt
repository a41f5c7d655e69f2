-- The join of deficit summaries by its cases, and what a broken record reads as.
use Rattle.std.proofs.Common.{◌≡◌, ◌+◌, ◌<◌, ◌≤◌, Bool, true, false, pos, ◌+ℤ◌, ◌≤ℤ◌, ◌<ℤ◌, refl, arith}
use Rattle.std.proofs.lemmas.Int.{ints}
use Rattle.std.proofs.lemmas.Bool.Decides.{nat_tests}
use Rattle.monoid.specs.declared.summary.DeficitSummary.{DeficitSummary}
use Rattle.monoid.specs.declared.summary.DeficitPlain.{DeficitPlain}
use Rattle.monoid.specs.Deficits.{numbers, zeros, overfull, reach, joined, Consistent, none, join, consistent, consistent_tells, read_by, record_read}
use Rattle.monoid.specs.DeficitsLemmas.{same, fields, read_kept}
use Rattle.monoid.specs.Laws.{RecordsRead, Joins}

-- the three ways through the code of a join: the counts pass the limit
module _ (a b r : DeficitPlain) where
  pub joined_full : 65535 < a.count + b.count → r ≡ overfull → r ≡ joined a b
  joined_full h e = grind (arith, nat_tests)

-- or they fit, and the peak stays or passes
module _ (a b r : DeficitPlain) (fits : a.count + b.count ≤ 65535) (n : r.count ≡ a.count + b.count) (s : r.sum ≡ a.sum +ℤ b.sum) where
  pub joined_stays : reach a b ≤ℤ pos a.peak → r.peak ≡ a.peak → r.place ≡ a.place → r ≡ joined a b
  joined_stays h m p = fields r (joined a b) (grind (arith, nat_tests, ints)) (grind (arith, nat_tests, ints)) (grind (arith, nat_tests, ints)) (grind (arith, nat_tests, ints))

  pub joined_passes : pos a.peak <ℤ reach a b → pos r.peak ≡ reach a b → r.place ≡ a.count + b.place → r ≡ joined a b
  joined_passes h m p = fields r (joined a b) (grind (arith, nat_tests, ints)) (grind (arith, nat_tests, ints)) (grind (arith, nat_tests, ints)) (grind (arith, nat_tests, ints))

pub join_rules : (x y : DeficitSummary) → Joins x y (join x y)
join_rules x y = record {
  over = λ h. fields (numbers (join x y)) overfull (grind (arith, nat_tests, ints)) (grind (arith, nat_tests, ints)) (grind (arith, nat_tests, ints)) (grind (arith, nat_tests, ints));
  count = λ fits. grind (arith, nat_tests, ints);
  sum = λ fits. grind (arith, nat_tests, ints);
  stands = λ fits h. (grind (arith, nat_tests, ints), grind (arith, nat_tests, ints));
  passes = λ fits h. (grind (arith, nat_tests, ints), grind (arith, nat_tests, ints));
}

-- what a record reads as
pub read_broken : (a : DeficitPlain) → (Consistent a → ⊥) → numbers (record_read a) ≡ zeros
read_broken a h = by (consistent a) refl
  where
    by : (t : Bool) (e : consistent a ≡ t) → numbers (read_by a t e) ≡ zeros
    by true e = absurd (h (consistent_tells a e))
    by false e = refl

pub records_read : RecordsRead
records_read = record { kept = read_kept; broken = λ a h. same (record_read a) none (read_broken a h) }
