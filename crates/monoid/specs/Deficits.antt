-- Deficit summaries: their numbers, their join, and how a plain record reads.
use Rattle.std.specs.Prelude.{◌≡◌, ℕ, ◌+◌, ◌≤◌, Bool, true, false, cond, ◌&&◌, ℤ, pos, negsuc, ◌+ℤ◌, neg_ℤ, ◌≤ℤ◌, ◌==◌, int_le, nat_le, nat_lt, unsigned_abs, refl}
use Rattle.std.proofs.Common.{arith, ltb-false}
use Rattle.std.proofs.lemmas.Int.{ints}
use Rattle.std.proofs.lemmas.Bool.Decides.{nat_tests}
use Rattle.monoid.specs.declared.summary.DeficitSummary.{DeficitSummary}
use Rattle.monoid.specs.declared.summary.DeficitPlain.{DeficitPlain}

-- count, sum, peak, place
abbrev pub four : ℕ → ℤ → ℕ → ℕ → DeficitPlain
four n s m p = record { count = n; sum = s; peak = m; place = p }

-- the numbers of a summary, without what holds of them
abbrev pub numbers : DeficitSummary → DeficitPlain
numbers x = four x.count x.sum x.peak x.place

abbrev pub zeros : DeficitPlain
zeros = four 0 (pos 0) 0 0

abbrev pub overfull : DeficitPlain
overfull = four 65536 (pos 0) 0 0

-- what holds of a summary's numbers
pub record Consistent (a : DeficitPlain) : Type 0 where
  pub few : a.count ≤ 65536
  pub low : neg_ℤ (pos a.count) ≤ℤ a.sum
  pub under : a.sum ≤ℤ pos a.peak
  pub high : a.peak ≤ a.count
  pub near : a.place ≤ a.count
  pub flat : a.peak ≡ 0 → a.place ≡ 0
  pub full : a.count ≡ 65536 → (a.sum ≡ pos 0) × (a.peak ≡ 0) × (a.place ≡ 0)

pub consistency : (x : DeficitSummary) → Consistent (numbers x)
consistency x = record { few = x.few; low = x.low; under = x.under; high = x.high; near = x.near; flat = x.flat; full = x.full }

abbrev pub summary : (a : DeficitPlain) → Consistent a → DeficitSummary
summary a h = record { count = a.count; sum = a.sum; peak = a.peak; place = a.place; few = h.few; low = h.low; under = h.under; high = h.high; near = h.near; flat = h.flat; full = h.full }

-- ---- the join
-- the highest level of b, which begins at the last level of a
abbrev pub reach : DeficitPlain → DeficitPlain → ℤ
reach a b = a.sum +ℤ pos b.peak

-- a's peak stands where b reaches no higher
abbrev pub stands : DeficitPlain → DeficitPlain → Bool
stands a b = int_le (reach a b) (pos a.peak)

abbrev pub beside : DeficitPlain → DeficitPlain → DeficitPlain
beside a b = record {
  count = a.count + b.count;
  sum = a.sum +ℤ b.sum;
  peak = cond (stands a b) a.peak (unsigned_abs (reach a b));
  place = cond (stands a b) a.place (a.count + b.place);
}

abbrev pub joined : DeficitPlain → DeficitPlain → DeficitPlain
joined a b = cond (nat_lt 65535 (a.count + b.count)) overfull (beside a b)

-- a join keeps what holds of both
pub zeros_consistent : Consistent zeros
zeros_consistent = record { few = omega arith; low = omega (arith, ints); under = omega (arith, ints); high = omega arith; near = omega arith; flat = λ _. refl; full = λ e. (refl, refl, refl) }

pub overfull_consistent : Consistent overfull
overfull_consistent = record { few = omega arith; low = omega (arith, ints); under = omega (arith, ints); high = omega arith; near = omega arith; flat = λ _. refl; full = λ _. (refl, refl, refl) }

pub beside_consistent : (a b : DeficitPlain) → Consistent a → Consistent b → a.count + b.count ≤ 65535 → Consistent (beside a b)
beside_consistent a b h k fits = by (stands a b) refl
  where
    by : (t : Bool) → stands a b ≡ t → Consistent (record { count = a.count + b.count; sum = a.sum +ℤ b.sum; peak = cond t a.peak (unsigned_abs (reach a b)); place = cond t a.place (a.count + b.place) })
    by true e = record { few = omega arith; low = omega (arith, ints); under = omega (arith, ints); high = omega arith; near = omega arith; flat = h.flat; full = λ f. absurd (omega arith) }
    by false e = record { few = omega arith; low = omega (arith, ints); under = omega (arith, ints); high = omega (arith, ints); near = omega arith; flat = λ z. absurd (omega (arith, ints)); full = λ f. absurd (omega arith) }

pub joined_consistent : (a b : DeficitPlain) → Consistent a → Consistent b → Consistent (joined a b)
joined_consistent a b h k = by (nat_lt 65535 (a.count + b.count)) refl
  where
    by : (t : Bool) → nat_lt 65535 (a.count + b.count) ≡ t → Consistent (cond t overfull (beside a b))
    by true e = overfull_consistent
    by false e = beside_consistent a b h k (omega (arith, ltb-false))

abbrev pub none : DeficitSummary
none = summary zeros zeros_consistent

abbrev pub join : DeficitSummary → DeficitSummary → DeficitSummary
join x y = summary (joined (numbers x) (numbers y)) (joined_consistent (numbers x) (numbers y) (consistency x) (consistency y))

-- ---- how a plain record reads
-- what holds of a summary's numbers, as a test
abbrev pub implies : Bool → Bool → Bool
implies true t = t
implies false t = true

abbrev pub is_zero : ℤ → Bool
is_zero (pos n) = n == 0
is_zero (negsuc n) = false

abbrev pub bounded : DeficitPlain → Bool
bounded a = nat_le a.count 65536 && (nat_le a.peak a.count && (nat_le a.place a.count && (int_le a.sum (pos a.peak) && int_le (neg_ℤ (pos a.count)) a.sum)))

abbrev pub consistent : DeficitPlain → Bool
consistent a = bounded a && (implies (a.peak == 0) (a.place == 0) && implies (a.count == 65536) (is_zero a.sum && (a.peak == 0 && a.place == 0)))

pub consistent_tells : (a : DeficitPlain) → consistent a ≡ true → Consistent a
consistent_tells a e = record {
  few = grind (arith, nat_tests, ints);
  low = grind (arith, nat_tests, ints);
  under = grind (arith, nat_tests, ints);
  high = grind (arith, nat_tests, ints);
  near = grind (arith, nat_tests, ints);
  flat = λ z. grind (arith, nat_tests, ints);
  full = λ z. (grind (arith, nat_tests, ints), grind (arith, nat_tests, ints), grind (arith, nat_tests, ints));
}

abbrev pub read_by : (a : DeficitPlain) (t : Bool) → consistent a ≡ t → DeficitSummary
read_by a true e = summary a (consistent_tells a e)
read_by a false e = none

-- a record that is not consistent reads as the unit
abbrev pub record_read : DeficitPlain → DeficitSummary
record_read a = read_by a (consistent a) refl
