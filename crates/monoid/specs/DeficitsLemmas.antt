-- The laws of the join of deficit summaries and of their records.
use Rattle.std.specs.Prelude.{◌≡◌, Bool, true, false, refl}
use Rattle.std.proofs.Common.{ap, arith}
use Rattle.std.proofs.lemmas.Int.{ints}
use denote.Struct.Record.{values_one}
use Rattle.std.proofs.lemmas.Bool.Decides.{nat_tests}
use Rattle.std.proofs.lemmas.Bool.{both_ways}
use Rattle.monoid.specs.contracts.summary.DeficitSummary.{struct, the_propositions}
use Rattle.monoid.specs.declared.summary.DeficitSummary.{DeficitSummary}
use Rattle.monoid.specs.declared.summary.DeficitPlain.{DeficitPlain}
use Rattle.monoid.specs.Deficits.{numbers, zeros, joined, Consistent, consistency, none, join, consistent, read_by, record_read}

-- two summaries with the same numbers are one
pub same : (x y : DeficitSummary) → numbers x ≡ numbers y → x ≡ y
same x y e = values_one struct the_propositions x y (ap (λ (a : DeficitPlain). (a.count, (a.sum, (a.peak, (a.place, tt))))) e)

pub fields : (a b : DeficitPlain) → a.count ≡ b.count → a.sum ≡ b.sum → a.peak ≡ b.peak → a.place ≡ b.place → a ≡ b
fields a b e f g h = λ i. record { count = e i; sum = f i; peak = g i; place = h i }

-- ---- the laws, on the four numbers
joined_left : (a : DeficitPlain) → Consistent a → joined zeros a ≡ a
joined_left a h = fields (joined zeros a) a (grind (arith, nat_tests, ints)) (grind (arith, nat_tests, ints)) (grind (arith, nat_tests, ints)) (grind (arith, nat_tests, ints))

joined_right : (a : DeficitPlain) → Consistent a → joined a zeros ≡ a
joined_right a h = fields (joined a zeros) a (grind (arith, nat_tests, ints)) (grind (arith, nat_tests, ints)) (grind (arith, nat_tests, ints)) (grind (arith, nat_tests, ints))

joined_assoc : (a b c : DeficitPlain) → joined (joined a b) c ≡ joined a (joined b c)
joined_assoc a b c =
    fields (joined (joined a b) c) (joined a (joined b c)) (grind (arith, nat_tests, ints)) (grind (arith, nat_tests, ints)) (grind (arith, nat_tests, ints)) (grind (arith, nat_tests, ints))

-- ---- and on summaries
pub left : (x : DeficitSummary) → join none x ≡ x
left x = same (join none x) x (joined_left (numbers x) (consistency x))

pub right : (x : DeficitSummary) → join x none ≡ x
right x = same (join x none) x (joined_right (numbers x) (consistency x))

pub assoc : (x y z : DeficitSummary) → join (join x y) z ≡ join x (join y z)
assoc x y z = same (join (join x y) z) (join x (join y z)) (joined_assoc (numbers x) (numbers y) (numbers z))

-- ---- what a summary's record reads as
consistent_holds : (a : DeficitPlain) → Consistent a → consistent a ≡ true
consistent_holds a h = grind (arith, nat_tests, ints)

pub read_kept : (a : DeficitPlain) → Consistent a → numbers (record_read a) ≡ a
read_kept a h = by (consistent a) refl
  where
    by : (t : Bool) (e : consistent a ≡ t) → numbers (read_by a t e) ≡ a
    by true e = refl
    by false e = absurd (both_ways (consistent a) e (consistent_holds a h))

pub back : (x : DeficitSummary) → record_read (numbers x) ≡ x
back x = same (record_read (numbers x)) x (read_kept (numbers x) (consistency x))
