-- What the monoids are for.
use Rattle.std.specs.Prelude.{◌≡◌, ℕ, ◌+◌, ◌<◌, ◌≤◌, List, [], ◌∷◌, map, length, Some, None, pos, ◌+ℤ◌, ◌≤ℤ◌, ◌<ℤ◌, slice_index}
use Rattle.monoid.specs.declared.summary.DeficitSummary.{DeficitSummary}
use Rattle.monoid.specs.declared.summary.DeficitPlain.{DeficitPlain}
use Rattle.monoid.specs.declared.seam.Stretch.{Stretch}
use Rattle.monoid.specs.Folds.{total}
use Rattle.monoid.specs.Deficits.{numbers, overfull, Consistent, none, join, record_read}
use Rattle.monoid.specs.Steps.{Step, of_step, SumsUp}
use Rattle.monoid.specs.Sets.{set_of, union, Bit}
use Rattle.monoid.specs.Seams.{Leg, of_leg, seamed, Sews}

-- a deficit record reads as its own numbers where they are a summary's, else as the unit
pub record RecordsRead : Type 0 where
  pub kept : (a : DeficitPlain) → Consistent a → numbers (record_read a) ≡ a
  pub broken : (a : DeficitPlain) → (Consistent a → ⊥) → record_read a ≡ none

-- the join of two summaries, whose counts together pass 65,535 or not
pub record Joins (x y z : DeficitSummary) : Type 0 where
  pub over : 65535 < x.count + y.count → numbers z ≡ overfull
  pub count : x.count + y.count ≤ 65535 → z.count ≡ x.count + y.count
  pub sum : x.count + y.count ≤ 65535 → z.sum ≡ x.sum +ℤ y.sum
  -- the peak is the larger of the two, and the place is the first's where it is no less
  pub stands : x.count + y.count ≤ 65535 → (x.sum +ℤ pos y.peak) ≤ℤ pos x.peak → (z.peak ≡ x.peak) × (z.place ≡ x.place)
  pub passes : x.count + y.count ≤ 65535 → pos x.peak <ℤ (x.sum +ℤ pos y.peak) → (pos z.peak ≡ x.sum +ℤ pos y.peak) × (z.place ≡ x.count + y.place)

abbrev pub JoinRules : Type 0
JoinRules = (x y : DeficitSummary) → Joins x y (join x y)

-- the fold of the summaries of at most 65,535 steps
abbrev pub StepsSummed : Type 0
StepsSummed = (steps : List Step) → length steps ≤ 65535 → SumsUp steps (total none join (map of_step steps))

-- and of more
abbrev pub StepsOverfull : Type 0
StepsOverfull = (steps : List Step) → 65535 < length steps → numbers (total none join (map of_step steps)) ≡ overfull

-- a bit is set in the fold exactly if it is set in some record
pub record United (sets : List ℕ) (i n : ℕ) : Type 0 where
  pub some : Bit i n → (k : ℕ) × (k < length sets) × Bit i (slice_index sets k)
  pub all : (k : ℕ) → k < length sets → Bit i (slice_index sets k) → Bit i n

abbrev pub BitsUnited : Type 0
BitsUnited = (sets : List ℕ) (i : ℕ) → i < 16 → United sets i (total (set_of 0) union (map set_of sets)).0

-- the fold of no run, and of a first and more
pub record RunsSeamed : Type 0 where
  pub nothing : total None seamed (map of_leg []) ≡ None
  pub runs : (r : Leg) (rest : List Leg) → (x : Stretch) × (total None seamed (map of_leg (r ∷ rest)) ≡ Some x) × Sews r rest x
