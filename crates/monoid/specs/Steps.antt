-- Departures and arrivals in their order, and the level after each.
use Rattle.std.specs.Prelude.{◌≡◌, ℕ, ◌<◌, ◌≤◌, List, [], ◌∷◌, length, take, ℤ, pos, negsuc, ◌+ℤ◌, ◌≤ℤ◌, ◌<ℤ◌, refl}
use Rattle.std.proofs.Common.{arith}
use Rattle.std.proofs.lemmas.Int.{ints}
use Rattle.monoid.specs.declared.summary.DeficitSummary.{DeficitSummary}
use Rattle.monoid.specs.Deficits.{four, summary, Consistent}

pub data Step : Type 0 where
  departs : Step
  arrives : Step

-- a departure raises the level by one, an arrival lowers it by one
abbrev pub rise : Step → ℤ
rise departs = pos 1
rise arrives = negsuc 0

-- the level after all of the steps
abbrev pub level : List Step → ℤ
level [] = pos 0
level (x ∷ xs) = rise x +ℤ level xs

pub departs_consistent : Consistent (four 1 (pos 1) 1 1)
departs_consistent = record { few = omega arith; low = omega (arith, ints); under = omega (arith, ints); high = omega arith; near = omega arith; flat = λ e. absurd (omega arith); full = λ e. absurd (omega arith) }

pub arrives_consistent : Consistent (four 1 (negsuc 0) 0 0)
arrives_consistent = record { few = omega arith; low = omega (arith, ints); under = omega (arith, ints); high = omega arith; near = omega arith; flat = λ _. refl; full = λ e. absurd (omega arith) }

-- the summary of one step
abbrev pub of_step : Step → DeficitSummary
of_step departs = summary (four 1 (pos 1) 1 1) departs_consistent
of_step arrives = summary (four 1 (negsuc 0) 0 0) arrives_consistent

-- what the summary of some steps tells: `take k steps` are the first k
pub record SumsUp (steps : List Step) (x : DeficitSummary) : Type 0 where
  pub count : x.count ≡ length steps
  -- the last level
  pub sum : x.sum ≡ level steps
  -- no level is above the peak
  pub highest : (k : ℕ) → k ≤ length steps → level (take k steps) ≤ℤ pos x.peak
  -- and the level at the place is the peak, for the first time
  pub within : x.place ≤ length steps
  pub reached : level (take x.place steps) ≡ pos x.peak
  pub first : (k : ℕ) → k < x.place → level (take k steps) <ℤ pos x.peak
