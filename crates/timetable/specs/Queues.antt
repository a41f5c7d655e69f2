-- The departures and arrivals of a vault, in order.
use Rattle.std.specs.Prelude.{◌≡◌, ℕ, ◌-◌, ◌<◌, Bool, true, List, length, filter, nat_eq, slice_index_or}
use Rattle.run.specs.declared.Run.{Run}
use Rattle.timetable.specs.Ways.{SameRuns}
use Rattle.timetable.specs.Fifo.{leaves_before, comes_before}

-- element i of the list, counted from 1 (d where there is none)
abbrev pub item : List Run → ℕ → Run → Run
item xs i d = slice_index_or xs (i - 1) d

-- the list is in strict order: what stands earlier in it is before what stands later
abbrev pub InOrder : (Run → Run → Bool) → List Run → Type 0
InOrder before xs = (i j : ℕ) (d : Run) → i < j → j < length xs → before (slice_index_or xs i d) (slice_index_or xs j d) ≡ true

-- D are the departures of v, by start and then run number
pub record Departures (T : List Run) (v : ℕ) (D : List Run) : Type 0 where
  pub same : SameRuns D (filter (λ r. nat_eq r.from v) T)
  pub ordered : InOrder leaves_before D

-- A are the arrivals of v, by arrival minute and then run number
pub record Arrivals (T : List Run) (v : ℕ) (A : List Run) : Type 0 where
  pub same : SameRuns A (filter (λ r. nat_eq r.to v) T)
  pub ordered : InOrder comes_before A
