-- A timetable as books keep it. T is a timetable, es are a book's entries.
use Rattle.std.specs.Prelude.{◌≡◌, ℕ, ◌^◌, ◌<◌, true, List, [], ◌∷◌, map}
use Rattle.std.specs.List.{ContainsAt as Has, flat_map, AllByRecursion}
use Rattle.monoid.specs.declared.summary.DeficitSummary.{DeficitSummary}
use Rattle.monoid.specs.declared.fittings.Fittings.{Fittings}
use Rattle.monoid.specs.Steps.{departs, arrives, of_step}
use Rattle.monoid.specs.Sets.{set_of}
use Rattle.book.specs.Entries.{ascending}
use Rattle.run.specs.declared.Run.{Run}
use Rattle.run.specs.Minutes.{arrival_minute}
use Rattle.run.specs.Keys.{departure_key, arrival_key, departure_event, arrival_event}
use Rattle.timetable.specs.Ways.{Apart}

-- an event's entry: its key among events, and the summary of one departure or one arrival
abbrev pub departure_event_entry : Run → ℕ × DeficitSummary
departure_event_entry r = (departure_event r, of_step departs)

abbrev pub arrival_event_entry : Run → ℕ × DeficitSummary
arrival_event_entry r = (arrival_event r, of_step arrives)

-- a departure's entry among departures, an arrival's among arrivals: its key, and the fittings of its run
abbrev pub departure_entry : Run → ℕ × Fittings
departure_entry r = (departure_key r, set_of r.fittings)

abbrev pub arrival_entry : Run → ℕ × Fittings
arrival_entry r = (arrival_key r, set_of r.fittings)

-- the events of T: two entries for each run
abbrev pub events : List Run → List (ℕ × DeficitSummary)
events T = flat_map (λ r. departure_event_entry r ∷ arrival_event_entry r ∷ []) T

-- the departures and the arrivals of T: one entry for each run
abbrev pub departures : List Run → List (ℕ × Fittings)
departures T = map departure_entry T

abbrev pub arrivals : List Run → List (ℕ × Fittings)
arrivals T = map arrival_entry T

-- es lists the entries xs: it is in strictly rising key and has exactly them as members
pub record Lists {V : Type 0} (xs es : List (ℕ × V)) : Type 0 where
  pub rising : ascending es ≡ true
  pub all : (e : ℕ × V) → Has xs e → Has es e
  pub only : (e : ℕ × V) → Has es e → Has xs e

abbrev pub ListsEvents : List Run → List (ℕ × DeficitSummary) → Type 0
ListsEvents T es = Lists (events T) es

abbrev pub ListsDepartures : List Run → List (ℕ × Fittings) → Type 0
ListsDepartures T es = Lists (departures T) es

abbrev pub ListsArrivals : List Run → List (ℕ × Fittings) → Type 0
ListsArrivals T es = Lists (arrivals T) es

-- keys take the run's minutes and its number
pub record KeyFits (r : Run) : Type 0 where
  pub start : r.start < 2 ^ 32
  pub arrival : arrival_minute r < 2 ^ 32
  pub number : r.number < 2 ^ 16

-- run numbers are distinct, and keys take the runs: so no two runs have one key
pub record Keyed (T : List Run) : Type 0 where
  pub apart : Apart T
  pub fit : AllByRecursion KeyFits T
