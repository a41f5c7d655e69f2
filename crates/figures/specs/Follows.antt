-- How the entries follow a timetable as a run is added or taken out: the statements.
use Rattle.std.specs.Prelude.{◌≡◌, ℕ, ◌*◌, false, ◌↔◌, List, [], ◌∷◌, map, length, Some}
use Rattle.std.specs.List.{ContainsAt as Has}
use Rattle.monoid.specs.declared.summary.DeficitSummary.{DeficitSummary}
use Rattle.monoid.specs.declared.fittings.Fittings.{Fittings}
use Rattle.monoid.specs.Steps.{departs, arrives, of_step}
use Rattle.book.specs.Entries.{held, value_of, inserted, removed}
use Rattle.run.specs.declared.Run.{Run}
use Rattle.run.specs.Keys.{departure_event, arrival_event}
use Rattle.figures.specs.Listed.{Lists, ListsEvents, departure_entry, arrival_entry, Keyed}

-- es with the departure of r in it
abbrev pub with_departure : Run → List (ℕ × DeficitSummary) → List (ℕ × DeficitSummary)
with_departure r es = inserted (departure_event r) (of_step departs) es

-- both keys of r are free when its departure and then its arrival are put in, and then the list has r too
pub record EventsAdded (T : List Run) (r : Run) (es : List (ℕ × DeficitSummary)) : Type 0 where
  pub departure_free : held (departure_event r) es ≡ false
  pub arrival_free : held (arrival_event r) (with_departure r es) ≡ false
  pub listed : ListsEvents (r ∷ T) (inserted (arrival_event r) (of_step arrives) (with_departure r es))

-- both entries of r are there when its departure and then its arrival are taken out, and then the list is without r
pub record EventsTaken (T : List Run) (r : Run) (es : List (ℕ × DeficitSummary)) : Type 0 where
  pub departure_there : value_of (departure_event r) es ≡ Some (of_step departs)
  pub arrival_there : value_of (arrival_event r) (removed (departure_event r) es) ≡ Some (of_step arrives)
  pub listed : ListsEvents T (removed (arrival_event r) (removed (departure_event r) es))

pub record EventsFollow : Type 0 where
  pub none : ListsEvents [] []
  -- the order of the timetable does not matter
  pub same : (T U : List Run) (es : List (ℕ × DeficitSummary)) → ((r : Run) → Has T r ↔ Has U r) → ListsEvents T es → ListsEvents U es
  pub count : (T : List Run) (es : List (ℕ × DeficitSummary)) → Keyed T → ListsEvents T es → length es ≡ 2 * length T
  pub added : (T : List Run) (r : Run) (es : List (ℕ × DeficitSummary)) → Keyed (r ∷ T) → ListsEvents T es → EventsAdded T r es
  pub taken : (T : List Run) (r : Run) (es : List (ℕ × DeficitSummary)) → Keyed (r ∷ T) → ListsEvents (r ∷ T) es → EventsTaken T r es

-- the same for one entry e, beside the entries xs
pub record StopAdded (xs es : List (ℕ × Fittings)) (e : ℕ × Fittings) : Type 0 where
  pub free : held e.0 es ≡ false
  pub listed : Lists (e ∷ xs) (inserted e.0 e.1 es)

pub record StopTaken (xs es : List (ℕ × Fittings)) (e : ℕ × Fittings) : Type 0 where
  pub there : value_of e.0 es ≡ Some e.1
  pub listed : Lists xs (removed e.0 es)

-- for departures, or for arrivals, by the entry of each run
pub record StopsFollow (entry : Run → ℕ × Fittings) : Type 0 where
  pub none : Lists (map entry []) []
  pub same : (T U : List Run) (es : List (ℕ × Fittings)) → ((r : Run) → Has T r ↔ Has U r) → Lists (map entry T) es → Lists (map entry U) es
  pub count : (T : List Run) (es : List (ℕ × Fittings)) → Keyed T → Lists (map entry T) es → length es ≡ length T
  pub added : (T : List Run) (r : Run) (es : List (ℕ × Fittings)) → Keyed (r ∷ T) → Lists (map entry T) es → StopAdded (map entry T) es (entry r)
  pub taken : (T : List Run) (r : Run) (es : List (ℕ × Fittings)) → Keyed (r ∷ T) → Lists (map entry (r ∷ T)) es → StopTaken (map entry T) es (entry r)

pub record BooksFollow : Type 0 where
  pub events : EventsFollow
  pub departures : StopsFollow departure_entry
  pub arrivals : StopsFollow arrival_entry
