-- Each wrong wording fails at a small timetable.
use Rattle.std.proofs.Common.{◌≡◌, ℕ, ◌+◌, ◌^◌, true, false, List, [], ◌∷◌, pos, neg_ℤ, refl, arith}
use Rattle.std.specs.List.{ContainsAt as Has, AllByRecursion as All}
use Rattle.std.proofs.ByRecursion.{all-has}
use Rattle.std.proofs.lemmas.Int.{ints}
use Rattle.monoid.specs.declared.summary.DeficitSummary.{DeficitSummary}
use Rattle.monoid.specs.Steps.{departs, arrives, of_step}
use Rattle.run.specs.declared.Run.{Run}
use Rattle.run.specs.Keys.{event_key}
use Rattle.timetable.specs.Table.{run_of, run_3, five}
use Rattle.timetable.proofs.OneNeed.{need_is, same_need}
use Rattle.figures.specs.Listed.{events, departure_event_entry, arrival_event_entry, Lists, ListsEvents, KeyFits}
use Rattle.figures.specs.Table.{events_of_five, departures_of_five}
use Rattle.figures.specs.Wrong.{departures_first, ReadDeparturesFirst, ReadLate, ReadWithoutNumbers, ReadAtAnyMinute, NumbersAcrossVaults, WrongReadings}
use Rattle.figures.proofs.Table.{whole_table}

-- ---- vault 0 in minute 200, where run 3 arrives and run 5 leaves, would be read as needing 3
abbrev out : ℕ → ℕ → ℕ → ℕ × DeficitSummary
out v t n = (event_key v t false n, of_step departs)

abbrev in' : ℕ → ℕ → ℕ → ℕ × DeficitSummary
in' v t n = (event_key v t true n, of_step arrives)

abbrev turned : List (ℕ × DeficitSummary)
turned = out 0 100 1 ∷ out 0 120 2 ∷ out 0 200 5 ∷ in' 0 200 3 ∷ in' 0 230 4 ∷ in' 0 260 5 ∷ out 1 150 3 ∷ in' 1 150 2 ∷ in' 1 160 1 ∷ out 1 170 4 ∷ []

turned_all : All (Has turned) (departures_first five)
turned_all = (
  (0, omega arith, λ d. refl),
  (
    (8, omega arith, λ d. refl),
    (
      (1, omega arith, λ d. refl),
      (
        (7, omega arith, λ d. refl),
        (
          (6, omega arith, λ d. refl),
          (
            (3, omega arith, λ d. refl),
            (
              (9, omega arith, λ d. refl),
              (
                (4, omega arith, λ d. refl),
                ((2, omega arith, λ d. refl), ((5, omega arith, λ d. refl), tt)),
              ),
            ),
          ),
        ),
      ),
    ),
  ),
)

turned_only : All (Has (departures_first five)) turned
turned_only = (
  (0, omega arith, λ d. refl),
  (
    (2, omega arith, λ d. refl),
    (
      (8, omega arith, λ d. refl),
      (
        (5, omega arith, λ d. refl),
        (
          (7, omega arith, λ d. refl),
          (
            (9, omega arith, λ d. refl),
            (
              (4, omega arith, λ d. refl),
              (
                (3, omega arith, λ d. refl),
                ((1, omega arith, λ d. refl), ((6, omega arith, λ d. refl), tt)),
              ),
            ),
          ),
        ),
      ),
    ),
  ),
)

first : ReadDeparturesFirst → ⊥
first h =
    let listed : Lists (departures_first five) turned = record { rising = refl; all = λ e m. all-has (Has turned) (departures_first five) e turned_all m; only = λ e m. all-has (Has (departures_first five)) turned e turned_only m } in
    let a = h five turned whole_table.keyed (omega arith) listed 0 in
    let e : ◌≡◌ {A = ℕ} 3 2 = same_need five 0 3 2 a.figure (need_is five 0) in
    omega arith

-- ---- the event after the one at vault 0's place is of minute 200, in which the level is 2, but not for the first time
late : ReadLate → ⊥
late h =
    let a = h five events_of_five whole_table.keyed (omega arith) whole_table.events_listed 0 in
    a.minute.1.first 120 (omega arith) refl

-- ---- two runs alike in all parts have their two keys once
abbrev twin : Run
twin = run_of 1 0 1 100 110 0

abbrev twins : List Run
twins = twin ∷ twin ∷ []

abbrev twin_events : List (ℕ × DeficitSummary)
twin_events = departure_event_entry twin ∷ arrival_event_entry twin ∷ []

twin_number : ReadWithoutNumbers → ⊥
twin_number h =
    let all : All (Has twin_events) (events twins) = ((0, omega arith, λ d. refl), ((1, omega arith, λ d. refl), ((0, omega arith, λ d. refl), ((1, omega arith, λ d. refl), tt)))) in
    let only : All (Has (events twins)) twin_events = ((0, omega arith, λ d. refl), ((1, omega arith, λ d. refl), tt)) in
    let listed : ListsEvents twins twin_events = record { rising = refl; all = λ e m. all-has (Has twin_events) (events twins) e all m; only = λ e m. all-has (Has (events twins)) twin_events e only m } in
    let fits : All KeyFits twins = (record { start = omega arith; arrival = omega arith; number = omega arith }, (record { start = omega arith; arrival = omega arith; number = omega arith }, tt)) in
    let a = h twins twin_events fits (omega arith) listed 0 in
    let e : ◌≡◌ {A = ℕ} 1 2 = same_need twins 0 1 2 a.figure (need_is twins 0) in
    omega arith

-- ---- past the last minute of vault 0 stand the events of vault 1
any : ReadAtAnyMinute → ⊥
any h =
    let e : neg_ℤ (pos 1) ≡ pos 0 = h five events_of_five whole_table.keyed (omega arith) whole_table.events_listed 0 (2 ^ 32 + 165) in
    omega (arith, ints)

-- ---- run 3 is the first departure of vault 1, after three of vault 0
across : NumbersAcrossVaults → ⊥
across h =
    let e : ◌≡◌ {A = ℕ} 4 1 = h five departures_of_five whole_table.keyed whole_table.departures_listed run_3 (2, omega arith, λ d. refl) in
    omega arith

pub wrong_readings : WrongReadings
wrong_readings = record { departures_before_arrivals = first; one_event_late = late; one_number = twin_number; any_minute = any; across_vaults = across }
