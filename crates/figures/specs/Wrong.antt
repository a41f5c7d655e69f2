-- Wrong wordings of what the folds tell. Each is refuted by a small timetable.
use Rattle.std.specs.Prelude.{◌≡◌, ℕ, ◌+◌, ◌*◌, ◌≤◌, true, false, cond, List, [], ◌∷◌, length, None, Option, ◌==◌}
use Rattle.std.specs.List.{ContainsAt as Has, flat_map, AllByRecursion}
use Rattle.monoid.specs.declared.summary.DeficitSummary.{DeficitSummary}
use Rattle.monoid.specs.declared.fittings.Fittings.{Fittings}
use Rattle.monoid.specs.Steps.{departs, arrives, of_step}
use Rattle.book.specs.Entries.{count_below}
use Rattle.run.specs.declared.Run.{Run}
use Rattle.run.specs.Minutes.{arrival_minute}
use Rattle.run.specs.Keys.{event_key, departure_key}
use Rattle.run.specs.Stretches.{events_of}
use Rattle.timetable.specs.Levels.{level, NeedAnswer}
use Rattle.timetable.specs.Fifo.{departure_number}
use Rattle.figures.specs.Listed.{Lists, ListsEvents, ListsDepartures, KeyFits, Keyed}
use Rattle.figures.specs.Reading.{summary_in, entry_of, minute_of, need_read, level_read}

-- wrong: in one minute departures come before arrivals
abbrev pub departures_first : List Run → List (ℕ × DeficitSummary)
departures_first T = flat_map (λ r. (event_key r.from r.start false r.number, of_step departs) ∷ (event_key r.to (arrival_minute r) true r.number, of_step arrives) ∷ []) T

abbrev pub ReadDeparturesFirst : Type 0
ReadDeparturesFirst = (T : List Run) (es : List (ℕ × DeficitSummary)) → Keyed T → 2 * length T ≤ 65535 → Lists (departures_first T) es → (v : ℕ) → NeedAnswer T v (need_read es v)

-- wrong: the critical minute is that of the event after the one at the place
abbrev pub need_read_late : List (ℕ × DeficitSummary) → ℕ → ℕ × Option ℕ
need_read_late es v =
    let s = summary_in (events_of v) es in
    (s.peak, cond (s.peak == 0) None (minute_of (entry_of (events_of v) s.place es)))

abbrev pub ReadLate : Type 0
ReadLate = (T : List Run) (es : List (ℕ × DeficitSummary)) → Keyed T → 2 * length T ≤ 65535 → ListsEvents T es → (v : ℕ) → NeedAnswer T v (need_read_late es v)

-- wrong: two runs may have one run number
abbrev pub ReadWithoutNumbers : Type 0
ReadWithoutNumbers = (T : List Run) (es : List (ℕ × DeficitSummary)) → AllByRecursion KeyFits T → 2 * length T ≤ 65535 → ListsEvents T es → (v : ℕ) → NeedAnswer T v (need_read es v)

-- wrong: a level can be read at a minute that no key takes
abbrev pub ReadAtAnyMinute : Type 0
ReadAtAnyMinute = (T : List Run) (es : List (ℕ × DeficitSummary)) → Keyed T → 2 * length T ≤ 65535 → ListsEvents T es → (v t : ℕ) → level_read es v t ≡ level T v t

-- wrong: all keys below a departure's count for its number, those of other vaults too
abbrev pub NumbersAcrossVaults : Type 0
NumbersAcrossVaults = (T : List Run) (es : List (ℕ × Fittings)) → Keyed T → ListsDepartures T es → (r : Run) → Has T r → count_below (departure_key r) es + 1 ≡ departure_number T r

-- none of them holds
pub record WrongReadings : Type 0 where
  pub departures_before_arrivals : ReadDeparturesFirst → ⊥
  pub one_event_late : ReadLate → ⊥
  pub one_number : ReadWithoutNumbers → ⊥
  pub any_minute : ReadAtAnyMinute → ⊥
  pub across_vaults : NumbersAcrossVaults → ⊥
