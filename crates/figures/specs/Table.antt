-- The worked table: two joins, the five runs, and what their books answer.
use Rattle.std.specs.Prelude.{◌≡◌, ℕ, true, List, [], ◌∷◌, map, ℤ, pos, neg_ℤ, Some, None}
use Rattle.monoid.specs.declared.summary.DeficitSummary.{DeficitSummary}
use Rattle.monoid.specs.declared.fittings.Fittings.{Fittings}
use Rattle.monoid.specs.Deficits.{four, numbers, join}
use Rattle.monoid.specs.Steps.{departs, arrives, of_step}
use Rattle.monoid.specs.Seams.{stop}
use Rattle.timetable.specs.Table.{run_1, run_2, run_3, run_4, run_5, five, WorkedTable}
use Rattle.figures.specs.Listed.{departure_event_entry, arrival_event_entry, departure_entry, arrival_entry, ListsEvents, ListsDepartures, ListsArrivals, Keyed}
use Rattle.figures.specs.Reading.{need_read, level_read, fittings_read}
use Rattle.figures.specs.Seams.{seam_of}

-- the entries of the five runs in key order: by vault, minute, arrivals before departures, run number
abbrev pub events_of_five : List (ℕ × DeficitSummary)
events_of_five =
    departure_event_entry run_1 ∷ departure_event_entry run_2 ∷ arrival_event_entry run_3 ∷ departure_event_entry run_5 ∷ arrival_event_entry run_4 ∷ arrival_event_entry run_5
    ∷ arrival_event_entry run_2 ∷ departure_event_entry run_3 ∷ arrival_event_entry run_1 ∷ departure_event_entry run_4 ∷ []

abbrev pub departures_of_five : List (ℕ × Fittings)
departures_of_five = departure_entry run_1 ∷ departure_entry run_2 ∷ departure_entry run_5 ∷ departure_entry run_3 ∷ departure_entry run_4 ∷ []

abbrev pub arrivals_of_five : List (ℕ × Fittings)
arrivals_of_five = arrival_entry run_3 ∷ arrival_entry run_4 ∷ arrival_entry run_5 ∷ arrival_entry run_2 ∷ arrival_entry run_1 ∷ []

-- the levels of v that are read at the minutes in which something happens
abbrev pub levels_read : List (ℕ × DeficitSummary) → ℕ → List ℤ
levels_read es v = map (level_read es v) (100 ∷ 120 ∷ 150 ∷ 160 ∷ 170 ∷ 200 ∷ 230 ∷ 260 ∷ [])

pub record WholeTable : Type 0 where
  -- a departure and then an arrival join to (2, 0, 1, 1), and the other way round to (2, 0, 0, 0)
  pub departure_then_arrival : numbers (join (of_step departs) (of_step arrives)) ≡ four 2 (pos 0) 1 1
  pub arrival_then_departure : numbers (join (of_step arrives) (of_step departs)) ≡ four 2 (pos 0) 0 0
  -- the five runs, against the definitions: levels, needs, links, blocks, fittings, and the totals commonly miscounted
  pub runs : WorkedTable
  -- the lists above are the entries of the five runs
  pub keyed : Keyed five
  pub events_listed : ListsEvents five events_of_five
  pub departures_listed : ListsDepartures five departures_of_five
  pub arrivals_listed : ListsArrivals five arrivals_of_five
  -- vault 0 is read as needing 2, first at 120, and vault 1 as needing 0, at no minute
  pub need_read_of_0 : need_read events_of_five 0 ≡ (2, Some 120)
  pub need_read_of_1 : need_read events_of_five 1 ≡ (0, None)
  pub levels_read_of_0 : levels_read events_of_five 0 ≡ pos 1 ∷ pos 2 ∷ pos 2 ∷ pos 2 ∷ pos 2 ∷ pos 2 ∷ pos 1 ∷ pos 0 ∷ []
  pub levels_read_of_1 : levels_read events_of_five 1 ≡ pos 0 ∷ pos 0 ∷ pos 0 ∷ neg_ℤ (pos 1) ∷ pos 0 ∷ pos 0 ∷ pos 0 ∷ pos 0 ∷ []
  -- fittings leaving vault 0 from 100 to 120 are read as 3, and coming to it from 200 to 230 as 5
  pub leaving_read : fittings_read departures_of_five 0 100 120 ≡ 3
  pub coming_read : fittings_read arrivals_of_five 0 200 230 ≡ 5
  -- the seams of the two blocks, sound
  pub seam_of_box_1 : seam_of (run_1 ∷ run_4 ∷ []) ≡ Some (record { first = stop 0 100; last = stop 0 230; sound = true })
  pub seam_of_box_2 : seam_of (run_2 ∷ run_3 ∷ run_5 ∷ []) ≡ Some (record { first = stop 0 120; last = stop 0 260; sound = true })
