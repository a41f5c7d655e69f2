-- What is read off a book by its calls: fold, below and at.
use Rattle.std.specs.Prelude.{ℕ, ◌+◌, ◌-◌, cond, List, ℤ, Some, None, Option, ◌==◌}
use Rattle.std.specs.List.{slice_get}
use Rattle.monoid.specs.declared.summary.DeficitSummary.{DeficitSummary}
use Rattle.monoid.specs.declared.fittings.Fittings.{Fittings}
use Rattle.monoid.specs.Deficits.{none, join}
use Rattle.monoid.specs.Sets.{set_of, union}
use Rattle.book.specs.Entries.{count_below, fold_between}
use Rattle.run.specs.declared.Run.{Run}
use Rattle.run.specs.declared.stretch.Stretch.{Stretch}
use Rattle.run.specs.Keys.{departure_key, arrival_key, event_minute}
use Rattle.run.specs.Stretches.{stops_of, stops_in, events_of, events_to}

-- the fold of a stretch of events, and of a stretch of departures or arrivals
abbrev pub summary_in : Stretch → List (ℕ × DeficitSummary) → DeficitSummary
summary_in s es = fold_between none join s.lo s.hi es

abbrev pub fittings_in : Stretch → List (ℕ × Fittings) → Fittings
fittings_in s es = fold_between (set_of 0) union s.lo s.hi es

-- entry k of a stretch, counted from 0: that many places after the first of the stretch
abbrev pub entry_of : {V : Type 0} → Stretch → ℕ → List (ℕ × V) → Option (ℕ × V)
entry_of s k es = slice_get es (count_below s.lo es + k)

-- the minute of an event, if there is one
abbrev pub minute_of : Option (ℕ × DeficitSummary) → Option ℕ
minute_of None = None
minute_of (Some e) = Some (event_minute e.0)

-- the minute that goes with a vault's summary: none where the peak is 0, else that of the event at the place
abbrev pub minute_read : List (ℕ × DeficitSummary) → ℕ → DeficitSummary → Option ℕ
minute_read es v s = cond (s.peak == 0) None (minute_of (entry_of (events_of v) (s.place - 1) es))

-- the need of v with its critical minute: fold the vault's events, then look up the event at the place
abbrev pub need_read : List (ℕ × DeficitSummary) → ℕ → ℕ × Option ℕ
need_read es v = ((summary_in (events_of v) es).peak, minute_read es v (summary_in (events_of v) es))

-- the level of v at t: the sum of the vault's events up to t
abbrev pub level_read : List (ℕ × DeficitSummary) → ℕ → ℕ → ℤ
level_read es v t = (summary_in (events_to v t) es).sum

-- the fittings of the stops of v from t1 to t2
abbrev pub fittings_read : List (ℕ × Fittings) → ℕ → ℕ → ℕ → ℕ
fittings_read es v t1 t2 = (fittings_in (stops_in v t1 t2) es).0

-- the number of the stop at a key of the vault v, counted from 1
abbrev pub number_read : List (ℕ × Fittings) → ℕ → ℕ → ℕ
number_read es v key = count_below key es - count_below (stops_of v).lo es + 1

-- stop i of v, counted from 1
abbrev pub stop_read : List (ℕ × Fittings) → ℕ → ℕ → Option (ℕ × Fittings)
stop_read es v i = entry_of (stops_of v) (i - 1) es

-- outs are the entries of departures, ins those of arrivals, need is that of the vault
-- the arrival that brought the box of departure i, past the need: arrival i - need
abbrev pub before_read : (outs ins : List (ℕ × Fittings)) (need : ℕ) → Run → Option (ℕ × Fittings)
before_read outs ins need r = stop_read ins r.from (number_read outs r.from (departure_key r) - need)

-- the departure that takes the box of arrival j: departure need + j
abbrev pub after_read : (outs ins : List (ℕ × Fittings)) (need : ℕ) → Run → Option (ℕ × Fittings)
after_read outs ins need r = stop_read outs r.to (need + number_read ins r.to (arrival_key r))
