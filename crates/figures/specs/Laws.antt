-- What the folds of a timetable's books tell: the statements.
use Rattle.std.specs.Prelude.{◌≡◌, ℕ, ◌*◌, ◌^◌, ◌<◌, ◌≤◌, true, ◌↔◌, List, ◌∷◌, length, Some, None, count_by, Option, ◌≢◌, nat_eq}
use Rattle.std.specs.List.{ContainsAt as Has}
use Rattle.monoid.specs.declared.summary.DeficitSummary.{DeficitSummary}
use Rattle.monoid.specs.declared.fittings.Fittings.{Fittings}
use Rattle.monoid.specs.declared.seam.Stretch.{Stretch}
use Rattle.run.specs.declared.Run.{Run}
use Rattle.run.specs.Keys.{departure_key, arrival_key}
use Rattle.timetable.specs.Levels.{level, NeedAnswer, Needs}
use Rattle.timetable.specs.Fittings.{fittings_leaving, fittings_coming}
use Rattle.timetable.specs.Ways.{Apart, Chain}
use Rattle.timetable.specs.Fifo.{departure_number, arrival_number, box, brought_by, Before, After, Block, Fifo}
use Rattle.figures.specs.Listed.{ListsEvents, ListsDepartures, ListsArrivals, departure_entry, arrival_entry, Keyed}
use Rattle.figures.specs.Reading.{need_read, level_read, fittings_read, number_read, stop_read, before_read, after_read}
use Rattle.figures.specs.Seams.{Sewn}

-- a book of T's events, read for a need, answers it: the figure and the critical minute
abbrev pub NeedIsRead : Type 0
NeedIsRead = (T : List Run) (es : List (ℕ × DeficitSummary)) → Keyed T → 2 * length T ≤ 65535 → ListsEvents T es → (v : ℕ) → NeedAnswer T v (need_read es v)

-- and read for a level, it answers that
abbrev pub LevelIsRead : Type 0
LevelIsRead = (T : List Run) (es : List (ℕ × DeficitSummary)) → Keyed T → 2 * length T ≤ 65535 → ListsEvents T es → (v t : ℕ) → t < 2 ^ 32 → level_read es v t ≡ level T v t

-- a book of T's departures, read for fittings, answers those leaving, and one of its arrivals those coming
pub record FittingsAreRead : Type 0 where
  pub leaving : (T : List Run) (es : List (ℕ × Fittings)) → Keyed T → ListsDepartures T es → (v t1 t2 : ℕ) → t2 < 2 ^ 32 → fittings_read es v t1 t2 ≡ fittings_leaving T v t1 t2
  pub coming : (T : List Run) (es : List (ℕ × Fittings)) → Keyed T → ListsArrivals T es → (v t1 t2 : ℕ) → t2 < 2 ^ 32 → fittings_read es v t1 t2 ≡ fittings_coming T v t1 t2

-- the seam of some runs is sound exactly if they are a chain
abbrev pub SeamsTellChains : Type 0
SeamsTellChains = (r : Run) (rs : List Run) → (x : Stretch) × Sewn (r ∷ rs) x × ((x.sound ≡ true) ↔ Chain (r ∷ rs))

-- the seam of every first in, first out block is sound
abbrev pub BlocksAreSound : Type 0
BlocksAreSound = (T : List Run) (need : ℕ → ℕ) (B : List Block) → Needs T need → Apart T → Fifo T need B → (b : Block) → Has B b → (x : Stretch) × Sewn b.runs x × (x.sound ≡ true)

-- the number of a departure, and of an arrival, is read as how many keys of its vault are below its own, and one
pub record NumbersAreRead : Type 0 where
  pub departures : (T : List Run) (es : List (ℕ × Fittings)) → Keyed T → ListsDepartures T es → (r : Run) → Has T r → number_read es r.from (departure_key r) ≡ departure_number T r
  pub arrivals : (T : List Run) (es : List (ℕ × Fittings)) → Keyed T → ListsArrivals T es → (r : Run) → Has T r → number_read es r.to (arrival_key r) ≡ arrival_number T r

-- what stands at stop i of v, by the vault, the number and the entry of each run's stop
pub record StopAt (T : List Run) (vault number : Run → ℕ) (entry : Run → ℕ × Fittings) (v i : ℕ) (answer : Option (ℕ × Fittings)) : Type 0 where
  -- the stop of the run that has number i at v
  pub found : (r : Run) → Has T r → vault r ≡ v → number r ≡ i → answer ≡ Some (entry r)
  -- some run has it, up to as many as v has
  pub there : i ≤ count_by (λ r. nat_eq (vault r) v) T → (r : Run) × Has T r × (vault r ≡ v) × (number r ≡ i)
  -- beyond, there is none, or the stop of another vault
  pub beyond : count_by (λ r. nat_eq (vault r) v) T < i → (e : ℕ × Fittings) → answer ≡ Some e → (r : Run) × Has T r × (entry r ≡ e) × (vault r ≢ v)

-- departure i and arrival i of a vault are read as the entry at that place of its stretch
pub record StopsAreRead : Type 0 where
  pub departures : (T : List Run) (es : List (ℕ × Fittings)) → Keyed T → ListsDepartures T es → (v i : ℕ) → 1 ≤ i → StopAt T (λ r. r.from) (departure_number T) departure_entry v i (stop_read es v i)
  pub arrivals : (T : List Run) (es : List (ℕ × Fittings)) → Keyed T → ListsArrivals T es → (v i : ℕ) → 1 ≤ i → StopAt T (λ r. r.to) (arrival_number T) arrival_entry v i (stop_read es v i)

-- what r takes its box from, read off the departures outs and the arrivals ins
pub record BeforeRead (T : List Run) (need : ℕ → ℕ) (outs ins : List (ℕ × Fittings)) (r : Run) : Type 0 where
  -- up to the need, the box with the number of the departure
  pub box_out : number_read outs r.from (departure_key r) ≤ need r.from → Before T need r (box r.from (number_read outs r.from (departure_key r)))
  -- past it, the run whose arrival is read
  pub run_in : need r.from < number_read outs r.from (departure_key r) → (s : Run) × Before T need r (brought_by s) × (before_read outs ins (need r.from) r ≡ Some (arrival_entry s))

-- what takes r's box next
pub record AfterRead (T : List Run) (need : ℕ → ℕ) (outs ins : List (ℕ × Fittings)) (r : Run) : Type 0 where
  -- a run, whose departure is read
  pub next : (s : Run) → After T need r (Some s) → after_read outs ins (need r.to) r ≡ Some (departure_entry s)
  -- or none: then nothing is read, or a departure of another vault
  pub last : After T need r None → (e : ℕ × Fittings) → after_read outs ins (need r.to) r ≡ Some e → (s : Run) × Has T s × (departure_entry s ≡ e) × (s.from ≢ r.to)

abbrev pub LinksAreRead : Type 0
LinksAreRead = (T : List Run) (need : ℕ → ℕ) (outs ins : List (ℕ × Fittings)) → Keyed T → Needs T need → ListsDepartures T outs → ListsArrivals T ins → (r : Run) → Has T r → BeforeRead T need outs ins r × AfterRead T need outs ins r
