-- First in, first out: links and blocks.
use Rattle.std.specs.Prelude.{◌≡◌, ℕ, ◌+◌, ◌-◌, ◌<◌, ◌≤◌, Bool, true, ◌&&◌, ◌||◌, List, [], ◌∷◌, map, Some, None, count_by, Option, ◌==◌, nat_eq, nat_lt}
use Rattle.std.specs.List.{ContainsAt as Has, AllByRecursion}
use Rattle.run.specs.declared.Run.{Run}
use Rattle.run.specs.Minutes.{arrival_minute}
use Rattle.timetable.specs.Ways.{SameRuns, runs_of}

-- the order of departures: by start and then run number
abbrev pub leaves_before : Run → Run → Bool
leaves_before s r = nat_lt s.start r.start || (s.start == r.start && nat_lt s.number r.number)

-- the order of arrivals: by arrival minute and then run number
abbrev pub comes_before : Run → Run → Bool
comes_before s r = nat_lt (arrival_minute s) (arrival_minute r) || (arrival_minute s == arrival_minute r && nat_lt s.number r.number)

-- how many of those in xs that pass the test stand before r
abbrev pub place : {X : Type 0} → (X → X → Bool) → (X → Bool) → List X → X → ℕ
place before test xs r = count_by (λ s. test s && before s r) xs

-- how many departures of r's from-vault stand before r
abbrev pub departures_before : List Run → Run → ℕ
departures_before T r = place leaves_before (λ s. nat_eq s.from r.from) T r

-- how many arrivals of r's to-vault stand before r
abbrev pub arrivals_before : List Run → Run → ℕ
arrivals_before T r = place comes_before (λ s. nat_eq s.to r.to) T r

-- r is departure i of its from-vault, counted from 1
abbrev pub departure_number : List Run → Run → ℕ
departure_number T r = departures_before T r + 1

-- r is arrival i of its to-vault, counted from 1
abbrev pub arrival_number : List Run → Run → ℕ
arrival_number T r = arrivals_before T r + 1

-- what a run takes its box from: a box that sets out (vault and number), or the run that brought the box
pub data Origin : Type 0 where
  box : ℕ → ℕ → Origin
  brought_by : Run → Origin

-- before: departure i of a vault takes box i of that vault, if i ≤ need; otherwise the box that arrival i - need brought
abbrev pub Before : List Run → (ℕ → ℕ) → Run → Origin → Type 0
Before T need s (box v i) = (v ≡ s.from) × (i ≡ departure_number T s) × (i ≤ need v)
Before T need s (brought_by r) = Has T r × (r.to ≡ s.from) × (need s.from < departure_number T s) × (arrival_number T r ≡ departure_number T s - need s.from)

-- s takes the box of r next: arrival j of a vault is taken by departure need + j of that vault
pub record Takes (T : List Run) (need : ℕ → ℕ) (r s : Run) : Type 0 where
  pub there : r.to ≡ s.from
  pub turn : departure_number T s ≡ need s.from + arrival_number T r

-- after: the run that takes this run's box next, or none
abbrev pub After : List Run → (ℕ → ℕ) → Run → Option Run → Type 0
After T need r (Some s) = Has T s × Takes T need r s
After T need r None = (s : Run) → Has T s → Takes T need r s → ⊥

-- a block: the vault and the number of a box, and its runs in the order in which it works them
pub record Block : Type 0 where
  pub vault : ℕ
  pub number : ℕ
  pub runs : List Run

-- the first of the runs takes box i out of v
abbrev pub Opens : List Run → (ℕ → ℕ) → ℕ → ℕ → List Run → Type 0
Opens T need v i [] = ⊥
Opens T need v i (r ∷ rs) = Before T need r (box v i)

-- each of the runs but the first takes the box that the one before it brought
abbrev pub Linked : List Run → (ℕ → ℕ) → List Run → Type 0
Linked T need [] = ⊥
Linked T need (r ∷ []) = Unit {0}
Linked T need (r ∷ s ∷ rs) = Before T need s (brought_by r) × Linked T need (s ∷ rs)

-- the block's runs take its box, one after another
pub record Boxed (T : List Run) (need : ℕ → ℕ) (b : Block) : Type 0 where
  pub opens : Opens T need b.vault b.number b.runs
  pub linked : Linked T need b.runs

-- the runs of each block
abbrev pub chains_of : List Block → List (List Run)
chains_of B = map (λ b. b.runs) B

-- B are the first in, first out blocks of T: they divide T, and each run takes the box that is its turn
pub record Fifo (T : List Run) (need : ℕ → ℕ) (B : List Block) : Type 0 where
  pub boxed : AllByRecursion (Boxed T need) B
  pub same : SameRuns (runs_of (chains_of B)) T

-- the order of the sheet: by vault and then box number
abbrev pub printed_before : Block → Block → Bool
printed_before b c = nat_lt b.vault c.vault || (b.vault == c.vault && nat_lt b.number c.number)

-- the blocks are in the sheet's order, each strictly before those that stand after it
abbrev pub SheetOrder : List Block → Type 0
SheetOrder [] = Unit {0}
SheetOrder (b ∷ B) = AllByRecursion (λ c. printed_before b c ≡ true) B × SheetOrder B
