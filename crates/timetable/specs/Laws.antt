-- The theorems.
use Rattle.std.specs.Prelude.{◌≡◌, ℕ, ◌-◌, ◌<◌, ◌≤◌, ◌&&◌, List, length, count_by, Option, ◌==◌}
use Rattle.std.specs.List.{ContainsAt as Has}
use Rattle.std.specs.List.Sorted.{IsPermutation}
use Rattle.run.specs.declared.Run.{Run}
use Rattle.run.specs.Minutes.{arrival_minute}
use Rattle.timetable.specs.Levels.{Need, Needs, Critical, NeedAnswer, need_of, sum_of, total}
use Rattle.timetable.specs.Ways.{Chain, SameRuns, Way, sent, Apart, Forward, Within}
use Rattle.timetable.specs.Fifo.{departure_number, arrival_number, Block, chains_of, Fifo, SheetOrder}
use Rattle.timetable.specs.Queues.{item, Departures, Arrivals}

-- every vault has exactly one need, and it is the figure computed from the levels at the runs' starts
abbrev pub OneNeed : Type 0
OneNeed = (T : List Run) (v : ℕ) → Need T v (need_of T v) × ((m n : ℕ) → Need T v m → Need T v n → m ≡ n)

-- a need above 0 is first reached in exactly one minute, and in that minute a run leaves the vault
abbrev pub OneCriticalMinute : Type 0
OneCriticalMinute = (T : List Run) (v n : ℕ) → Need T v n → 0 < n → ((m : ℕ) × Critical T v n m) × ((m k : ℕ) → Critical T v n m → Critical T v n k → m ≡ k) × ((m : ℕ) → Critical T v n m → (r : Run) × Has T r × (r.from ≡ v) × (r.start ≡ m))

-- the question for a need has exactly one answer
abbrev pub OneAnswer : Type 0
OneAnswer = (T : List Run) (v : ℕ) → ((a : ℕ × Option ℕ) × NeedAnswer T v a) × ((a b : ℕ × Option ℕ) → NeedAnswer T v a → NeedAnswer T v b → a ≡ b)

-- the total is the sum of the needs of the vaults below k
abbrev pub TotalIsTheSum : Type 0
TotalIsTheSum = (T : List Run) (need : ℕ → ℕ) → Needs T need → (k : ℕ) → total T k ≡ sum_of need k

-- to be the same runs is to be one list put into another order by exchanges
abbrev pub SameIsShuffled : Type 0
SameIsShuffled = (xs ys : List Run) → (SameRuns xs ys → IsPermutation xs ys) × (IsPermutation xs ys → SameRuns xs ys)

-- none does with fewer: every way sends out of every vault at least its need
abbrev pub NoneWithFewer : Type 0
NoneWithFewer = (T : List Run) (W : List (List Run)) → Way T W → (v n : ℕ) → Need T v n → n ≤ sent W v

-- the departures and the arrivals of a vault can be put into order in exactly one way
abbrev pub OneQueue : Type 0
OneQueue = (T : List Run) → Apart T → (v : ℕ) → ((D : List Run) × Departures T v D) × ((D E : List Run) → Departures T v D → Departures T v E → D ≡ E) × ((A : List Run) × Arrivals T v A) × ((A E : List Run) → Arrivals T v A → Arrivals T v E → A ≡ E)

-- departure i, past the need n, is given arrival i - n: it exists, and is in time
abbrev pub FirstInIsThere : Type 0
FirstInIsThere = (T : List Run) (v n : ℕ) → Need T v n → (D A : List Run) → Departures T v D → Arrivals T v A → (i : ℕ) (d : Run) → n < i → i ≤ length D → (i - n ≤ length A) × (arrival_minute (item A (i - n) d) ≤ (item D i d).start)

-- departure i of v is the run that leaves v and has departure number i, and so for arrivals
abbrev pub NumbersArePlaces : Type 0
NumbersArePlaces = (T : List Run) (v : ℕ) → ((D : List Run) → Departures T v D → (i : ℕ) (d : Run) → 1 ≤ i → i ≤ length D → Has T (item D i d) × ((item D i d).from ≡ v) × (departure_number T (item D i d) ≡ i)) × ((A : List Run) → Arrivals T v A → (i : ℕ) (d : Run) → 1 ≤ i → i ≤ length A → Has T (item A i d) × ((item A i d).to ≡ v) × (arrival_number T (item A i d) ≡ i))

-- every run of T is found in the departures of its from-vault at its departure number, and in the arrivals of its to-vault at its arrival number
abbrev pub PlacesAreNumbers : Type 0
PlacesAreNumbers = (T : List Run) (r d : Run) → Has T r → ((D : List Run) → Departures T r.from D → (departure_number T r ≤ length D) × (item D (departure_number T r) d ≡ r)) × ((A : List Run) → Arrivals T r.to A → (arrival_number T r ≤ length A) × (item A (arrival_number T r) d ≡ r))

-- first in, first out blocks are a way, and send out of every vault exactly its need
abbrev pub FifoSendsTheNeed : Type 0
FifoSendsTheNeed = (T : List Run) (need : ℕ → ℕ) (B : List Block) → Needs T need → Apart T → Fifo T need B → Way T (chains_of B) × ((v : ℕ) → sent (chains_of B) v ≡ need v)

-- every block is a chain, and so its seam is sound: each run starts from the vault that the box has reached, when it has reached it
abbrev pub BlocksAreChains : Type 0
BlocksAreChains = (T : List Run) (need : ℕ → ℕ) (B : List Block) → Needs T need → Apart T → Fifo T need B → (b : Block) → Has B b → Chain b.runs

-- every timetable has first in, first out blocks, in the sheet's order
abbrev pub FifoCanBeDone : Type 0
FifoCanBeDone = (T : List Run) (need : ℕ → ℕ) → Needs T need → Apart T → Forward T → (B : List Block) × Fifo T need B × SheetOrder B

-- each box of a vault, from 1 to its need, has exactly one block, and no other box has one
pub record BoxesOnce (need : ℕ → ℕ) (B : List Block) : Type 0 where
  pub once : (v i : ℕ) → 1 ≤ i → i ≤ need v → count_by (λ b. (b.vault == v) && b.number == i) B ≡ 1
  pub no_other : (b : Block) → Has B b → (1 ≤ b.number) × (b.number ≤ need b.vault)

abbrev pub EachBoxOnce : Type 0
EachBoxOnce = (T : List Run) (need : ℕ → ℕ) (B : List Block) → Needs T need → Apart T → Fifo T need B → BoxesOnce need B

-- the total is the least number of boxes any way can use, and first in, first out uses that many
pub record LeastTotal (T : List Run) (k : ℕ) : Type 0 where
  pub no_fewer : (W : List (List Run)) → Way T W → total T k ≤ length W
  pub done : (W : List (List Run)) × Way T W × (length W ≡ total T k)
  pub first_in_first_out : (need : ℕ → ℕ) (B : List Block) → Needs T need → Fifo T need B → length B ≡ total T k

abbrev pub TotalIsTheLeast : Type 0
TotalIsTheLeast = (T : List Run) (k : ℕ) → Apart T → Forward T → Within k T → LeastTotal T k
