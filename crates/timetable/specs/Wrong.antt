-- Wrong wordings of the theorems. Each is refuted by a small timetable.
use Rattle.std.specs.Prelude.{◌≡◌, ℕ, ◌+◌, ◌-◌, ◌<◌, ◌≤◌, ◌&&◌, List, [], ◌∷◌, length, ℤ, pos, ◌-ℤ◌, ◌≤ℤ◌, count_by, ◌==◌, nat_le, nat_lt}
use Rattle.std.specs.List.{ContainsAt as Has, AllByRecursion}
use Rattle.run.specs.declared.Run.{Run}
use Rattle.run.specs.Minutes.{arrival_minute}
use Rattle.timetable.specs.Levels.{departures, level, Need, Needs, total}
use Rattle.timetable.specs.Ways.{Way, sent, Apart, Forward}
use Rattle.timetable.specs.Fifo.{departure_number, arrival_number, Origin, box, brought_by, Block, chains_of, Fifo}

-- wrong: every way sends out of every vault more than its need
abbrev pub MoreThanTheNeed : Type 0
MoreThanTheNeed = (T : List Run) (W : List (List Run)) → Way T W → (v n : ℕ) → Need T v n → n + 1 ≤ sent W v

-- wrong: in a chain, the next run starts later than the minute in which the one before it arrives
abbrev pub StrictChain : List Run → Type 0
StrictChain [] = ⊥
StrictChain (r ∷ []) = Unit {0}
StrictChain (r ∷ s ∷ rs) = (r.to ≡ s.from) × (arrival_minute r < s.start) × StrictChain (s ∷ rs)

abbrev pub BlocksAreStrictChains : Type 0
BlocksAreStrictChains = (T : List Run) (need : ℕ → ℕ) (B : List Block) → Needs T need → Apart T → Forward T → Fifo T need B → AllByRecursion StrictChain (chains_of B)

-- wrong: departure i takes box i if i < need; otherwise the box that arrival i - need brought
abbrev pub BeforeBelow : List Run → (ℕ → ℕ) → Run → Origin → Type 0
BeforeBelow T need s (box v i) = (v ≡ s.from) × (i ≡ departure_number T s) × (i < need v)
BeforeBelow T need s (brought_by r) = Has T r × (r.to ≡ s.from) × (need s.from ≤ departure_number T s) × (arrival_number T r ≡ departure_number T s - need s.from)

abbrev pub BelowFindsABox : Type 0
BelowFindsABox = (T : List Run) (need : ℕ → ℕ) → Needs T need → Apart T → Forward T → (s : Run) → Has T s → (o : Origin) × BeforeBelow T need s o

-- wrong: the arrival after the one that a departure is given would be in time too
abbrev pub LaterArrivalInTime : Type 0
LaterArrivalInTime = (T : List Run) (need : ℕ → ℕ) → Needs T need → Apart T → Forward T → (r s : Run) → Has T r → Has T s → r.to ≡ s.from → departure_number T s + 1 ≡ need s.from + arrival_number T r → arrival_minute r ≤ s.start

-- wrong: departures before arrivals in one minute, so that only arrivals before t count at t
abbrev pub departures_first_level : List Run → ℕ → ℕ → ℤ
departures_first_level T v t = pos (departures T v t) -ℤ pos (count_by (λ r. (r.to == v) && nat_lt (arrival_minute r) t) T)

abbrev pub DeparturesFirstBound : Type 0
DeparturesFirstBound = (T : List Run) (W : List (List Run)) → Way T W → (v t : ℕ) → departures_first_level T v t ≤ℤ pos (sent W v)

-- wrong: the critical minute is any minute whose level equals the need
abbrev pub AnyMinuteIsCritical : Type 0
AnyMinuteIsCritical = (T : List Run) (v n m k : ℕ) → Need T v n → 0 < n → level T v m ≡ pos n → level T v k ≡ pos n → m ≡ k

-- wrong: a run may take no time
abbrev pub DoneWithoutTime : Type 0
DoneWithoutTime = (T : List Run) (need : ℕ → ℕ) → Needs T need → Apart T → (B : List Block) × Fifo T need B

-- wrong: two runs may have one run number
abbrev pub EachBoxWithoutNumbers : Type 0
EachBoxWithoutNumbers = (T : List Run) (need : ℕ → ℕ) (B : List Block) → Needs T need → Fifo T need B → (v i : ℕ) → 1 ≤ i → i ≤ need v → count_by (λ b. (b.vault == v) && b.number == i) B ≡ 1

-- wrong: the relation fixes the blocks in whatever order they are listed
abbrev pub FixedInAnyOrder : Type 0
FixedInAnyOrder = (T : List Run) (need : ℕ → ℕ) (B C : List Block) → Apart T → Fifo T need B → Fifo T need C → B ≡ C

-- wrong: no block is as long as the timetable
abbrev pub FewerSteps : Type 0
FewerSteps = (T : List Run) (need : ℕ → ℕ) (B : List Block) → Apart T → Fifo T need B → (b : Block) → Has B b → length b.runs < length T

-- wrong: the most runs that are out together are boxes enough
abbrev pub OutTogetherIsEnough : Type 0
OutTogetherIsEnough = (T : List Run) (n : ℕ) → Apart T → Forward T → ((t : ℕ) → count_by (λ r. nat_le r.start t && nat_lt t (arrival_minute r)) T ≤ n) → (W : List (List Run)) × Way T W × (length W ≤ n)

-- wrong: an added run can only raise the total
abbrev pub AddedRunRaises : Type 0
AddedRunRaises = (T : List Run) (r : Run) (k : ℕ) → total T k ≤ total (r ∷ T) k

-- none of them holds
pub record WrongWordings : Type 0 where
  pub more_than_the_need : MoreThanTheNeed → ⊥
  pub strict_chains : BlocksAreStrictChains → ⊥
  pub below_the_need : BelowFindsABox → ⊥
  pub later_arrival : LaterArrivalInTime → ⊥
  pub departures_first : DeparturesFirstBound → ⊥
  pub any_minute : AnyMinuteIsCritical → ⊥
  pub no_time : DoneWithoutTime → ⊥
  pub one_number : EachBoxWithoutNumbers → ⊥
  pub any_order : FixedInAnyOrder → ⊥
  pub fewer_steps_than_runs : FewerSteps → ⊥
  pub out_together : OutTogetherIsEnough → ⊥
  pub only_raises : AddedRunRaises → ⊥
