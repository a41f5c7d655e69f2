-- Links are the blocks' neighbours, and the blocks are fixed: the statements.
use Rattle.std.specs.Prelude.{◌≡◌, ℕ, zero, suc, ◌<◌, ◌≤◌, ◌⊎◌, List, [], ◌∷◌, length, Some, None, Option, slice_index_or}
use Rattle.std.specs.List.{ContainsAt as Has}
use Rattle.run.specs.declared.Run.{Run}
use Rattle.timetable.specs.Levels.{Needs}
use Rattle.timetable.specs.Ways.{Follows, Apart}
use Rattle.timetable.specs.Fifo.{Origin, box, brought_by, Before, After, Block, Fifo, SheetOrder}

-- s stands right after r in the list
abbrev pub Next : Run → Run → List Run → Type 0
Next r s [] = ⊥
Next r s (x ∷ []) = ⊥
Next r s (x ∷ y ∷ zs) = ((x ≡ r) × (y ≡ s)) ⊎ Next r s (y ∷ zs)

-- r is the first of the list
abbrev pub First : Run → List Run → Type 0
First r [] = ⊥
First r (x ∷ xs) = x ≡ r

-- to walk by after from r is to meet these runs, and then none
abbrev pub Walked : List Run → (ℕ → ℕ) → Run → List Run → Type 0
Walked T need r [] = After T need r None
Walked T need r (s ∷ rs) = After T need r (Some s) × Walked T need s rs

-- the walk itself, of at most n runs: a run, then the one that next answers for it, until it answers none
abbrev pub walk : (Run → Option Run) → ℕ → Option Run → List Run
walk next zero o = []
walk next (suc n) None = []
walk next (suc n) (Some r) = r ∷ walk next n (next r)

-- for every run of T, before has exactly one answer
abbrev pub OneBefore : Type 0
OneBefore = (T : List Run) (need : ℕ → ℕ) → Needs T need → Apart T → (s : Run) → Has T s → ((o : Origin) × Before T need s o) × ((o p : Origin) → Before T need s o → Before T need s p → o ≡ p)

-- for every run of T, after has exactly one answer
abbrev pub OneAfter : Type 0
OneAfter = (T : List Run) (need : ℕ → ℕ) → Apart T → (r : Run) → Has T r → ((o : Option Run) × After T need r o) × ((o p : Option Run) → After T need r o → After T need r p → o ≡ p)

-- before and after undo each other: s is after r exactly if r is before s
abbrev pub LinksUndo : Type 0
LinksUndo = (T : List Run) (need : ℕ → ℕ) (r s : Run) → Has T r → Has T s → (Before T need s (brought_by r) → After T need r (Some s)) × (After T need r (Some s) → Before T need s (brought_by r))

-- after never goes back in time, and stays at the vault that the box has reached
abbrev pub AfterInTime : Type 0
AfterInTime = (T : List Run) (need : ℕ → ℕ) → Needs T need → (r s : Run) → After T need r (Some s) → Follows r s

-- neighbours in a block are exactly links, and the firsts of blocks are exactly the runs that take a box out
pub record BlockLinks (T : List Run) (need : ℕ → ℕ) (B : List Block) : Type 0 where
  pub neighbours : (b : Block) → Has B b → (r s : Run) → Next r s b.runs → After T need r (Some s)
  pub links : (r s : Run) → Has T r → After T need r (Some s) → (b : Block) × Has B b × Next r s b.runs
  pub firsts : (b : Block) → Has B b → (r : Run) → First r b.runs → Before T need r (box b.vault b.number)
  pub boxes : (r : Run) (v i : ℕ) → Has T r → Before T need r (box v i) → (b : Block) × Has B b × (b.vault ≡ v) × (b.number ≡ i) × First r b.runs

abbrev pub NeighboursAreLinks : Type 0
NeighboursAreLinks = (T : List Run) (need : ℕ → ℕ) (B : List Block) → Apart T → Fifo T need B → BlockLinks T need B

-- walking by after from the first run of a box gives its block, in at most as many steps as there are runs
pub record BlockWalk (T : List Run) (need : ℕ → ℕ) (r : Run) (runs : List Run) : Type 0 where
  pub walked : (rs : List Run) → runs ≡ r ∷ rs → Walked T need r rs
  pub steps : length runs ≤ length T
  pub computed : (next : Run → Option Run) → ((x : Run) → Has T x → After T need x (next x)) → walk next (length T) (Some r) ≡ runs

abbrev pub WalkingGivesTheBlock : Type 0
WalkingGivesTheBlock = (T : List Run) (need : ℕ → ℕ) (B : List Block) → Apart T → Fifo T need B → (b : Block) → Has B b → (r : Run) → First r b.runs → BlockWalk T need r b.runs

-- the relation fixes the blocks: two lists of blocks that both satisfy it, in the sheet's order, are equal
abbrev pub BlocksAreFixed : Type 0
BlocksAreFixed = (T : List Run) (need : ℕ → ℕ) (B C : List Block) → Apart T → Fifo T need B → Fifo T need C → SheetOrder B → SheetOrder C → B ≡ C

-- x is element k of the list, counted from 0
abbrev pub Nth : {X : Type 0} → List X → ℕ → X → Type 0
Nth {X} xs k x = (k < length xs) × ((d : X) → slice_index_or xs k d ≡ x)

-- r stands in block j, at place k of its runs
abbrev pub Stands : List Block → Run → ℕ → ℕ → Type 0
Stands B r j k = (b : Block) × Nth B j b × Nth b.runs k r

-- each run of T stands in exactly one place of one block, and no other run does
pub record OnceEach (T : List Run) (B : List Block) : Type 0 where
  pub stands : (r : Run) → Has T r → (j : ℕ) × (k : ℕ) × Stands B r j k
  pub once : (r : Run) (j k m n : ℕ) → Stands B r j k → Stands B r m n → (j ≡ m) × (k ≡ n)
  pub no_other : (r : Run) (j k : ℕ) → Stands B r j k → Has T r

abbrev pub EachRunOnce : Type 0
EachRunOnce = (T : List Run) (need : ℕ → ℕ) (B : List Block) → Apart T → Fifo T need B → OnceEach T B
