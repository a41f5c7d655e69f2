-- Ways of giving runs to boxes.
use Rattle.std.specs.Prelude.{◌≡◌, ℕ, ◌<◌, ◌≤◌, Bool, false, List, [], ◌∷◌, count_by, ◌==◌, nat_eq}
use Rattle.std.specs.List.{flat_map, AllByRecursion}
use Rattle.run.specs.declared.Run.{Run}
use Rattle.run.specs.Minutes.{arrival_minute}

-- s can come right after r in a chain: it starts from the to-vault of r, in r's arrival minute or later
pub record Follows (r s : Run) : Type 0 where
  pub there : r.to ≡ s.from
  pub in_time : arrival_minute r ≤ s.start

-- a chain: a list of runs, not empty, each of which follows the one before it
abbrev pub Chain : List Run → Type 0
Chain [] = ⊥
Chain (r ∷ []) = Unit {0}
Chain (r ∷ s ∷ rs) = Follows r s × Chain (s ∷ rs)

-- the same runs, each as often, in any order: every test passes equally many
abbrev pub SameRuns : List Run → List Run → Type 0
SameRuns xs ys = (test : Run → Bool) → count_by test xs ≡ count_by test ys

-- the runs of all chains, one chain after another
abbrev pub runs_of : List (List Run) → List Run
runs_of W = flat_map (λ c. c) W

-- W is a way of giving the runs of T to boxes: it divides T into chains
pub record Way (T : List Run) (W : List (List Run)) : Type 0 where
  pub chains : AllByRecursion Chain W
  pub same : SameRuns (runs_of W) T

-- does v send the chain out: is v the from-vault of its first run
abbrev pub sends : ℕ → List Run → Bool
sends v [] = false
sends v (r ∷ rs) = r.from == v

-- how many chains of W, and so boxes, v sends out
abbrev pub sent : List (List Run) → ℕ → ℕ
sent W v = count_by (sends v) W

-- no two runs of T have one run number
abbrev pub Apart : List Run → Type 0
Apart T = (k : ℕ) → count_by (λ r. nat_eq r.number k) T ≤ 1

-- every run of T takes time
abbrev pub Forward : List Run → Type 0
Forward T = AllByRecursion (λ r. r.start < arrival_minute r) T

-- every run of T goes between vaults below k
abbrev pub Within : ℕ → List Run → Type 0
Within k T = AllByRecursion (λ r. (r.from < k) × (r.to < k)) T
