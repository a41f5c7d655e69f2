-- Wrong wordings of the theorems, and wrong ways to change a tree. Each is refuted by a small tree.
use Rattle.std.specs.Prelude.{ℕ, ◌+◌, ◌≤◌, cond, nat_lt}
use Rattle.avl.specs.Tree.{Tree, leaf, node, height, count, InOrder, Near, Balanced, turn_right, turn_left, rebalanced, with_entry, fewest}

-- wrong: one turn is enough, whichever way the higher side leans
abbrev pub rebalanced_by_one_turn : {P : Type 0} → (index key : ℕ) → P → (left right : Tree P) → Tree P
rebalanced_by_one_turn i k v l r = cond (nat_lt (height r + 1) (height l)) (turn_right (node i k v l r)) (cond (nat_lt (height l + 1) (height r)) (turn_left (node i k v l r)) (node i k v l r))

abbrev pub OneTurnIsEnough : Type 0
OneTurnIsEnough = (l r : Tree ℕ) → Balanced l → Balanced r → height l ≤ height r + 2 → height r ≤ height l + 2 → Balanced (rebalanced_by_one_turn 0 0 0 l r)

-- wrong: sides whose heights differ by three are brought into balance too
abbrev pub TurnMendsThree : Type 0
TurnMendsThree = (l r : Tree ℕ) → Balanced l → Balanced r → height l ≤ height r + 3 → height r ≤ height l + 3 → Balanced (rebalanced 0 0 0 l r)

-- wrong: the heights of two sides may differ by two
abbrev pub Loose : Tree ℕ → Type 0
Loose leaf = Unit {0}
Loose (node i k v l r) = (height l ≤ height r + 2) × (height r ≤ height l + 2) × Loose l × Loose r

abbrev pub FewestWhenLoose : Type 0
FewestWhenLoose = (t : Tree ℕ) → Loose t → fewest (height t) ≤ count t

-- wrong: a balanced tree of at most 2,048 entries is at most 14 high
abbrev pub Lower : Type 0
Lower = (t : Tree ℕ) → Balanced t → count t ≤ 2048 → height t ≤ 14

-- wrong: where a node goes, its left neighbour takes its place, and nothing is turned
abbrev pub without_last : Tree ℕ → Tree ℕ
without_last leaf = leaf
without_last (node i k v l leaf) = l
without_last (node i k v l (node j x y a b)) = node i k v l (without_last (node j x y a b))

abbrev pub NeighbourTakesThePlace : Type 0
NeighbourTakesThePlace = (l r : Tree ℕ) → Near (height l) (height r) → Balanced l → Balanced r → (i k v : ℕ) → Balanced (node i k v (without_last l) r)

-- wrong: an entry can be put in at a key that is held
abbrev pub HeldKeyGoesIn : Type 0
HeldKeyGoesIn = (n x y : ℕ) (t : Tree ℕ) → InOrder t → InOrder (with_entry n x y t)

-- none of them holds
pub record WrongWordings : Type 0 where
  pub one_turn : OneTurnIsEnough → ⊥
  pub three_apart : TurnMendsThree → ⊥
  pub loose : FewestWhenLoose → ⊥
  pub lower : Lower → ⊥
  pub neighbour : NeighbourTakesThePlace → ⊥
  pub held_key : HeldKeyGoesIn → ⊥
