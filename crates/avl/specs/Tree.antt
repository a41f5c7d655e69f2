-- The balanced tree of Adelson-Velsky and Landis: a node has the index of its cell, a key, a value, and two sides.
use Rattle.std.specs.Prelude.{ℕ, zero, suc, ◌+◌, ◌-◌, ◌<◌, ◌≤◌, ◌≢◌, max, cond, List, [], ◌∷◌, ◌++◌, map, Option, Some, None, nat_lt}
use Rattle.std.specs.List.{AllByRecursion}

pub data Tree (P : Type 0) : Type 0 where
  leaf : Tree P
  node : (index key : ℕ) → P → (left right : Tree P) → Tree P

abbrev pub height : {P : Type 0} → Tree P → ℕ
height leaf = 0
height (node i k v l r) = max (height l) (height r) + 1

abbrev pub count : {P : Type 0} → Tree P → ℕ
count leaf = 0
count (node i k v l r) = count l + count r + 1

-- the cells in order: each key with the cell's index and value
abbrev pub cells : {P : Type 0} → Tree P → List (ℕ × (ℕ × P))
cells leaf = []
cells (node i k v l r) = cells l ++ ((k, (i, v)) ∷ cells r)

-- a cell's key and value
abbrev pub entry_of : {P : Type 0} → ℕ × (ℕ × P) → ℕ × P
entry_of c = (c.0, c.1.1)

abbrev pub index_of : {P : Type 0} → ℕ × (ℕ × P) → ℕ
index_of c = c.1.0

abbrev pub entries : {P : Type 0} → Tree P → List (ℕ × P)
entries t = map entry_of (cells t)

abbrev pub indices : {P : Type 0} → Tree P → List ℕ
indices t = map index_of (cells t)

-- no index stands twice
abbrev pub Distinct : List ℕ → Type 0
Distinct [] = Unit {0}
Distinct (i ∷ is) = AllByRecursion (λ j. i ≢ j) is × Distinct is

-- the keys to the left of a node are less than its own, those to the right greater
abbrev pub InOrder : {P : Type 0} → Tree P → Type 0
InOrder leaf = Unit {0}
InOrder (node i k v l r) = AllByRecursion (λ c. c.0 < k) (cells l) × AllByRecursion (λ c. k < c.0) (cells r) × InOrder l × InOrder r

-- the heights of a node's sides differ by one at most
abbrev pub Near : ℕ → ℕ → Type 0
Near a b = (a ≤ b + 1) × (b ≤ a + 1)

abbrev pub Balanced : {P : Type 0} → Tree P → Type 0
Balanced leaf = Unit {0}
Balanced (node i k v l r) = Near (height l) (height r) × Balanced l × Balanced r

-- the top of the left side comes to the top
abbrev pub turn_right : {P : Type 0} → Tree P → Tree P
turn_right leaf = leaf
turn_right (node i k v leaf r) = node i k v leaf r
turn_right (node i k v (node j x y a b) r) = node j x y a (node i k v b r)

-- the top of the right side comes to the top
abbrev pub turn_left : {P : Type 0} → Tree P → Tree P
turn_left leaf = leaf
turn_left (node i k v l leaf) = node i k v l leaf
turn_left (node i k v l (node j x y a b)) = node j x y (node i k v l a) b

-- a side that is higher towards the middle is turned outwards first
abbrev pub outwards_left : {P : Type 0} → Tree P → Tree P
outwards_left leaf = leaf
outwards_left (node i k v l r) = cond (nat_lt (height l) (height r)) (turn_left (node i k v l r)) (node i k v l r)

abbrev pub outwards_right : {P : Type 0} → Tree P → Tree P
outwards_right leaf = leaf
outwards_right (node i k v l r) = cond (nat_lt (height r) (height l)) (turn_right (node i k v l r)) (node i k v l r)

-- the node over two sides whose heights differ by two at most
unfoldable pub rebalanced : {P : Type 0} → (index key : ℕ) → P → (left right : Tree P) → Tree P
rebalanced i k v l r = cond (nat_lt (height r + 1) (height l)) (turn_right (node i k v (outwards_left l) r)) (cond (nat_lt (height l + 1) (height r)) (turn_left (node i k v l (outwards_right r))) (node i k v l r))

-- a cell over two sides
abbrev pub over : {P : Type 0} → ℕ × (ℕ × P) → (left right : Tree P) → Tree P
over c l r = rebalanced c.1.0 c.0 c.1.1 l r

-- the tree with an entry in the cell n
abbrev pub with_entry : {P : Type 0} → (n key : ℕ) → P → Tree P → Tree P
with_entry n x y leaf = node n x y leaf leaf
with_entry n x y (node i k v l r) = cond (nat_lt x k) (rebalanced i k v (with_entry n x y l) r) (rebalanced i k v l (with_entry n x y r))

-- the first cell of a node that has the left side l
abbrev pub first_cell : {P : Type 0} → (index key : ℕ) → P → (left : Tree P) → ℕ × (ℕ × P)
first_cell i k v leaf = (k, (i, v))
first_cell i k v (node j x y a b) = first_cell j x y a

-- a node without its first cell
abbrev pub without_first : {P : Type 0} → (index key : ℕ) → P → (left right : Tree P) → Tree P
without_first i k v leaf r = r
without_first i k v (node j x y a b) r = rebalanced i k v (without_first j x y a b) r

-- the two sides of a node that goes: the first cell of the right side comes to the top
abbrev pub joined_sides : {P : Type 0} → (left right : Tree P) → Tree P
joined_sides leaf r = r
joined_sides (node i k v a b) leaf = node i k v a b
joined_sides (node i k v a b) (node j x y c d) = over (first_cell j x y c) (node i k v a b) (without_first j x y c d)

-- the tree without a key
abbrev pub without_key : {P : Type 0} → (key : ℕ) → Tree P → Tree P
without_key x leaf = leaf
without_key x (node i k v l r) = cond (nat_lt x k) (rebalanced i k v (without_key x l) r) (cond (nat_lt k x) (rebalanced i k v l (without_key x r)) (joined_sides l r))

-- the index and the value at a key
abbrev pub lookup : {P : Type 0} → (key : ℕ) → Tree P → Option (ℕ × P)
lookup x leaf = None
lookup x (node i k v l r) = cond (nat_lt x k) (lookup x l) (cond (nat_lt k x) (lookup x r) (Some (i, v)))

-- how many keys are less than x
abbrev pub below : {P : Type 0} → (key : ℕ) → Tree P → ℕ
below x leaf = 0
below x (node i k v l r) = cond (nat_lt k x) (count l + 1 + below x r) (below x l)

-- the cell at place n, counted from 0
abbrev pub cell_at : {P : Type 0} → (n : ℕ) → Tree P → Option (ℕ × (ℕ × P))
cell_at n leaf = None
cell_at n (node i k v l r) = cond (nat_lt n (count l)) (cell_at n l) (cond (nat_lt (count l) n) (cell_at (n - (count l + 1)) r) (Some (k, (i, v))))

module _ {M : Type 0} (unit : M) (join : M → M → M) where
  -- what the cell at the top of a tree stores of it
  abbrev pub fold_all : Tree M → M
  fold_all leaf = unit
  fold_all (node i k v l r) = join (fold_all l) (join v (fold_all r))

  -- the keys from lo on
  abbrev pub fold_from : (lo : ℕ) → Tree M → M
  fold_from lo leaf = unit
  fold_from lo (node i k v l r) = cond (nat_lt k lo) (fold_from lo r) (join (fold_from lo l) (join v (fold_all r)))

  -- the keys below hi
  abbrev pub fold_to : (hi : ℕ) → Tree M → M
  fold_to hi leaf = unit
  fold_to hi (node i k v l r) = cond (nat_lt k hi) (join (fold_all l) (join v (fold_to hi r))) (fold_to hi l)

  -- the keys with lo ≤ key < hi: at the first of them that is met, the range falls into two ends
  abbrev pub fold_range : (lo hi : ℕ) → Tree M → M
  fold_range lo hi leaf = unit
  fold_range lo hi (node i k v l r) = cond (nat_lt k lo) (fold_range lo hi r) (cond (nat_lt k hi) (join (fold_from lo l) (join v (fold_to hi r))) (fold_range lo hi l))

-- the fewest entries of a balanced tree of a height: 0, 1, 2, 4, 7, 12, 20, ..
abbrev pub fewest : (height : ℕ) → ℕ
fewest zero = 0
fewest (suc zero) = 1
fewest (suc (suc h)) = fewest (suc h) + fewest h + 1
