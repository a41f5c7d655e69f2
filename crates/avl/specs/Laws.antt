-- The theorems of the tree, for values of a type P, or of a monoid M.
use Rattle.std.specs.Prelude.{◌≡◌, ℕ, zero, suc, ◌+◌, ◌*◌, ◌<◌, ◌≤◌, ◌≢◌, ◌↔◌, max, true, false, List, ◌∷◌, ◌++◌, length, take, is_some, Some, None, option_map, slice_get}
use Rattle.std.specs.List.{AllByRecursion}
use Rattle.monoid.specs.Folds.{total}
use Rattle.book.specs.Entries.{ascending, held, value_of, inserted, removed, count_below, values, fold_between}
use Rattle.avl.specs.Tree.{Tree, leaf, node, height, count, cells, entry_of, entries, indices, Distinct, InOrder, Balanced, rebalanced, with_entry, first_cell, without_first, without_key, lookup, below, cell_at, fold_all, fold_from, fold_to, fold_range, fewest}

-- ---- balance
-- two balanced sides whose heights differ by two at most make a balanced tree, one higher than the higher side at most
abbrev pub TurnRestoresBalance : Type 0 → Type 0
TurnRestoresBalance P = (i k : ℕ) (v : P) (l r : Tree P) → Balanced l → Balanced r → height l ≤ height r + 2 → height r ≤ height l + 2 → Balanced (rebalanced i k v l r) × (max (height l) (height r) ≤ height (rebalanced i k v l r)) × (height (rebalanced i k v l r) ≤ max (height l) (height r) + 1)

-- where nothing is out of balance, nothing is turned
abbrev pub NoNeedlessTurn : Type 0 → Type 0
NoNeedlessTurn P = (i k : ℕ) (v : P) (l r : Tree P) → Balanced (node i k v l r) → rebalanced i k v l r ≡ node i k v l r

abbrev pub InsertKeepsBalance : Type 0 → Type 0
InsertKeepsBalance P = (n x : ℕ) (y : P) (t : Tree P) → Balanced t → Balanced (with_entry n x y t) × (height t ≤ height (with_entry n x y t)) × (height (with_entry n x y t) ≤ height t + 1)

abbrev pub RemoveKeepsBalance : Type 0 → Type 0
RemoveKeepsBalance P = (x : ℕ) (t : Tree P) → Balanced t → Balanced (without_key x t) × (height t ≤ height (without_key x t) + 1) × (height (without_key x t) ≤ height t)

abbrev pub FirstOutKeepsBalance : Type 0 → Type 0
FirstOutKeepsBalance P = (i k : ℕ) (v : P) (l r : Tree P) → Balanced (node i k v l r) → Balanced (without_first i k v l r) × (height (node i k v l r) ≤ height (without_first i k v l r) + 1) × (height (without_first i k v l r) ≤ height (node i k v l r))

abbrev pub FewestEntries : Type 0 → Type 0
FewestEntries P = (t : Tree P) → Balanced t → fewest (height t) ≤ count t

abbrev pub HeightIsLow : Type 0 → Type 0
HeightIsLow P = (t : Tree P) → Balanced t → count t ≤ 2048 → height t ≤ 15

-- ---- order
abbrev pub OrderIsAscending : Type 0 → Type 0
OrderIsAscending P = (t : Tree P) → InOrder t ↔ (ascending (entries t) ≡ true)

abbrev pub TurnKeepsOrder : Type 0 → Type 0
TurnKeepsOrder P = (i k : ℕ) (v : P) (l r : Tree P) → InOrder (node i k v l r) → InOrder (rebalanced i k v l r)

abbrev pub InsertKeepsOrder : Type 0 → Type 0
InsertKeepsOrder P = (n x : ℕ) (y : P) (t : Tree P) → InOrder t → held x (entries t) ≡ false → InOrder (with_entry n x y t)

abbrev pub RemoveKeepsOrder : Type 0 → Type 0
RemoveKeepsOrder P = (x : ℕ) (t : Tree P) → InOrder t → InOrder (without_key x t)

-- ---- cells and entries
abbrev pub TurnKeepsCells : Type 0 → Type 0
TurnKeepsCells P = (i k : ℕ) (v : P) (l r : Tree P) → cells (rebalanced i k v l r) ≡ cells (node i k v l r)

pub record InsertPutsIn (P : Type 0) : Type 0 where
  pub on_cells : (n x : ℕ) (y : P) (t : Tree P) → InOrder t → cells (with_entry n x y t) ≡ inserted x (n, y) (cells t)
  pub on_entries : (n x : ℕ) (y : P) (t : Tree P) → InOrder t → entries (with_entry n x y t) ≡ inserted x y (entries t)

pub record RemoveTakesOut (P : Type 0) : Type 0 where
  pub on_cells : (x : ℕ) (t : Tree P) → InOrder t → cells (without_key x t) ≡ removed x (cells t)
  pub on_entries : (x : ℕ) (t : Tree P) → InOrder t → entries (without_key x t) ≡ removed x (entries t)

abbrev pub FirstComesOut : Type 0 → Type 0
FirstComesOut P = (i k : ℕ) (v : P) (l r : Tree P) → cells (node i k v l r) ≡ first_cell i k v l ∷ cells (without_first i k v l r)

abbrev pub RemovalOfAnUnheldKeyIsNothing : Type 0 → Type 0
RemovalOfAnUnheldKeyIsNothing P = (x : ℕ) (t : Tree P) → Balanced t → lookup x t ≡ None → without_key x t ≡ t

pub record LookupFinds (P : Type 0) : Type 0 where
  pub holds : (x : ℕ) (t : Tree P) → InOrder t → is_some (lookup x t) ≡ held x (entries t)
  pub value : (x : ℕ) (t : Tree P) → InOrder t → option_map (λ c. c.1) (lookup x t) ≡ value_of x (entries t)

-- ---- counts
abbrev pub CountIsLength : Type 0 → Type 0
CountIsLength P = (t : Tree P) → count t ≡ length (entries t)

abbrev pub InsertAddsOne : Type 0 → Type 0
InsertAddsOne P = (n x : ℕ) (y : P) (t : Tree P) → InOrder t → count (with_entry n x y t) ≡ count t + 1

abbrev pub RemoveTakesOne : Type 0 → Type 0
RemoveTakesOne P = (x : ℕ) (t : Tree P) → InOrder t → held x (entries t) ≡ true → count (without_key x t) + 1 ≡ count t

-- ---- indices
-- those that were there and the new one
abbrev pub InsertAddsItsIndex : Type 0 → Type 0
InsertAddsItsIndex P = (n x : ℕ) (y : P) (t : Tree P) → InOrder t → (is : List ℕ) × (js : List ℕ) × (indices t ≡ is ++ js) × (indices (with_entry n x y t) ≡ is ++ (n ∷ js))

-- those that were there without the one that was found
abbrev pub RemoveFreesTheIndexFound : Type 0 → Type 0
RemoveFreesTheIndexFound P = (x i : ℕ) (v : P) (t : Tree P) → InOrder t → lookup x t ≡ Some (i, v) → (is : List ℕ) × (js : List ℕ) × (indices t ≡ is ++ (i ∷ js)) × (indices (without_key x t) ≡ is ++ js)

-- an index that is in no cell stays so, and one that is taken out is in no cell
pub record IndicesStayDistinct (P : Type 0) : Type 0 where
  pub insert : (n x : ℕ) (y : P) (t : Tree P) → InOrder t → Distinct (indices t) → AllByRecursion (λ i. n ≢ i) (indices t) → Distinct (indices (with_entry n x y t))
  pub remove : (x i : ℕ) (v : P) (t : Tree P) → InOrder t → lookup x t ≡ Some (i, v) → Distinct (indices t) → Distinct (indices (without_key x t)) × AllByRecursion (λ j. i ≢ j) (indices (without_key x t))
  pub insert_elsewhere : (n x j : ℕ) (y : P) (t : Tree P) → InOrder t → j ≢ n → AllByRecursion (λ i. j ≢ i) (indices t) → AllByRecursion (λ i. j ≢ i) (indices (with_entry n x y t))
  pub remove_elsewhere : (x j : ℕ) (t : Tree P) → InOrder t → AllByRecursion (λ i. j ≢ i) (indices t) → AllByRecursion (λ i. j ≢ i) (indices (without_key x t))

-- ---- places
abbrev pub BelowIsCount : Type 0 → Type 0
BelowIsCount P = (x : ℕ) (t : Tree P) → InOrder t → below x t ≡ count_below x (entries t)

abbrev pub PlaceIsNth : Type 0 → Type 0
PlaceIsNth P = (n : ℕ) (t : Tree P) → option_map entry_of (cell_at n t) ≡ slice_get (entries t) n

abbrev pub KeyStandsAtItsCount : Type 0 → Type 0
KeyStandsAtItsCount P = (x i : ℕ) (v : P) (t : Tree P) → InOrder t → lookup x t ≡ Some (i, v) → cell_at (below x t) t ≡ Some (x, (i, v))

-- ---- folds
pub record IsMonoid {M : Type 0} (unit : M) (join : M → M → M) : Type 0 where
  pub left : (x : M) → join unit x ≡ x
  pub right : (x : M) → join x unit ≡ x
  pub assoc : (x y z : M) → join (join x y) z ≡ join x (join y z)

abbrev pub TotalIsFold : Type 0 → Type 0
TotalIsFold M = (unit : M) (join : M → M → M) → IsMonoid unit join → (t : Tree M) → fold_all unit join t ≡ total unit join (values (entries t))

-- what a turned cell stores
abbrev pub TurnKeepsTotal : Type 0 → Type 0
TurnKeepsTotal M = (unit : M) (join : M → M → M) → IsMonoid unit join → (i k : ℕ) (v : M) (l r : Tree M) → fold_all unit join (rebalanced i k v l r) ≡ join (fold_all unit join l) (join v (fold_all unit join r))

abbrev pub RangeIsFold : Type 0 → Type 0
RangeIsFold M = (unit : M) (join : M → M → M) → IsMonoid unit join → (lo hi : ℕ) (t : Tree M) → InOrder t → fold_range unit join lo hi t ≡ fold_between unit join lo hi (entries t)

-- a range that begins at or below all keys, and one that ends above them all
pub record EndsAreFolds (M : Type 0) : Type 0 where
  pub from : (unit : M) (join : M → M → M) → IsMonoid unit join → (lo hi : ℕ) (t : Tree M) → InOrder t → AllByRecursion (λ c. c.0 < hi) (cells t) → fold_from unit join lo t ≡ fold_between unit join lo hi (entries t)
  pub to : (unit : M) (join : M → M → M) → IsMonoid unit join → (lo hi : ℕ) (t : Tree M) → InOrder t → AllByRecursion (λ c. lo ≤ c.0) (cells t) → fold_to unit join hi t ≡ fold_between unit join lo hi (entries t)

abbrev pub FrontIsFirstEntries : Type 0 → Type 0
FrontIsFirstEntries M = (unit : M) (join : M → M → M) → IsMonoid unit join → (hi : ℕ) (t : Tree M) → InOrder t → fold_to unit join hi t ≡ total unit join (values (take (count_below hi (entries t)) (entries t)))

-- ---- small trees
-- the keys 0 .. n, put in one after another
abbrev pub grown : ℕ → Tree ℕ
grown zero = leaf
grown (suc n) = with_entry n n (10 * n) (grown n)

abbrev pub one : (key : ℕ) → Tree ℕ
one k = node k k (10 * k) leaf leaf

pub record WorkedTrees : Type 0 where
  pub full : grown 7 ≡ node 3 3 30 (node 1 1 10 (one 0) (one 2)) (node 5 5 50 (one 4) (one 6))
  -- the cell of the next key takes the place of the top
  pub top_out : without_key 3 (grown 7) ≡ node 4 4 40 (node 1 1 10 (one 0) (one 2)) (node 5 5 50 leaf (one 6))
  -- the key 1 comes last, between the others, and two turns bring it to the top
  pub two_turns : with_entry 1 1 10 (with_entry 2 2 20 (one 0)) ≡ node 1 1 10 (one 0) (one 2)
  pub found : lookup 5 (grown 7) ≡ Some (5, 50)
  pub not_found : lookup 7 (grown 7) ≡ None
  pub place : (below 5 (grown 7) ≡ 5) × (cell_at 5 (grown 7) ≡ Some (5, (5, 50)))
  pub sums : (fold_all 0 (λ a b. a + b) (grown 7) ≡ 210) × (fold_range 0 (λ a b. a + b) 2 5 (grown 7) ≡ 90)
