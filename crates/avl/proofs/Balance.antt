-- Balance and heights.
use Rattle.std.proofs.Common.{◌≡◌, ℕ, zero, suc, ◌+◌, ◌-◌, ◌≤◌, max, ◌⊎◌, None, refl, arith}
use Rattle.std.proofs.lemmas.Bool.Decides.{nat_tests}
use Rattle.avl.specs.Tree.{Tree, leaf, node, height, count, Balanced, turn_right, turn_left, outwards_left, outwards_right, rebalanced, over, with_entry, first_cell, without_first, joined_sides, without_key, lookup, fewest}

-- balanced, and of a height between
pub record Fits {P : Type 0} (lo hi : ℕ) (t : Tree P) : Type 0 where
  pub balanced : Balanced t
  pub low : lo ≤ height t
  pub high : height t ≤ hi

module _ {P : Type 0} (i k : ℕ) (v : P) where
  -- one turn, or two where the higher side leans towards the middle
  turned_right : (l r : Tree P) → Balanced l → Balanced r → height l ≡ height r + 2 → Fits (height l) (height l + 1) (turn_right (node i k v (outwards_left l) r))
  turned_right leaf r hl hr e = absurd (omega arith)
  turned_right (node j x y a leaf) r hl hr e = grind (arith, nat_tests, hl, hr)
  turned_right (node j x y a (node m p q c d)) r hl hr e = grind (arith, nat_tests, hl, hr)

  turned_left : (l r : Tree P) → Balanced l → Balanced r → height r ≡ height l + 2 → Fits (height r) (height r + 1) (turn_left (node i k v l (outwards_right r)))
  turned_left l leaf hl hr e = absurd (omega arith)
  turned_left l (node j x y leaf b) hl hr e = grind (arith, nat_tests, hl, hr)
  turned_left l (node j x y (node m p q c d) b) hl hr e = grind (arith, nat_tests, hl, hr)

-- the node over two sides is turned, or of the height of the plain node
pub record Rebalanced {P : Type 0} (a b : ℕ) (t : Tree P) : Type 0 where
  pub balanced : Balanced t
  pub low : max a b ≤ height t
  pub high : height t ≤ max a b + 1
  pub ways : (a ≡ b + 2) ⊎ ((b ≡ a + 2) ⊎ (height t ≡ max a b + 1))

pub turn_restores : {P : Type 0} (i k : ℕ) (v : P) (l r : Tree P) → Balanced l → Balanced r → height l ≤ height r + 2 → height r ≤ height l + 2 → Rebalanced (height l) (height r) (rebalanced i k v l r)
unfolding rebalanced
turn_restores i k v l r hl hr f g =
    grind (arith, nat_tests, hl, hr, λ (e : height l ≡ height r + 2). turned_right i k v l r hl hr e, λ (e : height r ≡ height l + 2). turned_left i k v l r hl hr e)

-- no turn where the two are near
pub no_turn : {P : Type 0} (i k : ℕ) (v : P) (l r : Tree P) → Balanced (node i k v l r) → rebalanced i k v l r ≡ node i k v l r
unfolding rebalanced
no_turn i k v l r b = grind (arith, nat_tests, b.0)

-- one side grew or shrank by one
module _ {P : Type 0} (i k : ℕ) (v : P) (l r : Tree P) (b : Balanced (node i k v l r)) where
  pub left_grew : (s : Tree P) → Fits (height l) (height l + 1) s → Fits (height (node i k v l r)) (height (node i k v l r) + 1) (rebalanced i k v s r)
  left_grew s z = let n = b.0 in let f = turn_restores i k v s r z.balanced b.2 (omega (arith, z.high)) (omega (arith, z.low)) in grind (arith, f.balanced, f.low, f.high, f.ways, z.low, z.high)

  pub right_grew : (s : Tree P) → Fits (height r) (height r + 1) s → Fits (height (node i k v l r)) (height (node i k v l r) + 1) (rebalanced i k v l s)
  right_grew s z = let n = b.0 in let f = turn_restores i k v l s b.1 z.balanced (omega (arith, z.low)) (omega (arith, z.high)) in grind (arith, f.balanced, f.low, f.high, f.ways, z.low, z.high)

  pub left_shrank : (s : Tree P) → Fits (height l - 1) (height l) s → Fits (height (node i k v l r) - 1) (height (node i k v l r)) (rebalanced i k v s r)
  left_shrank s z = let n = b.0 in let f = turn_restores i k v s r z.balanced b.2 (omega (arith, z.high)) (omega (arith, z.low)) in grind (arith, f.balanced, f.low, f.high, f.ways, z.low, z.high)

  pub right_shrank : (c : ℕ × (ℕ × P)) (s : Tree P) → Fits (height r - 1) (height r) s → Fits (height (node i k v l r) - 1) (height (node i k v l r)) (over c l s)
  right_shrank c s z = let n = b.0 in let f = turn_restores c.1.0 c.0 c.1.1 l s b.1 z.balanced (omega (arith, z.low)) (omega (arith, z.high)) in grind (arith, f.balanced, f.low, f.high, f.ways, z.low, z.high)

module _ {P : Type 0} where
  pub insert_fits : (n x : ℕ) (y : P) (t : Tree P) → Balanced t → Fits (height t) (height t + 1) (with_entry n x y t)
  insert_fits n x y leaf h = grind arith
  insert_fits n x y (node i k v l r) h =
      grind (arith, nat_tests, left_grew i k v l r h (with_entry n x y l) (insert_fits n x y l h.1), right_grew i k v l r h (with_entry n x y r) (insert_fits n x y r h.2))

  pub first_out_fits : (i k : ℕ) (v : P) (l r : Tree P) → Balanced (node i k v l r) → Fits (height (node i k v l r) - 1) (height (node i k v l r)) (without_first i k v l r)
  first_out_fits i k v leaf r h = grind (arith, h)
  first_out_fits i k v (node j x y a b) r h = left_shrank i k v (node j x y a b) r h (without_first j x y a b) (first_out_fits j x y a b h.1)

  joined_fits : (i k : ℕ) (v : P) (l r : Tree P) → Balanced (node i k v l r) → Fits (height (node i k v l r) - 1) (height (node i k v l r)) (joined_sides l r)
  joined_fits i k v leaf r h = grind (arith, h)
  joined_fits i k v (node j x y a b) leaf h = grind (arith, h)
  joined_fits i k v (node j x y a b) (node m p q c d) h =
      right_shrank i k v (node j x y a b) (node m p q c d) h (first_cell m p q c) (without_first m p q c d) (first_out_fits m p q c d h.2)

  pub remove_fits : (x : ℕ) (t : Tree P) → Balanced t → Fits (height t - 1) (height t) (without_key x t)
  remove_fits x leaf h = grind (arith, h)
  remove_fits x (node i k v l r) h =
      grind (arith, nat_tests, left_shrank i k v l r h (without_key x l) (remove_fits x l h.1), right_shrank i k v l r h (k, (i, v)) (without_key x r) (remove_fits x r h.2), joined_fits i k v l r h)

  -- a balanced tree of height h or more has the fewest entries of h, or more
  pub many : (t : Tree P) → Balanced t → (h : ℕ) → h ≤ height t → fewest h ≤ count t
  many leaf b zero le = omega arith
  many leaf b (suc h) le = absurd (omega arith)
  many (node i k v l r) b zero le = omega arith
  many (node i k v l r) b (suc zero) le = omega arith
  many (node i k v l r) b (suc (suc h)) le = grind (arith, b.0, many l b.1 h, many r b.2 (suc h), many l b.1 (suc h), many r b.2 h)

  pub low_enough : (t : Tree P) → Balanced t → count t ≤ 2048 → height t ≤ 15
  low_enough t b c = grind (arith, many t b 16)

  pub removal_is_nothing : (x : ℕ) (t : Tree P) → Balanced t → lookup x t ≡ None → without_key x t ≡ t
  removal_is_nothing x leaf b h = refl
  removal_is_nothing x (node i k v l r) b h = grind (arith, nat_tests, no_turn i k v l r b, removal_is_nothing x l b.1, removal_is_nothing x r b.2)
