-- The cells of a tree that is turned and changed, and their order.
use Rattle.std.proofs.Common.{◌≡◌, ℕ, true, false, ltb, ◌∷◌, ◌++◌, map, refl, sym, ap, ◌∙◌, subst, append_assoc, append-nil, arith}
use Rattle.std.proofs.lemmas.Bool.{cond_both, ltb-true, ltb-false}
use Rattle.std.proofs.lemmas.Bool.Decides.{nat_tests}
use Rattle.book.specs.Entries.{ascending, held, inserted, removed}
use Rattle.book.proofs.Order.{Strict, strict, ascends}
use Rattle.book.proofs.Edits.{inserted_ascends, removed_ascends}
use Rattle.avl.specs.Tree.{Tree, leaf, node, cells, entry_of, entries, InOrder, turn_right, turn_left, outwards_left, outwards_right, rebalanced, over, with_entry, first_cell, without_first, joined_sides, without_key}
use Rattle.avl.proofs.Lists.{strict_join, strict_split, inserted_before, inserted_after, removed_before, removed_after, entries_inserted, entries_removed, entries_ascending}

module _ {P : Type 0} where
  -- what is turned
  cells_turn_right : (t : Tree P) → cells (turn_right t) ≡ cells t
  cells_turn_right leaf = refl
  cells_turn_right (node i k v leaf r) = refl
  cells_turn_right (node i k v (node j x y a b) r) = simp append_assoc

  cells_turn_left : (t : Tree P) → cells (turn_left t) ≡ cells t
  cells_turn_left leaf = refl
  cells_turn_left (node i k v l leaf) = refl
  cells_turn_left (node i k v l (node j x y a b)) = simp append_assoc

  cells_outwards_left : (t : Tree P) → cells (outwards_left t) ≡ cells t
  cells_outwards_left leaf = refl
  cells_outwards_left (node i k v l r) = grind (arith, nat_tests, cells_turn_left (node i k v l r))

  cells_outwards_right : (t : Tree P) → cells (outwards_right t) ≡ cells t
  cells_outwards_right leaf = refl
  cells_outwards_right (node i k v l r) = grind (arith, nat_tests, cells_turn_right (node i k v l r))

  pub cells_rebalanced : (i k : ℕ) (v : P) (l r : Tree P) → cells (rebalanced i k v l r) ≡ cells (node i k v l r)
  unfolding rebalanced
  cells_rebalanced i k v l r = grind (arith, nat_tests, cells_turn_right (node i k v (outwards_left l) r), cells_turn_left (node i k v l (outwards_right r)), cells_outwards_left l, cells_outwards_right r)

  -- the first cell comes out, and two sides are joined
  pub cells_first : (i k : ℕ) (v : P) (l r : Tree P) → cells (node i k v l r) ≡ first_cell i k v l ∷ cells (without_first i k v l r)
  cells_first i k v leaf r = refl
  cells_first i k v (node j x y a b) r =
      ap (λ z. z ++ ((k, (i, v)) ∷ cells r)) (cells_first j x y a b) ∙ sym (ap (λ z. first_cell j x y a ∷ z) (cells_rebalanced i k v (without_first j x y a b) r))

  cells_over : (c : ℕ × (ℕ × P)) (l r : Tree P) → cells (over c l r) ≡ cells l ++ (c ∷ cells r)
  cells_over c l r = cells_rebalanced c.1.0 c.0 c.1.1 l r

  cells_joined : (l r : Tree P) → cells (joined_sides l r) ≡ cells l ++ cells r
  cells_joined leaf r = refl
  cells_joined (node i k v a b) leaf = sym (append-nil (cells (node i k v a b)))
  cells_joined (node i k v a b) (node j x y c d) =
      cells_over (first_cell j x y c) (node i k v a b) (without_first j x y c d) ∙ ap (λ z. cells (node i k v a b) ++ z) (sym (cells_first j x y c d))

  -- in order as a tree, and as a list
  pub in_order_strict : (t : Tree P) → InOrder t → Strict (cells t)
  in_order_strict leaf o = tt
  in_order_strict (node i k v l r) o = strict_join (cells l) (cells r) (k, (i, v)) o.0 o.1 (in_order_strict l o.2) (in_order_strict r o.3)

  pub strict_in_order : (t : Tree P) → Strict (cells t) → InOrder t
  strict_in_order leaf s = tt
  strict_in_order (node i k v l r) s =
      let z = strict_split (cells l) (cells r) (k, (i, v)) s in
      (z.under, z.above, strict_in_order l z.before, strict_in_order r z.after)

  pub in_order_ascends : (t : Tree P) → InOrder t → ascending (entries t) ≡ true
  in_order_ascends t o = entries_ascending (cells t) ∙ ascends (cells t) (in_order_strict t o)

  pub ascending_in_order : (t : Tree P) → ascending (entries t) ≡ true → InOrder t
  ascending_in_order t a = strict_in_order t (strict (cells t) (sym (entries_ascending (cells t)) ∙ a))

  -- an entry put in
  pub cells_with : (n x : ℕ) (y : P) (t : Tree P) → InOrder t → cells (with_entry n x y t) ≡ inserted x (n, y) (cells t)
  cells_with n x y leaf o = refl
  cells_with n x y (node i k v l r) o =
      let e : ℕ × (ℕ × P) = (k, (i, v)) in
      grind (arith, nat_tests, cells_rebalanced i k v (with_entry n x y l) r, cells_rebalanced i k v l (with_entry n x y r), cells_with n x y l o.2, cells_with n x y r o.3, inserted_before x (n, y) (cells l) (cells r) e, inserted_after x (n, y) (cells l) (cells r) e o.0)

  -- a key taken out
  pub cells_without : (x : ℕ) (t : Tree P) → InOrder t → cells (without_key x t) ≡ removed x (cells t)
  cells_without x leaf o = refl
  cells_without x (node i k v l r) o =
      let e : ℕ × (ℕ × P) = (k, (i, v)) in
      cond_both (ltb x k) _ _ (λ t. cells t ≡ removed x (cells l ++ (e ∷ cells r)))
      (λ c. cells_rebalanced i k v (without_key x l) r ∙ ap (λ z. z ++ (e ∷ cells r)) (cells_without x l o.2) ∙ sym (removed_before x (cells l) (cells r) e (ltb-true x k c) o.1))
      (λ c. let le = ltb-false x k c in grind (arith, nat_tests, cells_rebalanced i k v l (without_key x r), cells_joined l r, cells_without x r o.3, removed_after x k (cells l) (e ∷ cells r) o.0 le))

  pub entries_with : (n x : ℕ) (y : P) (t : Tree P) → InOrder t → entries (with_entry n x y t) ≡ inserted x y (entries t)
  entries_with n x y t o = ap (map entry_of) (cells_with n x y t o) ∙ entries_inserted x n y (cells t)

  pub entries_without : (x : ℕ) (t : Tree P) → InOrder t → entries (without_key x t) ≡ removed x (entries t)
  entries_without x t o = ap (map entry_of) (cells_without x t o) ∙ entries_removed x (cells t)

  -- the order is kept
  pub turn_keeps_order : (i k : ℕ) (v : P) (l r : Tree P) → InOrder (node i k v l r) → InOrder (rebalanced i k v l r)
  turn_keeps_order i k v l r o = strict_in_order (rebalanced i k v l r) (subst Strict (sym (cells_rebalanced i k v l r)) (in_order_strict (node i k v l r) o))

  pub with_keeps_order : (n x : ℕ) (y : P) (t : Tree P) → InOrder t → held x (entries t) ≡ false → InOrder (with_entry n x y t)
  with_keeps_order n x y t o h = ascending_in_order (with_entry n x y t) (ap ascending (entries_with n x y t o) ∙ inserted_ascends x y (entries t) (in_order_ascends t o) h)

  pub without_keeps_order : (x : ℕ) (t : Tree P) → InOrder t → InOrder (without_key x t)
  without_keeps_order x t o = ascending_in_order (without_key x t) (ap ascending (entries_without x t o) ∙ removed_ascends x (entries t) (in_order_ascends t o))
