-- Look-ups, counts and places.
use Rattle.std.proofs.Common.{◌≡◌, ℕ, ◌≤◌, ◌<◌, List, ◌+◌, ◌-◌, true, [], ◌∷◌, length, length-append, option_map, slice_get, is_some, Some, refl, sym, ap, ◌∙◌, arith}
use Rattle.std.proofs.lemmas.Bool.Decides.{nat_tests}
use Rattle.std.proofs.lemmas.List.{length-map}
use Rattle.std.proofs.lemmas.Option.{slice_get-map}
use Rattle.book.specs.Entries.{held, value_of, count_below}
use Rattle.book.proofs.Order.{ascends}
use Rattle.book.proofs.Edits.{length_inserted, length_removed}
use Rattle.book.proofs.Places.{below_yes, value_place, held_value}
use Rattle.avl.specs.Tree.{Tree, leaf, node, count, cells, entry_of, entries, InOrder, with_entry, without_key, lookup, below, cell_at}
use Rattle.avl.proofs.Lists.{value_before, value_after, below_before, below_after, get_before, get_after, entries_held, entries_value, entries_below}
use Rattle.avl.proofs.Cells.{in_order_strict, entries_with, entries_without}

module _ {P : Type 0} where
  -- look-ups
  pub lookup_cells : (x : ℕ) (t : Tree P) → InOrder t → lookup x t ≡ value_of x (cells t)
  lookup_cells x leaf o = refl
  lookup_cells x (node i k v l r) o =
      let e : ℕ × (ℕ × P) = (k, (i, v)) in
      grind (arith, nat_tests, lookup_cells x l o.2, lookup_cells x r o.3, λ (h : x < k). value_before x (cells l) (cells r) e h o.1, λ (h : k ≤ x). value_after x k (cells l) (e ∷ cells r) o.0 h)

  pub lookup_value : (x : ℕ) (t : Tree P) → InOrder t → option_map (λ c. c.1) (lookup x t) ≡ value_of x (entries t)
  lookup_value x t o = ap (option_map (λ c. c.1)) (lookup_cells x t o) ∙ sym (entries_value x (cells t))

  pub lookup_held : (x : ℕ) (t : Tree P) → InOrder t → is_some (lookup x t) ≡ held x (entries t)
  lookup_held x t o = ap is_some (lookup_cells x t o) ∙ sym (held_value x (cells t)) ∙ sym (entries_held x (cells t))

  -- counts
  pub count_cells : (t : Tree P) → count t ≡ length (cells t)
  count_cells leaf = refl
  count_cells (node i k v l r) = omega (arith, count_cells l, count_cells r, length-append (cells l) ((k, (i, v)) ∷ cells r))

  pub count_entries : (t : Tree P) → count t ≡ length (entries t)
  count_entries t = count_cells t ∙ sym (length-map (cells t) entry_of)

  pub count_with : (n x : ℕ) (y : P) (t : Tree P) → InOrder t → count (with_entry n x y t) ≡ count t + 1
  count_with n x y t o = omega (arith, count_entries (with_entry n x y t), count_entries t, ap length (entries_with n x y t o), length_inserted x y (entries t))

  pub count_without : (x : ℕ) (t : Tree P) → InOrder t → held x (entries t) ≡ true → count (without_key x t) + 1 ≡ count t
  count_without x t o h = omega (arith, count_entries (without_key x t), count_entries t, ap length (entries_without x t o), length_removed x (entries t) h)

  -- places
  below_cells : (x : ℕ) (t : Tree P) → InOrder t → below x t ≡ count_below x (cells t)
  below_cells x leaf o = refl
  below_cells x (node i k v l r) o =
      let e : ℕ × (ℕ × P) = (k, (i, v)) in
      grind (arith, nat_tests, below_cells x l o.2, below_cells x r o.3, count_cells l, λ (h : k < x). below_after x k (cells l) (e ∷ cells r) o.0 (omega arith), below_yes x e (cells r), λ (h : x ≤ k). below_before x (cells l) (cells r) e h o.1)

  pub below_entries : (x : ℕ) (t : Tree P) → InOrder t → below x t ≡ count_below x (entries t)
  below_entries x t o = below_cells x t o ∙ sym (entries_below x (cells t))

  at_cells : (n : ℕ) (t : Tree P) → cell_at n t ≡ slice_get (cells t) n
  at_cells n leaf = refl
  at_cells n (node i k v l r) =
      let es : List (ℕ × (ℕ × P)) = (k, (i, v)) ∷ cells r in
      grind (arith, nat_tests, count_cells l, at_cells n l, at_cells (n - (count l + 1)) r, get_before (cells l) es n, get_after (cells l) es n (n - count l), get_after ((k, (i, v)) ∷ []) (cells r) (n - count l) (n - (count l + 1)))

  pub at_entries : (n : ℕ) (t : Tree P) → option_map entry_of (cell_at n t) ≡ slice_get (entries t) n
  at_entries n t = ap (option_map entry_of) (at_cells n t) ∙ sym (slice_get-map entry_of (cells t) n)

  pub key_at : (x i : ℕ) (v : P) (t : Tree P) → InOrder t → lookup x t ≡ Some (i, v) → cell_at (below x t) t ≡ Some (x, (i, v))
  key_at x i v t o f = at_cells (below x t) t ∙ ap (slice_get (cells t)) (below_cells x t o) ∙ value_place x (i, v) (cells t) (ascends (cells t) (in_order_strict t o)) (sym (lookup_cells x t o) ∙ f)
