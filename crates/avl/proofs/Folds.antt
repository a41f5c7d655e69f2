-- The fold of a range of keys, by the totals of whole sides.
use Rattle.std.proofs.Common.{◌≡◌, ℕ, ◌-◌, ◌<◌, ◌≤◌, List, [], ◌∷◌, ◌++◌, map, take, refl, sym, ap, ◌∙◌, arith}
use Rattle.std.specs.List.{AllByRecursion as All}
use Rattle.std.proofs.ByRecursion.{All-weaker}
use Rattle.std.proofs.lemmas.Bool.Decides.{nat_tests}
use Rattle.std.proofs.lemmas.List.{map-append}
use Rattle.monoid.specs.Folds.{total}
use Rattle.monoid.specs.FoldsLemmas.{total_cons, total_append}
use Rattle.book.specs.Entries.{count_below, between, values, fold_between}
use Rattle.book.proofs.Order.{Above}
use Rattle.book.proofs.Places.{below_none, between_is}
use Rattle.avl.specs.Tree.{Tree, leaf, node, cells, entry_of, entries, InOrder, rebalanced, fold_all, fold_from, fold_to, fold_range}
use Rattle.avl.specs.Laws.{IsMonoid}
use Rattle.avl.proofs.Lists.{all_front, all_back, Under, entries_all}
use Rattle.avl.proofs.Cells.{cells_rebalanced, in_order_ascends}

-- a range of keys, and an entry with entries before and after it
module _ {V : Type 0} (lo hi : ℕ) where
  between_all : (a : ℕ) (es : List (ℕ × V)) → a ≤ hi → All (λ e. lo ≤ e.0) es → Under a es → between lo hi es ≡ es
  between_all a [] h l u = refl
  between_all a (e ∷ es) h l u = grind (arith, nat_tests, l.0, u.0, between_all a es h l.1 u.1)

  between_past : (a : ℕ) (es : List (ℕ × V)) → hi ≤ a → Above a es → between lo hi es ≡ []
  between_past a [] h up = refl
  between_past a (e ∷ es) h up = grind (arith, nat_tests, up.0, between_past a es h up.1)

  between_after : (k : ℕ) (v : V) (xs ys : List (ℕ × V)) → k < lo → Under k xs → between lo hi (xs ++ ((k, v) ∷ ys)) ≡ between lo hi ys
  between_after k v [] ys h u = grind (arith, nat_tests)
  between_after k v (x ∷ xs) ys h u = grind (arith, nat_tests, u.0, between_after k v xs ys h u.1)

  between_before : (k : ℕ) (v : V) (xs ys : List (ℕ × V)) → hi ≤ k → Above k ys → between lo hi (xs ++ ((k, v) ∷ ys)) ≡ between lo hi xs
  between_before k v [] ys h up = grind (arith, nat_tests, between_past k ys h up)
  between_before k v (x ∷ xs) ys h up = grind (arith, nat_tests, between_before k v xs ys h up)

  between_around : (k : ℕ) (v : V) (xs ys : List (ℕ × V)) → lo ≤ k → k < hi → between lo hi (xs ++ ((k, v) ∷ ys)) ≡ between lo hi xs ++ ((k, v) ∷ between lo hi ys)
  between_around k v [] ys f g = grind (arith, nat_tests)
  between_around k v (x ∷ xs) ys f g = grind (arith, nat_tests, between_around k v xs ys f g)

module _ {M : Type 0} (unit : M) (join : M → M → M) (m : IsMonoid unit join) where
  abbrev fold_of : List (ℕ × M) → M
  fold_of es = total unit join (values es)

  fold_around : (k : ℕ) (v : M) (xs ys : List (ℕ × M)) → fold_of (xs ++ ((k, v) ∷ ys)) ≡ join (fold_of xs) (join v (fold_of ys))
  fold_around k v xs ys =
      ap (total unit join) (map-append (λ e. e.1) xs ((k, v) ∷ ys))
      ∙ total_append unit join m.left m.right m.assoc (values xs) (values ((k, v) ∷ ys))
      ∙ ap (join (fold_of xs)) (total_cons unit join m.left m.right m.assoc v (values ys))

  entries_node : (i k : ℕ) (v : M) (l r : Tree M) → entries (node i k v l r) ≡ entries l ++ ((k, v) ∷ entries r)
  entries_node i k v l r = map-append entry_of (cells l) ((k, (i, v)) ∷ cells r)

  pub total_is : (t : Tree M) → fold_all unit join t ≡ fold_of (entries t)
  total_is leaf = refl
  total_is (node i k v l r) = grind (arith, total_is l, total_is r, entries_node i k v l r, fold_around k v (entries l) (entries r))

  pub total_turned : (i k : ℕ) (v : M) (l r : Tree M) → fold_all unit join (rebalanced i k v l r) ≡ fold_all unit join (node i k v l r)
  total_turned i k v l r = total_is (rebalanced i k v l r) ∙ ap (λ cs. fold_of (map entry_of cs)) (cells_rebalanced i k v l r) ∙ sym (total_is (node i k v l r))

  -- a range at a node: it lies after the node's key, before it, or around it
  module _ (lo hi i k : ℕ) (v : M) (l r : Tree M) where
    range_after : k < lo → Under k (cells l) → fold_between unit join lo hi (entries (node i k v l r)) ≡ fold_between unit join lo hi (entries r)
    range_after h u = ap (fold_between unit join lo hi) (entries_node i k v l r) ∙ ap fold_of (between_after lo hi k v (entries l) (entries r) h (entries_all (λ x. x < k) (cells l) u))

    range_before : hi ≤ k → Above k (cells r) → fold_between unit join lo hi (entries (node i k v l r)) ≡ fold_between unit join lo hi (entries l)
    range_before h up = ap (fold_between unit join lo hi) (entries_node i k v l r) ∙ ap fold_of (between_before lo hi k v (entries l) (entries r) h (entries_all (λ x. k < x) (cells r) up))

    range_around : (a b : M) → lo ≤ k → k < hi → a ≡ fold_between unit join lo hi (entries l) → b ≡ fold_between unit join lo hi (entries r) → join a (join v b) ≡ fold_between unit join lo hi (entries (node i k v l r))
    range_around a b f g p q =
        ap (λ z. join z (join v b)) p ∙ ap (λ z. join (fold_between unit join lo hi (entries l)) (join v z)) q
        ∙ sym (ap (fold_between unit join lo hi) (entries_node i k v l r) ∙ ap fold_of (between_around lo hi k v (entries l) (entries r) f g) ∙ fold_around k v (between lo hi (entries l)) (between lo hi (entries r)))

  -- a whole side
  side_is : (lo hi a : ℕ) (t : Tree M) → a ≤ hi → All (λ c. lo ≤ c.0) (cells t) → Under a (cells t) → fold_all unit join t ≡ fold_between unit join lo hi (entries t)
  side_is lo hi a t h l u = total_is t ∙ ap fold_of (sym (between_all lo hi a (entries t) h (entries_all (λ x. lo ≤ x) (cells t) l) (entries_all (λ x. x < a) (cells t) u)))

  pub from_is : (lo hi a : ℕ) (t : Tree M) → a ≤ hi → InOrder t → Under a (cells t) → fold_from unit join lo t ≡ fold_between unit join lo hi (entries t)
  from_is lo hi a leaf h o u = refl
  from_is lo hi a (node i k v l r) h o u =
      let up = all_back (λ c. c.0 < a) (cells l) ((k, (i, v)) ∷ cells r) u in
      let under = up.0 in
      let low = λ (c : lo ≤ k). All-weaker (λ x. k < x.0) (λ x. lo ≤ x.0) (λ x b. omega arith) (cells r) o.1 in
      grind (arith, nat_tests, from_is lo hi a r h o.3 up.1, λ (c : k < lo). range_after lo hi i k v l r c o.0, λ (c : lo ≤ k). range_around lo hi i k v l r _ _ c (omega arith) (from_is lo hi k l (omega arith) o.2 o.0) (side_is lo hi a r h (low c) up.1))

  pub to_is : (lo hi : ℕ) (t : Tree M) → InOrder t → All (λ c. lo ≤ c.0) (cells t) → fold_to unit join hi t ≡ fold_between unit join lo hi (entries t)
  to_is lo hi leaf o low = refl
  to_is lo hi (node i k v l r) o low =
      let left = all_front (λ c. lo ≤ c.0) (cells l) ((k, (i, v)) ∷ cells r) low in
      let rest = all_back (λ c. lo ≤ c.0) (cells l) ((k, (i, v)) ∷ cells r) low in
      grind (arith, nat_tests, to_is lo hi l o.2 left, λ (c : hi ≤ k). range_before lo hi i k v l r c o.1, λ (c : k < hi). range_around lo hi i k v l r _ _ rest.0 c (side_is lo hi k l (omega arith) left o.0) (to_is lo hi r o.3 rest.1))

  pub range_is : (lo hi : ℕ) (t : Tree M) → InOrder t → fold_range unit join lo hi t ≡ fold_between unit join lo hi (entries t)
  range_is lo hi leaf o = refl
  range_is lo hi (node i k v l r) o =
      let low = λ (c : lo ≤ k). All-weaker (λ x. k < x.0) (λ x. lo ≤ x.0) (λ x b. omega arith) (cells r) o.1 in
      grind (arith, nat_tests, range_is lo hi l o.2, range_is lo hi r o.3, λ (c : k < lo). range_after lo hi i k v l r c o.0, λ (c : hi ≤ k). range_before lo hi i k v l r c o.1, λ (c : lo ≤ k) (d : k < hi). range_around lo hi i k v l r _ _ c d (from_is lo hi k l (omega arith) o.2 o.0) (to_is lo hi r o.3 (low c)))

  -- the keys below one are the first entries
  all_from_0 : {V : Type 0} (es : List (ℕ × V)) → All (λ e. 0 ≤ e.0) es
  all_from_0 [] = tt
  all_from_0 (e ∷ es) = (omega arith, all_from_0 es)

  pub front_is : (hi : ℕ) (t : Tree M) → InOrder t → fold_to unit join hi t ≡ fold_of (take (count_below hi (entries t)) (entries t))
  front_is hi t o =
      let es = entries t in
      let none = below_none 0 es (all_from_0 es) in
      let all : count_below hi es - count_below 0 es ≡ count_below hi es = omega (arith, none) in
      to_is 0 hi t o (all_from_0 (cells t)) ∙ ap fold_of (rw none at (rw all at (between_is 0 hi es (in_order_ascends t o) (omega arith))))
