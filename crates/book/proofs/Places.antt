-- Keys and places: how many keys are below one, what stands at a place, and that a stretch of keys is a stretch of places.
use Rattle.std.proofs.Common.{◌≡◌, ℕ, zero, suc, ◌-◌, ◌<◌, ◌≤◌, true, cond, ltb, List, [], ◌∷◌, ◌++◌, length, take, drop, is_some, Some, refl, ap, ◌∙◌, ⊎_elim, arith}
use Rattle.std.specs.List.{AllByRecursion as All, slice_get}
use Rattle.std.proofs.ByRecursion.{All-weaker}
use Rattle.std.proofs.lemmas.Bool.{cases_lt}
use Rattle.std.proofs.lemmas.Bool.Decides.{nat_tests}
use Rattle.std.proofs.lemmas.List.Sums.{sum_by-cons, count_by-le-length}
use Rattle.book.specs.Entries.{ascending, held, value_of, count_below, between}
use Rattle.book.proofs.Order.{Above, Strict, above_more, strict}
use Rattle.book.proofs.Edits.{value_above}

module _ {V : Type 0} where
  -- the entries rise, so those below a key are the first ones
  pub below_yes : (k : ℕ) (e : ℕ × V) (es : List (ℕ × V)) → e.0 < k → count_below k (e ∷ es) ≡ suc (count_below k es)
  below_yes k e es h = grind (arith, nat_tests, sum_by-cons (λ x. cond (ltb x.0 k) 1 0) e es)

  pub below_no_more : (k : ℕ) (e : ℕ × V) (es : List (ℕ × V)) → k ≤ e.0 → count_below k (e ∷ es) ≡ count_below k es
  below_no_more k e es h = grind (arith, nat_tests, sum_by-cons (λ x. cond (ltb x.0 k) 1 0) e es)

  pub below_none : (k : ℕ) (es : List (ℕ × V)) → All (λ e. k ≤ e.0) es → count_below k es ≡ 0
  below_none k [] a = refl
  below_none k (e ∷ es) a = below_no_more k e es a.0 ∙ below_none k es a.1

  pub from_above : (k a : ℕ) (es : List (ℕ × V)) → k ≤ a → Above a es → All (λ e. k ≤ e.0) es
  from_above k a es h up = All-weaker (λ e. a < e.0) (λ e. k ≤ e.0) (λ e l. omega arith) es up

  pub below_first : (k : ℕ) (e : ℕ × V) (es : List (ℕ × V)) → k ≤ e.0 → Above e.0 es → count_below k (e ∷ es) ≡ 0
  below_first k e es h up = below_no_more k e es h ∙ below_none k es (from_above k e.0 es h up)

  pub below_le : (k : ℕ) (es : List (ℕ × V)) → count_below k es ≤ length es
  below_le k es = count_by-le-length (λ e. ltb e.0 k) es

  pub below_mono : (j k : ℕ) (es : List (ℕ × V)) → j ≤ k → count_below j es ≤ count_below k es
  below_mono j k [] h = omega arith
  below_mono j k (e ∷ es) h = grind (arith, nat_tests, sum_by-cons (λ x. cond (ltb x.0 j) 1 0) e es, sum_by-cons (λ x. cond (ltb x.0 k) 1 0) e es, below_mono j k es h)

  -- what stands at a place has as many keys below it
  place_below_strict : (es : List (ℕ × V)) (n : ℕ) (e : ℕ × V) → Strict es → slice_get es n ≡ Some e → count_below e.0 es ≡ n
  place_below_strict [] n e s h = grind (arith, nat_tests)
  place_below_strict (x ∷ es) zero e s h = grind (arith, nat_tests, below_first e.0 x es)
  place_below_strict (x ∷ es) (suc n) e s h = below_yes e.0 x es (later es n s.0 h) ∙ ap suc (place_below_strict es n e s.1 h)
    where
      later : (zs : List (ℕ × V)) (m : ℕ) → Above x.0 zs → slice_get zs m ≡ Some e → x.0 < e.0
      later [] m up h = grind (arith, nat_tests)
      later (z ∷ zs) zero up h = grind (arith, nat_tests, up.0)
      later (z ∷ zs) (suc m) up h = later zs m up.1 h

  pub place_below : (es : List (ℕ × V)) (n : ℕ) (e : ℕ × V) → ascending es ≡ true → slice_get es n ≡ Some e → count_below e.0 es ≡ n
  place_below es n e s h = place_below_strict es n e (strict es s) h

  -- what is looked up stands at the number of keys below it, and nowhere else
  pub value_place_strict : (k : ℕ) (v : V) (es : List (ℕ × V)) → Strict es → value_of k es ≡ Some v → slice_get es (count_below k es) ≡ Some (k, v)
  value_place_strict k v [] s h = grind (arith, nat_tests)
  value_place_strict k v (e ∷ es) s h = grind (arith, nat_tests, below_first k e es, below_yes k e es, value_place_strict k v es s.1, λ (l : k ≤ e.0). value_above k es (above_more k e.0 es l s.0))

  pub value_place : (k : ℕ) (v : V) (es : List (ℕ × V)) → ascending es ≡ true → value_of k es ≡ Some v → slice_get es (count_below k es) ≡ Some (k, v)
  value_place k v es s h = value_place_strict k v es (strict es s) h

  pub held_value : (k : ℕ) (es : List (ℕ × V)) → held k es ≡ is_some (value_of k es)
  held_value k [] = refl
  held_value k (e ∷ es) = grind (arith, nat_tests, held_value k es)

  -- a stretch of keys
  pub between_above : (lo hi : ℕ) (es : List (ℕ × V)) → All (λ e. hi ≤ e.0) es → between lo hi es ≡ []
  between_above lo hi [] a = refl
  between_above lo hi (e ∷ es) a = grind (arith, nat_tests, a.0, between_above lo hi es a.1)

  pub between_empty : (lo hi : ℕ) (es : List (ℕ × V)) → hi ≤ lo → between lo hi es ≡ []
  between_empty lo hi [] h = refl
  between_empty lo hi (e ∷ es) h = grind (arith, nat_tests, between_empty lo hi es h)

  between_first : (lo hi : ℕ) (es : List (ℕ × V)) → Strict es → All (λ e. lo ≤ e.0) es → between lo hi es ≡ take (count_below hi es) es
  between_first lo hi [] s a = refl
  between_first lo hi (e ∷ es) s a = grind (arith, nat_tests, a.0, between_first lo hi es s.1 a.1, below_yes hi e es, below_first hi e es, λ (l : hi ≤ e.0). between_above lo hi es (from_above hi e.0 es l s.0))

  between_is_strict : (lo hi : ℕ) (es : List (ℕ × V)) → Strict es → lo ≤ hi → between lo hi es ≡ take (count_below hi es - count_below lo es) (drop (count_below lo es) es)
  between_is_strict lo hi [] s h = refl
  between_is_strict lo hi (e ∷ es) s h =
      ⊎_elim
      (λ (l : e.0 < lo). grind (arith, nat_tests, between_is_strict lo hi es s.1 h, below_yes lo e es l, below_yes hi e es))
      (λ (l : lo ≤ e.0). grind (arith, nat_tests, below_first lo e es l s.0, between_first lo hi (e ∷ es) s (l, from_above lo e.0 es l s.0)))
      (cases_lt e.0 lo)

  pub between_is : (lo hi : ℕ) (es : List (ℕ × V)) → ascending es ≡ true → lo ≤ hi → between lo hi es ≡ take (count_below hi es - count_below lo es) (drop (count_below lo es) es)
  between_is lo hi es s h = between_is_strict lo hi es (strict es s) h

  -- two stretches that meet
  between_joins_strict : (lo mid hi : ℕ) (es : List (ℕ × V)) → Strict es → lo ≤ mid → mid ≤ hi → between lo mid es ++ between mid hi es ≡ between lo hi es
  between_joins_strict lo mid hi [] s f g = refl
  between_joins_strict lo mid hi (e ∷ es) s f g = grind (arith, nat_tests, between_joins_strict lo mid hi es s.1 f g, λ (m : mid ≤ e.0). between_above lo mid es (from_above mid e.0 es m s.0))

  pub between_joins : (lo mid hi : ℕ) (es : List (ℕ × V)) → ascending es ≡ true → lo ≤ mid → mid ≤ hi → between lo mid es ++ between mid hi es ≡ between lo hi es
  between_joins lo mid hi es s f g = between_joins_strict lo mid hi es (strict es s) f g
