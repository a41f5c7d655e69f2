-- Rising entries by places: finding a key, and putting an entry in and taking one out at a place.
use Rattle.std.proofs.Common.{◌≡◌, ℕ, zero, suc, ◌<◌, ◌≤◌, true, false, List, [], ◌∷◌, length, get_or, take, Some, refl, arith}
use Rattle.std.specs.List.{insert, remove}
use Rattle.std.proofs.ByRecursion.{All-get_or, All-take}
use Rattle.std.proofs.lemmas.Bool.Decides.{nat_tests}
use Rattle.book.specs.Entries.{ascending, held, value_of, inserted, removed, count_below}
use Rattle.book.proofs.Order.{Strict, above_more, strict, ascends}
use Rattle.book.proofs.Edits.{held_above}
use Rattle.book.proofs.Places.{below_yes, below_first}

module _ {V : Type 0} where
  -- a place whose key is less than k comes before the number of those below k, and any other does not
  pub place_before : (k : ℕ) (es : List (ℕ × V)) (i : ℕ) (d : ℕ × V) → Strict es → i < length es → (get_or es i d).0 < k → i < count_below k es
  place_before k [] i d s h l = absurd (omega arith)
  place_before k (e ∷ es) zero d s h l = omega (arith, below_yes k e es l)
  place_before k (e ∷ es) (suc i) d s h l = grind (arith, All-get_or (λ x. e.0 < x.0) es i d (omega arith) s.0, below_yes k e es, place_before k es i d s.1)

  pub place_not_before : (k : ℕ) (es : List (ℕ × V)) (i : ℕ) (d : ℕ × V) → Strict es → i < length es → k ≤ (get_or es i d).0 → count_below k es ≤ i
  place_not_before k [] i d s h l = absurd (omega arith)
  place_not_before k (e ∷ es) zero d s h l = omega (arith, below_first k e es l s.0)
  place_not_before k (e ∷ es) (suc i) d s h l = grind (arith, nat_tests, below_yes k e es, below_first k e es, place_not_before k es i d s.1)

  -- the value at the place where the key stands
  pub value_at : (k : ℕ) (es : List (ℕ × V)) (i : ℕ) (d : ℕ × V) → Strict es → i < length es → (get_or es i d).0 ≡ k → value_of k es ≡ Some (get_or es i d).1
  value_at k [] i d s h q = absurd (omega arith)
  value_at k (e ∷ es) zero d s h q = grind (arith, nat_tests)
  value_at k (e ∷ es) (suc i) d s h q = grind (arith, nat_tests, All-get_or (λ x. e.0 < x.0) es i d (omega arith) s.0, value_at k es i d s.1)

  pub held_at : (k : ℕ) (es : List (ℕ × V)) (i : ℕ) (d : ℕ × V) → i < length es → (get_or es i d).0 ≡ k → held k es ≡ true
  held_at k [] i d h q = absurd (omega arith)
  held_at k (e ∷ es) zero d h q = grind (arith, nat_tests)
  held_at k (e ∷ es) (suc i) d h q = grind (arith, nat_tests, held_at k es i d)

  -- a key is held only at the number of those below it
  pub held_nowhere : (k : ℕ) (es : List (ℕ × V)) (d : ℕ × V) → Strict es → (count_below k es < length es → (get_or es (count_below k es) d).0 ≡ k → ⊥) → held k es ≡ false
  held_nowhere k [] d s h = refl
  held_nowhere k (e ∷ es) d s h = grind (arith, nat_tests, below_yes k e es, below_first k e es, held_nowhere k es d s.1, λ (l : k ≤ e.0). held_above k es (above_more k e.0 es l s.0))

  -- an insert and a removal, by places
  inserted_at_strict : (k : ℕ) (v : V) (es : List (ℕ × V)) → Strict es → held k es ≡ false → inserted k v es ≡ insert es (count_below k es) (k, v)
  inserted_at_strict k v [] s h = refl
  inserted_at_strict k v (e ∷ es) s h = grind (arith, nat_tests, below_yes k e es, below_first k e es, inserted_at_strict k v es s.1)

  pub inserted_at : (k : ℕ) (v : V) (es : List (ℕ × V)) → ascending es ≡ true → held k es ≡ false → inserted k v es ≡ insert es (count_below k es) (k, v)
  inserted_at k v es s h = inserted_at_strict k v es (strict es s) h

  removed_at_strict : (k : ℕ) (es : List (ℕ × V)) (i : ℕ) (d : ℕ × V) → Strict es → i < length es → (get_or es i d).0 ≡ k → removed k es ≡ remove es i
  removed_at_strict k [] i d s h q = absurd (omega arith)
  removed_at_strict k (e ∷ es) zero d s h q = grind (arith, nat_tests)
  removed_at_strict k (e ∷ es) (suc i) d s h q = grind (arith, nat_tests, All-get_or (λ x. e.0 < x.0) es i d (omega arith) s.0, removed_at_strict k es i d s.1)

  pub removed_at : (k : ℕ) (es : List (ℕ × V)) (i : ℕ) (d : ℕ × V) → ascending es ≡ true → i < length es → (get_or es i d).0 ≡ k → removed k es ≡ remove es i
  removed_at k es i d s h q = removed_at_strict k es i d (strict es s) h q

  -- the first entries of a rising list rise
  strict_take : (n : ℕ) (es : List (ℕ × V)) → Strict es → Strict (take n es)
  strict_take zero es s = tt
  strict_take (suc n) [] s = tt
  strict_take (suc n) (e ∷ es) s = (All-take (λ x. e.0 < x.0) n es s.0, strict_take n es s.1)

  pub ascending_take : (n : ℕ) (es : List (ℕ × V)) → ascending es ≡ true → ascending (take n es) ≡ true
  ascending_take n es s = ascends (take n es) (strict_take n es (strict es s))
