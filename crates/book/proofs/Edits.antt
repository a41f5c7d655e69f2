-- What an insert and a removal do to a list of entries.
use Rattle.std.proofs.Common.{◌≡◌, ℕ, ◌+◌, ◌<◌, ◌≤◌, true, false, cond, ◌||◌, eqb, ltb, ◌⊎◌, ◌↔◌, List, [], ◌∷◌, length, Some, None, sym, refl, ap, ◌∙◌, inl, inr, ⊎_elim, arith}
use Rattle.std.specs.List.{ContainsAt as Has, AllByRecursion as All}
use Rattle.std.proofs.ByRecursion.{all-has}
use Rattle.std.proofs.lemmas.Bool.{cond_both, ltb-true, eqb-true, eqb-false, or_parts}
use Rattle.std.proofs.lemmas.Bool.Decides.{nat_tests}
use Rattle.book.specs.Entries.{ascending, held, value_of, inserted, removed}
use Rattle.book.proofs.Order.{Above, Strict, has_cons, above_more, strict, ascends}

module _ {V : Type 0} where
  -- at which test an insert puts its entry, and a removal takes one out
  pub inserted_here : (k : ℕ) (v : V) (e : ℕ × V) (es : List (ℕ × V)) → k < e.0 → inserted k v (e ∷ es) ≡ (k, v) ∷ e ∷ es
  inserted_here k v e es h = grind (arith, nat_tests)

  pub inserted_later : (k : ℕ) (v : V) (e : ℕ × V) (es : List (ℕ × V)) → e.0 ≤ k → inserted k v (e ∷ es) ≡ e ∷ inserted k v es
  inserted_later k v e es h = grind (arith, nat_tests)

  pub removed_here : (k : ℕ) (e : ℕ × V) (es : List (ℕ × V)) → e.0 ≡ k → removed k (e ∷ es) ≡ es
  removed_here k e es h = grind (arith, nat_tests)

  pub removed_later : (k : ℕ) (e : ℕ × V) (es : List (ℕ × V)) → (e.0 ≡ k → ⊥) → removed k (e ∷ es) ≡ e ∷ removed k es
  removed_later k e es h = grind (arith, nat_tests)

  pub held_not : (k : ℕ) (e : ℕ × V) (es : List (ℕ × V)) → held k (e ∷ es) ≡ false → (e.0 ≡ k → ⊥) × (held k es ≡ false)
  held_not k e es h = let o = or_parts (eqb e.0 k) (held k es) h in (eqb-false e.0 k o.0, o.1)

  -- an entry is put in
  pub all_inserted : (P : ℕ × V → Type 0) (k : ℕ) (v : V) (es : List (ℕ × V)) → P (k, v) → All P es → All P (inserted k v es)
  all_inserted P k v [] p a = (p, tt)
  all_inserted P k v (e ∷ es) p a = grind (arith, nat_tests, p, a.0, a.1, all_inserted P k v es p a.1)

  pub inserted_strict : (k : ℕ) (v : V) (es : List (ℕ × V)) → Strict es → held k es ≡ false → Strict (inserted k v es)
  inserted_strict k v [] s h = (tt, tt)
  inserted_strict k v (e ∷ es) s h =
      let n = or_parts (eqb e.0 k) (held k es) h in
      cond_both (ltb k e.0) _ _ Strict
      (λ t. let l = ltb-true k e.0 t in ((l, above_more k e.0 es (omega arith) s.0), s))
      (λ t. (all_inserted (λ x. e.0 < x.0) k v es (grind (arith, nat_tests, n.0)) s.0, inserted_strict k v es s.1 n.1))

  pub inserted_ascends : (k : ℕ) (v : V) (es : List (ℕ × V)) → ascending es ≡ true → held k es ≡ false → ascending (inserted k v es) ≡ true
  inserted_ascends k v es s h = ascends (inserted k v es) (inserted_strict k v es (strict es s) h)

  pub has_inserted : (k : ℕ) (v : V) (es : List (ℕ × V)) (x : ℕ × V) → Has (inserted k v es) x ↔ (((k, v) ≡ x) ⊎ Has es x)
  has_inserted k v [] x = has_cons (k, v) [] x
  has_inserted k v (e ∷ es) x =
      let ih = has_inserted k v es x in
      let old = has_cons e es x in
      let new = has_cons e (inserted k v es) x in
      cond_both (ltb k e.0) _ _ (λ l. Has l x ↔ (((k, v) ≡ x) ⊎ Has (e ∷ es) x))
      (λ _. has_cons (k, v) (e ∷ es) x)
      (λ _. (
        λ h. ⊎_elim (λ q. inr (old.1 (inl q))) (λ m. ⊎_elim (λ q. inl q) (λ n. inr (old.1 (inr n))) (ih.0 m)) (new.0 h),
        λ h. new.1 (⊎_elim (λ q. inr (ih.1 (inl q))) (λ m. ⊎_elim (λ q. inl q) (λ n. inr (ih.1 (inr n))) (old.0 m)) h),
      ))

  pub length_inserted : (k : ℕ) (v : V) (es : List (ℕ × V)) → length (inserted k v es) ≡ length es + 1
  length_inserted k v [] = refl
  length_inserted k v (e ∷ es) = grind (arith, nat_tests, length_inserted k v es)

  pub held_inserted : (j k : ℕ) (v : V) (es : List (ℕ × V)) → held j (inserted k v es) ≡ (eqb k j || held j es)
  held_inserted j k v [] = refl
  held_inserted j k v (e ∷ es) = grind (arith, nat_tests, held_inserted j k v es)

  pub value_inserted : (j k : ℕ) (v : V) (es : List (ℕ × V)) → held k es ≡ false → value_of j (inserted k v es) ≡ cond (eqb k j) (Some v) (value_of j es)
  value_inserted j k v [] h = refl
  value_inserted j k v (e ∷ es) h = grind (arith, nat_tests, value_inserted j k v es)

  -- an entry is taken out
  pub all_removed : (P : ℕ × V → Type 0) (k : ℕ) (es : List (ℕ × V)) → All P es → All P (removed k es)
  all_removed P k [] a = tt
  all_removed P k (e ∷ es) a = grind (arith, nat_tests, a.0, a.1, all_removed P k es a.1)

  pub removed_strict : (k : ℕ) (es : List (ℕ × V)) → Strict es → Strict (removed k es)
  removed_strict k [] s = tt
  removed_strict k (e ∷ es) s = cond_both (eqb e.0 k) _ _ Strict (λ _. s.1) (λ _. (all_removed (λ x. e.0 < x.0) k es s.0, removed_strict k es s.1))

  has_removed_strict : (k : ℕ) (es : List (ℕ × V)) (x : ℕ × V) → Strict es → Has (removed k es) x ↔ (Has es x × (x.0 ≡ k → ⊥))
  has_removed_strict k [] x s = (λ h. let l = h.1 in absurd (omega arith), λ h. h.0)
  has_removed_strict k (e ∷ es) x s = cond_both (eqb e.0 k) _ _ (λ l. Has l x ↔ (Has (e ∷ es) x × (x.0 ≡ k → ⊥))) here (later (has_removed_strict k es x s.1))
    where
      here : eqb e.0 k ≡ true → Has es x ↔ (Has (e ∷ es) x × (x.0 ≡ k → ⊥))
      here t =
          let q = eqb-true e.0 k t in (
            λ m. let l = all-has (λ y. e.0 < y.0) es x s.0 m in ((has_cons e es x).1 (inr m), λ r. omega arith),
            λ h. ⊎_elim (λ (r : e ≡ x). absurd (h.1 (sym (ap (λ y. y.0) r) ∙ q))) (λ (m : Has es x). m) ((has_cons e es x).0 h.0),
          )

      later : Has (removed k es) x ↔ (Has es x × (x.0 ≡ k → ⊥)) → eqb e.0 k ≡ false → Has (e ∷ removed k es) x ↔ (Has (e ∷ es) x × (x.0 ≡ k → ⊥))
      later ih t =
          let old = has_cons e es x in
          let new = has_cons e (removed k es) x in (
            λ h. ⊎_elim (λ (q : e ≡ x). (old.1 (inl q), λ r. eqb-false e.0 k t (ap (λ y. y.0) q ∙ r))) (λ (m : Has (removed k es) x). (old.1 (inr (ih.0 m).0), (ih.0 m).1)) (new.0 h),
            λ h. new.1 (⊎_elim (λ q. inl q) (λ m. inr (ih.1 (m, h.1))) (old.0 h.0)),
          )

  pub removed_ascends : (k : ℕ) (es : List (ℕ × V)) → ascending es ≡ true → ascending (removed k es) ≡ true
  removed_ascends k es s = ascends (removed k es) (removed_strict k es (strict es s))

  pub has_removed : (k : ℕ) (es : List (ℕ × V)) (x : ℕ × V) → ascending es ≡ true → Has (removed k es) x ↔ (Has es x × (x.0 ≡ k → ⊥))
  has_removed k es x s = has_removed_strict k es x (strict es s)

  pub length_removed : (k : ℕ) (es : List (ℕ × V)) → held k es ≡ true → length (removed k es) + 1 ≡ length es
  length_removed k [] h = grind (arith, nat_tests)
  length_removed k (e ∷ es) h = grind (arith, nat_tests, length_removed k es)

  pub removed_unheld : (k : ℕ) (es : List (ℕ × V)) → held k es ≡ false → removed k es ≡ es
  removed_unheld k [] h = refl
  removed_unheld k (e ∷ es) h = grind (arith, nat_tests, removed_unheld k es)

  pub value_above : (k : ℕ) (es : List (ℕ × V)) → Above k es → value_of k es ≡ None
  value_above k [] a = refl
  value_above k (e ∷ es) a = grind (arith, nat_tests, a.0, value_above k es a.1)

  pub held_above : (k : ℕ) (es : List (ℕ × V)) → Above k es → held k es ≡ false
  held_above k [] a = refl
  held_above k (e ∷ es) a = grind (arith, nat_tests, a.0, held_above k es a.1)

  value_removed_strict : (j k : ℕ) (es : List (ℕ × V)) → Strict es → value_of j (removed k es) ≡ cond (eqb k j) None (value_of j es)
  value_removed_strict j k [] s = grind (arith, nat_tests)
  value_removed_strict j k (e ∷ es) s = grind (arith, nat_tests, value_removed_strict j k es s.1, λ (l : k ≤ e.0). value_above k es (above_more k e.0 es l s.0))

  pub value_removed : (j k : ℕ) (es : List (ℕ × V)) → ascending es ≡ true → value_of j (removed k es) ≡ cond (eqb k j) None (value_of j es)
  value_removed j k es s = value_removed_strict j k es (strict es s)

  -- two edits, one after the other
  pub inserts_commute : (j k : ℕ) (v w : V) (es : List (ℕ × V)) → (j ≡ k → ⊥) → inserted j v (inserted k w es) ≡ inserted k w (inserted j v es)
  inserts_commute j k v w [] ne = grind (arith, nat_tests)
  inserts_commute j k v w (e ∷ es) ne = grind (arith, nat_tests, inserts_commute j k v w es ne)

  pub removes_commute : (j k : ℕ) (es : List (ℕ × V)) → (j ≡ k → ⊥) → removed j (removed k es) ≡ removed k (removed j es)
  removes_commute j k [] ne = refl
  removes_commute j k (e ∷ es) ne = grind (arith, nat_tests, removes_commute j k es ne)

  -- an insert undone
  pub removed_inserted : (k : ℕ) (v : V) (es : List (ℕ × V)) → held k es ≡ false → removed k (inserted k v es) ≡ es
  removed_inserted k v [] h = grind (arith, nat_tests)
  removed_inserted k v (e ∷ es) h = grind (arith, nat_tests, removed_inserted k v es)

  inserted_first : (k : ℕ) (v : V) (es : List (ℕ × V)) → Above k es → inserted k v es ≡ (k, v) ∷ es
  inserted_first k v [] a = refl
  inserted_first k v (e ∷ es) a = grind (arith, nat_tests, a.0)

  removed_then_strict : (j k : ℕ) (v : V) (es : List (ℕ × V)) → Strict es → (j ≡ k → ⊥) → removed k (inserted j v es) ≡ inserted j v (removed k es)
  removed_then_strict j k v [] s ne = grind (arith, nat_tests)
  removed_then_strict j k v (e ∷ es) s ne = grind (arith, nat_tests, removed_then_strict j k v es s.1 ne, λ (l : j ≤ e.0). inserted_first j v es (above_more j e.0 es l s.0))

  pub removed_inserted_other : (j k : ℕ) (v : V) (es : List (ℕ × V)) → ascending es ≡ true → (j ≡ k → ⊥) → removed k (inserted j v es) ≡ inserted j v (removed k es)
  removed_inserted_other j k v es s ne = removed_then_strict j k v es (strict es s) ne
