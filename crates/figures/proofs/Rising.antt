-- Entries in rising key: what stands below a key, and at which place a key stands.
use Rattle.std.proofs.Common.{◌≡◌, ℕ, zero, suc, ◌+◌, ◌<◌, ◌≤◌, Bool, true, false, cond, ◌&&◌, ltb, leb, ◌⊎◌, List, [], ◌∷◌, length, get_or, take, Some, None, sum_by, count_by, filter, Option, sym, refl, ap, ◌∙◌, subst, inl, inr, arith}
use Rattle.std.specs.List.{ContainsAt as Has, AllByRecursion as All, slice_get}
use Rattle.std.proofs.lemmas.Option.{slice_get-get_or}
use Rattle.std.proofs.ByRecursion.{All-weaker, all_kept_by, All-get_or}
use Rattle.std.proofs.lemmas.Bool.{cases_lt, lt-ltb, le-ltb, cond-true, cond-false}
use Rattle.std.proofs.lemmas.Bool.Decides.{nat_tests}
use Rattle.book.specs.Entries.{count_below}
use Rattle.book.proofs.Order.{Strict, ascends}
use Rattle.book.proofs.Places.{below_yes, below_first, below_none, place_below}
use Rattle.timetable.proofs.Ranks.{one, sum_add}

module _ {V : Type 0} where
  pub strict_kept : (p : ℕ × V → Bool) (es : List (ℕ × V)) → Strict es → Strict (filter p es)
  strict_kept p [] u = tt
  strict_kept p (e ∷ es) u = by (p e) (strict_kept p es u.1)
    where
      by : (b : Bool) → Strict (filter p es) → Strict (cond b (e ∷ filter p es) (filter p es))
      by true rest = (all_kept_by p (λ x. e.0 < x.0) es u.0, rest)
      by false rest = rest

  kept_none : (p : ℕ × V → Bool) (es : List (ℕ × V)) → All (λ e. p e ≡ false) es → filter p es ≡ []
  kept_none p [] h = refl
  kept_none p (e ∷ es) h = cond-false (p e) (e ∷ filter p es) (filter p es) h.0 ∙ kept_none p es h.1

  -- as many as are below a key, from the front, are those below it
  pub take_below : (c : ℕ) (es : List (ℕ × V)) → Strict es → take (count_below c es) es ≡ filter (λ e. ltb e.0 c) es
  take_below c [] u = refl
  take_below c (e ∷ es) u = go (cases_lt e.0 c) (take_below c es u.1)
    where
      rest : List (ℕ × V)
      rest = filter (λ x. ltb x.0 c) es

      go : (e.0 < c) ⊎ (c ≤ e.0) → take (count_below c es) es ≡ rest → take (count_below c (e ∷ es)) (e ∷ es) ≡ cond (ltb e.0 c) (e ∷ rest) rest
      go (inl l) ih = ap (λ k. take k (e ∷ es)) (below_yes c e es l) ∙ ap (λ xs. e ∷ xs) ih ∙ sym (cond-true (ltb e.0 c) (e ∷ rest) rest (lt-ltb e.0 c l))
      go (inr l) ih =
          let later : All (λ x. ltb x.0 c ≡ false) es = All-weaker (λ x. e.0 < x.0) (λ x. ltb x.0 c ≡ false) (λ x m. le-ltb x.0 c (omega arith)) es u.0 in
          ap (λ k. take k (e ∷ es)) (below_first c e es l u.0) ∙ sym (kept_none (λ x. ltb x.0 c) es later) ∙ sym (cond-false (ltb e.0 c) (e ∷ rest) rest (le-ltb e.0 c l))

  -- the place of a key is the count of those below it
  pub place_is : (es : List (ℕ × V)) → Strict es → (k : ℕ) (e : ℕ × V) → k < length es → ((d : ℕ × V) → get_or es k d ≡ e) → count_below e.0 es ≡ k
  place_is es u k e l at = place_below es k e (ascends es u) (slice_get-get_or es k e l ∙ ap Some (at e))

  -- and one more is the count up to the key itself
  pub place_next : (es : List (ℕ × V)) → Strict es → (k : ℕ) (e : ℕ × V) → k < length es → ((d : ℕ × V) → get_or es k d ≡ e) → count_below (e.0 + 1) es ≡ suc k
  place_next [] u k e l at = absurd (omega arith)
  place_next (x ∷ xs) u zero e l at =
      let P : ℕ × V → Type 0 = λ y. count_below (y.0 + 1) (x ∷ xs) ≡ 1 in
      let later : All (λ y. x.0 + 1 ≤ y.0) xs = All-weaker (λ y. x.0 < y.0) (λ y. x.0 + 1 ≤ y.0) (λ y m. omega arith) xs u.0 in
      subst P (at x) (below_yes (x.0 + 1) x xs (omega arith) ∙ ap suc (below_none (x.0 + 1) xs later))
  place_next (x ∷ xs) u (suc k) e l at =
      let P : ℕ × V → Type 0 = λ y. x.0 < y.0 in
      let up : P e = subst P (at x) (All-get_or P xs k x (omega arith) u.0) in
      below_yes (e.0 + 1) x xs (omega arith) ∙ ap suc (place_next xs u.1 k e (omega arith) at)

  pub has_place : (es : List (ℕ × V)) → Strict es → (e : ℕ × V) (h : Has es e) → count_below e.0 es ≡ h.0
  has_place es u e h = place_is es u h.0 e h.1 h.2

  pub nth_of : (es : List (ℕ × V)) → Strict es → (e : ℕ × V) → Has es e → slice_get es (count_below e.0 es) ≡ Some e
  nth_of es u e h = ap (slice_get es) (has_place es u e h) ∙ slice_get-get_or es h.0 e h.1 ∙ ap Some (h.2 e)

  pub nth_has : (es : List (ℕ × V)) (k : ℕ) (e : ℕ × V) → slice_get es k ≡ Some e → (k < length es) × ((d : ℕ × V) → get_or es k d ≡ e)
  nth_has [] k e h = absurd (none_some h)
    where
      is : Option (ℕ × V) → Type 0
      is None = Unit {0}
      is (Some x) = ⊥

      none_some : None ≡ Some e → ⊥
      none_some q = subst is q tt
  nth_has (x ∷ xs) zero e h = (omega arith, λ d. ap or_x h)
    where
      or_x : Option (ℕ × V) → ℕ × V
      or_x None = x
      or_x (Some y) = y
  nth_has (x ∷ xs) (suc k) e h = let r = nth_has xs k e h in let l = r.0 in (omega arith, r.1)

  -- the entries below a key are those below a lower key, and those from there on
  pub below_split : (lo c : ℕ) (es : List (ℕ × V)) → lo ≤ c → count_below c es ≡ count_below lo es + count_by (λ e. leb lo e.0 && ltb e.0 c) es
  below_split lo c es h =
      ap (λ f. sum_by f es) (λ i e. part e.0 i) ∙ sum_add (λ e. one (ltb e.0 lo)) (λ e. one (leb lo e.0 && ltb e.0 c)) es
    where
      part : (k : ℕ) → one (ltb k c) ≡ one (ltb k lo) + one (leb lo k && ltb k c)
      part k = grind (arith, nat_tests)
