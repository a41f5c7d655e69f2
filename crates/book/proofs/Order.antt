-- Strictly rising lists of entries, and that their members fix them.
use Rattle.std.proofs.Common.{◌≡◌, ℕ, zero, suc, ◌<◌, ◌≤◌, true, ◌⊎◌, ◌↔◌, List, [], ◌∷◌, sym, refl, ap, ◌∙◌, inl, inr, ⊎_elim, arith}
use Rattle.std.specs.List.{ContainsAt as Has, AllByRecursion as All}
use Rattle.std.proofs.ByRecursion.{All-weaker, all-has, has_append_right}
use Rattle.std.proofs.lemmas.Bool.{ltb-true, lt-ltb, and_parts, and_from}
use Rattle.book.specs.Entries.{above, ascending}

-- what a list has is its first element, or the rest has it
pub has_cons : {X : Type 0} (y : X) (ys : List X) (x : X) → Has (y ∷ ys) x ↔ ((y ≡ x) ⊎ Has ys x)
has_cons {X} y ys x = (to, from)
  where
    to : Has (y ∷ ys) x → (y ≡ x) ⊎ Has ys x
    to (zero, l, at) = inl (at x)
    to (suc k, l, at) = inr (k, omega arith, at)

    from : (y ≡ x) ⊎ Has ys x → Has (y ∷ ys) x
    from (inl e) = (0, omega arith, λ d. e)
    from (inr h) = has_append_right (y ∷ []) ys x h

module _ {V : Type 0} where
  -- every key is greater than k
  abbrev pub Above : ℕ → List (ℕ × V) → Type 0
  Above k es = All (λ e. k < e.0) es

  -- each key is less than all that follow
  abbrev pub Strict : List (ℕ × V) → Type 0
  Strict [] = Unit {0}
  Strict (e ∷ es) = Above e.0 es × Strict es

  pub above_more : (j k : ℕ) (es : List (ℕ × V)) → j ≤ k → Above k es → Above j es
  above_more j k es h a = All-weaker (λ e. k < e.0) (λ e. j < e.0) (λ e l. omega arith) es a

  pub strict : (es : List (ℕ × V)) → ascending es ≡ true → Strict es
  strict [] h = tt
  strict (e ∷ es) h =
      let p = and_parts (above e.0 es) (ascending es) h in
      let s = strict es p.1 in
      (go es p.0 s, s)
    where
      go : (zs : List (ℕ × V)) → above e.0 zs ≡ true → Strict zs → Above e.0 zs
      go [] t s = tt
      go (z ∷ zs) t s = let l = ltb-true e.0 z.0 t in (l, above_more e.0 z.0 zs (omega arith) s.0)

  pub ascends : (es : List (ℕ × V)) → Strict es → ascending es ≡ true
  ascends [] s = refl
  ascends (e ∷ es) s = and_from (above e.0 es) (ascending es) (go es s.0) (ascends es s.1)
    where
      go : (zs : List (ℕ × V)) → Above e.0 zs → above e.0 zs ≡ true
      go [] a = refl
      go (z ∷ zs) a = lt-ltb e.0 z.0 a.0

  same_has : (xs ys : List (ℕ × V)) → Strict xs → Strict ys → ((e : ℕ × V) → Has xs e → Has ys e) → ((e : ℕ × V) → Has ys e → Has xs e) → xs ≡ ys
  same_has [] [] s t to from = refl
  same_has [] (y ∷ ys) s t to from = let l = (from y ((has_cons y ys y).1 (inl refl))).1 in absurd (omega arith)
  same_has (x ∷ xs) [] s t to from = let l = (to x ((has_cons x xs x).1 (inl refl))).1 in absurd (omega arith)
  same_has (x ∷ xs) (y ∷ ys) s t to from = λ i. heads i ∷ same_has xs ys s.1 t.1 to' from' i
    where
      go : (y ≡ x) ⊎ Has ys x → (x ≡ y) ⊎ Has xs y → x ≡ y
      go (inl e) m = sym e
      go (inr n) (inl e) = e
      go (inr n) (inr m) = absurd (omega (arith, all-has (λ z. x.0 < z.0) xs y s.0 m, all-has (λ z. y.0 < z.0) ys x t.0 n))

      heads : x ≡ y
      heads = go ((has_cons y ys x).0 (to x ((has_cons x xs x).1 (inl refl)))) ((has_cons x xs y).0 (from y ((has_cons y ys y).1 (inl refl))))

      next : {z : ℕ × V} (a b : ℕ × V) (us vs : List (ℕ × V)) → Above a.0 us → a ≡ b → Has us z → Has (b ∷ vs) z → Has vs z
      next {z} a b us vs up same m h =
          ⊎_elim (λ (e : b ≡ z). absurd (omega (arith, all-has (λ w. a.0 < w.0) us z up m, ap (λ w. w.0) (same ∙ e)))) (λ (n : Has vs z). n) ((has_cons b vs z).0 h)

      to' : (e : ℕ × V) → Has xs e → Has ys e
      to' e m = next x y xs ys s.0 heads m (to e ((has_cons x xs e).1 (inr m)))

      from' : (e : ℕ × V) → Has ys e → Has xs e
      from' e m = next y x ys xs t.0 (sym heads) m (from e ((has_cons y ys e).1 (inr m)))

  -- two rising lists with the same members are equal
  pub same_members : (xs ys : List (ℕ × V)) → ascending xs ≡ true → ascending ys ≡ true → ((e : ℕ × V) → Has xs e ↔ Has ys e) → xs ≡ ys
  same_members xs ys s t same = same_has xs ys (strict xs s) (strict ys t) (λ e. (same e).0) (λ e. (same e).1)
