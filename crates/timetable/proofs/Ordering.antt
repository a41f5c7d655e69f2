-- Lists in strict order: how to make one, and that it is the only one.
use Rattle.std.proofs.Common.{◌≡◌, ℕ, ◌+◌, ◌≤◌, Bool, true, false, cond, List, [], ◌∷◌, sum_by, count_by, sym, refl, ap, ◌∙◌, subst, inl, inr, arith}
use Rattle.std.specs.List.{AllByRecursion as All}
use Rattle.std.proofs.lemmas.List.Sums.{sum_by-cons}
use Rattle.std.proofs.ByRecursion.{All-weaker}
use Rattle.std.proofs.lemmas.Bool.{both_ways}
use Rattle.timetable.proofs.Ranks.{one}
use Rattle.timetable.proofs.Members.{Mem, all_mem, none_all}

-- each is before all that stand after it
abbrev pub Strict : {X : Type 0} → (X → X → Bool) → List X → Type 0
Strict lt [] = Unit {0}
Strict lt (x ∷ xs) = All (λ y. lt x y ≡ true) xs × Strict lt xs

-- two lists in one strict order that hold the same are equal
module _ {X : Type 0} (lt : X → X → Bool) (irr : (x : X) → lt x x ≡ false) (asym : (x y : X) → lt x y ≡ true → lt y x ≡ false) where
  pub same_strict : (xs ys : List X) → Strict lt xs → Strict lt ys → ((x : X) → Mem x xs → Mem x ys) → ((x : X) → Mem x ys → Mem x xs) → xs ≡ ys
  same_strict [] [] a b to from = refl
  same_strict [] (y ∷ ys) a b to from = absurd (from y (inl refl))
  same_strict (x ∷ xs) [] a b to from = absurd (to x (inl refl))
  same_strict (x ∷ xs) (y ∷ ys) a b to from = λ i. heads i ∷ same_strict xs ys a.1 b.1 to' from' i
    where
      go : Mem x (y ∷ ys) → Mem y (x ∷ xs) → x ≡ y
      go (inl e) m = sym e
      go (inr n) (inl e) = e
      go (inr n) (inr m) = absurd (both_ways (lt x y) (asym y x (all_mem (λ z. lt y z ≡ true) ys x b.0 n)) (all_mem (λ z. lt x z ≡ true) xs y a.0 m))

      heads : x ≡ y
      heads = go (to x (inl refl)) (from y (inl refl))

      to' : (z : X) → Mem z xs → Mem z ys
      to' z m = pick (to z (inr m))
        where
          pick : Mem z (y ∷ ys) → Mem z ys
          pick (inl e) = absurd (both_ways (lt z z) (irr z) (subst (λ w. lt w z ≡ true) (heads ∙ e) (all_mem (λ w. lt x w ≡ true) xs z a.0 m)))
          pick (inr n) = n

      from' : (z : X) → Mem z ys → Mem z xs
      from' z m = pick (from z (inr m))
        where
          pick : Mem z (x ∷ xs) → Mem z xs
          pick (inl e) = absurd (both_ways (lt z z) (irr z) (subst (λ w. lt w z ≡ true) (sym heads ∙ e) (all_mem (λ w. lt y w ≡ true) ys z b.0 m)))
          pick (inr n) = n

-- each element is put in before the first that comes after it
module _ {X : Type 0} (lt : X → X → Bool) where
  put_in : X → List X → List X
  put_in r [] = r ∷ []
  put_in r (x ∷ xs) = cond (lt r x) (r ∷ x ∷ xs) (x ∷ put_in r xs)

  put_all : (P : X → Type 0) (r : X) (xs : List X) → P r → All P xs → All P (put_in r xs)
  unfolding put_in
  put_all P r [] h k = (h, tt)
  put_all P r (x ∷ xs) h k = go (lt r x) (put_all P r xs h k.1)
    where
      go : (t : Bool) → All P (put_in r xs) → All P (cond t (r ∷ x ∷ xs) (x ∷ put_in r xs))
      go true q = (h, k)
      go false q = (k.0, q)

  put_sum : (f : X → ℕ) (r : X) (xs : List X) → sum_by f (put_in r xs) ≡ f r + sum_by f xs
  unfolding put_in
  put_sum f r [] = sum_by-cons f r []
  put_sum f r (x ∷ xs) = go (lt r x) (put_sum f r xs)
    where
      go : (t : Bool) → sum_by f (put_in r xs) ≡ f r + sum_by f xs → sum_by f (cond t (r ∷ x ∷ xs) (x ∷ put_in r xs)) ≡ f r + sum_by f (x ∷ xs)
      go true q = sum_by-cons f r (x ∷ xs)
      go false q = omega (arith, sum_by-cons f x xs, sum_by-cons f x (put_in r xs))

  -- x and y may be in either order, unless they are the same in the order's eyes
  module _ (trans : (x y z : X) → lt x y ≡ true → lt y z ≡ true → lt x z ≡ true) (same : X → X → Bool) (self : (x : X) → same x x ≡ true) (other : (x y : X) → lt x y ≡ false → same x y ≡ false → lt y x ≡ true) where
    put_order : (r : X) (xs : List X) → Strict lt xs → All (λ x. same r x ≡ false) xs → Strict lt (put_in r xs)
    unfolding put_in
    put_order r [] s n = (tt, tt)
    put_order r (x ∷ xs) s n = go (lt r x) refl (put_order r xs s.1 n.1)
      where
        go : (t : Bool) → lt r x ≡ t → Strict lt (put_in r xs) → Strict lt (cond t (r ∷ x ∷ xs) (x ∷ put_in r xs))
        go true e q = ((e, All-weaker (λ y. lt x y ≡ true) (λ y. lt r y ≡ true) (λ y k. trans r x y e k) xs s.0), s)
        go false e q = (put_all (λ y. lt x y ≡ true) r xs (other r x e n.0) s.0, q)

    module _ (P : X → Type 0) where
      pub record Ordered (xs ys : List X) : Type 0 where
        pub each : All P ys
        pub order : Strict lt ys
        pub sums : (f : X → ℕ) → sum_by f ys ≡ sum_by f xs

      pub put_in_order : (xs : List X) → All P xs → All (λ x. count_by (same x) xs ≤ 1) xs → (ys : List X) × Ordered xs ys
      put_in_order [] h l = ([], record { each = tt; order = tt; sums = λ f. refl })
      put_in_order (x ∷ xs) h l =
          let f = put_in_order xs h.1 (All-weaker (λ y. count_by (same y) (x ∷ xs) ≤ 1) (λ y. count_by (same y) xs ≤ 1) (λ y k. omega (arith, sum_by-cons (λ z. one (same y z)) x xs)) xs l.1) in
          let ys = f.0 in
          let g = f.1 in
          let mine : one (same x x) ≡ 1 = ap one (self x) in
          let lone : count_by (same x) ys ≡ 0 = let k = l.0 in omega (arith, g.sums (λ z. one (same x z)), sum_by-cons (λ z. one (same x z)) x xs) in (
            put_in x ys,
            record {
              each = put_all P x ys h.0 g.each;
              order = put_order x ys g.order (none_all (same x) ys lone);
              sums = λ k. omega (arith, put_sum k x ys, g.sums k, sum_by-cons k x xs);
            },
          )
