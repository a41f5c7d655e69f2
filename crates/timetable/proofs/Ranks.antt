-- Numbers are places in an order, by counts.
use Rattle.std.proofs.Common.{◌≡◌, ℕ, zero, suc, ◌+◌, ◌<◌, ◌≤◌, Bool, true, false, cond, not, ◌&&◌, eqb, ltb, ◌⊎◌, List, [], ◌∷◌, ◌++◌, sum_by, count_by, sym, refl, ap, ◌∙◌, inl, inr, arith}
use Rattle.std.specs.List.{AllByRecursion as All}
use Rattle.std.proofs.lemmas.List.Sums.{sum_by-cons, sum_by-append}
use Rattle.std.proofs.ByRecursion.{All-weaker}
use Rattle.std.proofs.lemmas.Bool.{cases_Bool, cases_eq, and_parts, and_from, and_right, eq-eqb, eqb-true, ltb-true, both_ways, not_from_false}
use Rattle.timetable.specs.Fifo.{place}

abbrev pub one : Bool → ℕ
one b = cond b 1 0

pub imp : (a b : Bool) → (a ≡ true → b ≡ true) → one a ≤ one b
imp true b h = omega (arith, ap one (h refl))
imp false b h = omega arith

pub one_true : (a : Bool) → 1 ≤ one a → a ≡ true
one_true true h = refl
one_true false h = absurd (omega arith)

gap : (p q : Bool) → one p ≤ one q → one p + one (q && not p) ≤ one q
gap true true h = omega arith
gap true false h = omega arith
gap false true h = omega arith
gap false false h = omega arith

pub all_of : {X : Type 0} (P : X → Type 0) → ((x : X) → P x) → (xs : List X) → All P xs
all_of P h [] = tt
all_of P h (x ∷ xs) = (h x, all_of P h xs)

pub sum_le : {X : Type 0} (f g : X → ℕ) (xs : List X) → All (λ x. f x ≤ g x) xs → sum_by f xs ≤ sum_by g xs
sum_le f g [] h = omega arith
sum_le f g (x ∷ xs) h = omega (arith, sum_by-cons f x xs, sum_by-cons g x xs, sum_le f g xs h.1, h.0)

pub sum_add : {X : Type 0} (f g : X → ℕ) (xs : List X) → sum_by (λ x. f x + g x) xs ≡ sum_by f xs + sum_by g xs
sum_add f g [] = refl
sum_add f g (x ∷ xs) = omega (arith, sum_by-cons f x xs, sum_by-cons g x xs, sum_by-cons (λ y. f y + g y) x xs, sum_add f g xs)

pub count_le : {X : Type 0} (p q : X → Bool) → ((x : X) → p x ≡ true → q x ≡ true) → (xs : List X) → count_by p xs ≤ count_by q xs
count_le p q h xs = sum_le (λ x. one (p x)) (λ x. one (q x)) xs (all_of (λ x. one (p x) ≤ one (q x)) (λ x. imp (p x) (q x) (h x)) xs)

-- x is in xs: each test that x passes counts one at least
abbrev pub In : {X : Type 0} → List X → X → Type 0
In {X} xs x = (p : X → Bool) → one (p x) ≤ count_by p xs

pub in_head : {X : Type 0} (x : X) (xs : List X) → In (x ∷ xs) x
in_head x xs p = omega (arith, sum_by-cons (λ y. one (p y)) x xs)

pub in_tail : {X : Type 0} (y x : X) (xs : List X) → In xs x → In (y ∷ xs) x
in_tail y x xs h p = omega (arith, sum_by-cons (λ y. one (p y)) y xs, h p)

pub in_left : {X : Type 0} (x : X) (xs ys : List X) → In xs x → In (xs ++ ys) x
in_left x xs ys h p = omega (arith, sum_by-append (λ y. one (p y)) xs ys, h p)

pub in_right : {X : Type 0} (x : X) (xs ys : List X) → In ys x → In (xs ++ ys) x
in_right x xs ys h p = omega (arith, sum_by-append (λ y. one (p y)) xs ys, h p)

pub every : {X : Type 0} (P : X → Type 0) (xs : List X) → ((x : X) → In xs x → P x) → All P xs
every P [] h = tt
every P (x ∷ xs) h = (h x (in_head x xs), every P xs (λ y i. h y (in_tail x y xs i)))

pub count_strict : {X : Type 0} (p q : X → Bool) → ((x : X) → p x ≡ true → q x ≡ true) → (xs : List X) (s : X) → In xs s → p s ≡ false → q s ≡ true → count_by p xs < count_by q xs
count_strict {X} p q h xs s i no-s yes-s =
    let d : X → Bool = λ x. q x && not (p x) in
    let le = sum_le (λ x. one (p x) + one (d x)) (λ x. one (q x)) xs (all_of (λ x. one (p x) + one (d x) ≤ one (q x)) (λ x. gap (p x) (q x) (imp (p x) (q x) (h x))) xs) in
    let split = sum_add (λ x. one (p x)) (λ x. one (d x)) xs in
    let at_s : one (d s) ≡ 1 = ap one (and_from (q s) (not (p s)) yes-s (not_from_false (p s) no-s)) in
    omega (arith, i d)

abbrev Top : {X : Type 0} → (X → X → Bool) → (X → Bool) → List X → Type 0
Top {X} lt q xs = (m : X) × In xs m × (q m ≡ true) × All (λ x. q x ≡ true → lt m x ≡ false) xs

module _ {X : Type 0} (lt : X → X → Bool) (irr : (x : X) → lt x x ≡ false) (trans : (x y z : X) → lt x y ≡ true → lt y z ≡ true → lt x z ≡ true) (num : X → ℕ) (tri : (x y : X) → lt x y ≡ false → lt y x ≡ false → num x ≡ num y) where
  pub place_below : (q : X → Bool) (xs : List X) (a b : X) → lt a b ≡ true → In xs a → q a ≡ true → place lt q xs a < place lt q xs b
  place_below q xs a b l i qa =
      let up : (x : X) → (q x && lt x a) ≡ true → (q x && lt x b) ≡ true =
      λ x h. let ps = and_parts (q x) (lt x a) h in and_from (q x) (lt x b) ps.0 (trans x a b ps.1 l) in
      count_strict (λ x. q x && lt x a) (λ x. q x && lt x b) up xs a i (and_right (q a) (lt a a) (irr a)) (and_from (q a) (lt a b) qa l)

  pub same_place : (q : X → Bool) (xs : List X) (a b : X) → In xs a → In xs b → q a ≡ true → q b ≡ true → place lt q xs a ≡ place lt q xs b → num a ≡ num b
  same_place q xs a b ia ib qa qb e = go (cases_Bool (lt a b)) (cases_Bool (lt b a))
    where
      go : (lt a b ≡ true) ⊎ (lt a b ≡ false) → (lt b a ≡ true) ⊎ (lt b a ≡ false) → num a ≡ num b
      go (inl l) s = absurd (omega (arith, place_below q xs a b l ia qa))
      go (inr l) (inl g) = absurd (omega (arith, place_below q xs b a g ib qb))
      go (inr l) (inr g) = tri a b l g

  later : (m x y : X) → lt m x ≡ true → lt m y ≡ false → lt x y ≡ false
  later m x y up down = go (cases_Bool (lt x y))
    where
      go : (lt x y ≡ true) ⊎ (lt x y ≡ false) → lt x y ≡ false
      go (inl l) = absurd (both_ways (lt m y) down (trans m x y up l))
      go (inr l) = l

  top : (q : X → Bool) (xs : List X) → (count_by q xs ≡ 0) ⊎ Top lt q xs
  top q [] = inl refl
  top q (x ∷ xs) = go (cases_Bool (q x)) (top q xs)
    where
      c : count_by q (x ∷ xs) ≡ one (q x) + count_by q xs
      c = sum_by-cons (λ y. one (q y)) x xs

      none_of : (ys : List X) → count_by q ys ≡ 0 → All (λ y. q y ≡ true → lt x y ≡ false) ys
      none_of [] e = tt
      none_of (y ∷ ys) e =
          let cy = sum_by-cons (λ z. one (q z)) y ys in
          ((λ t. let o : one (q y) ≡ 1 = ap one t in absurd (omega arith)), none_of ys (omega arith))

      here : q x ≡ true → (m : X) × In xs m × (q m ≡ true) × All (λ y. q y ≡ true → lt m y ≡ false) xs → (lt (x) x ≡ false) → (m : X) × In (x ∷ xs) m × (q m ≡ true) × All (λ y. q y ≡ true → lt m y ≡ false) (x ∷ xs)
      here t u z = pick (cases_Bool (lt u.0 x))
        where
          m : X
          m = u.0

          pick : (lt m x ≡ true) ⊎ (lt m x ≡ false) → Top lt q (x ∷ xs)
          pick (inl l) = (x, in_head x xs, t, ((λ _. z), All-weaker (λ y. q y ≡ true → lt m y ≡ false) (λ y. q y ≡ true → lt x y ≡ false) (λ y f g. later m x y l (f g)) xs u.3))
          pick (inr l) = (m, in_tail x m xs u.1, u.2, ((λ _. l), u.3))

      go : (q x ≡ true) ⊎ (q x ≡ false) → (count_by q xs ≡ 0) ⊎ Top lt q xs → (count_by q (x ∷ xs) ≡ 0) ⊎ Top lt q (x ∷ xs)
      go (inl t) (inl e) = inr (x, in_head x xs, t, ((λ _. irr x), none_of xs e))
      go (inl t) (inr u) = inr (here t u (irr x))
      go (inr f) (inl e) = inl (let o : one (q x) ≡ 0 = ap one f in omega (arith, c))
      go (inr f) (inr u) = inr (u.0, in_tail x u.0 xs u.1, u.2, ((λ t. absurd (both_ways (q x) f t)), u.3))

  -- the last of those that pass has all the others before it
  module _ (xs : List X) (apart : (k : ℕ) → count_by (λ x. eqb (num x) k) xs ≤ 1) where
    top_place : (q : X → Bool) (m : X) → All (λ x. q x ≡ true → lt m x ≡ false) xs → count_by q xs ≤ place lt q xs m + 1
    top_place q m h =
        let P : X → Bool = λ x. q x && lt x m in
        let E : X → Bool = λ x. eqb (num x) (num m) in
        let each : (x : X) → (q x ≡ true → lt m x ≡ false) → one (q x) ≤ one (P x) + one (E x) =
        λ x f. cover (q x) (lt x m) (E x) (λ t l. eq-eqb (num x) (num m) (tri x m l (f t))) in
        let le = sum_le (λ x. one (q x)) (λ x. one (P x) + one (E x)) xs (All-weaker (λ x. q x ≡ true → lt m x ≡ false) (λ x. one (q x) ≤ one (P x) + one (E x)) each xs h) in
        omega (arith, sum_add (λ x. one (P x)) (λ x. one (E x)) xs, apart (num m))
      where
        cover : (a b e : Bool) → (a ≡ true → b ≡ false → e ≡ true) → one a ≤ one (a && b) + one e
        cover true true e h = omega arith
        cover true false e h = omega (arith, ap one (h refl refl))
        cover false b e h = omega arith

    -- at most n of those that pass have fewer than n before them
    pub few : (q : X → Bool) (n : ℕ) → count_by (λ x. q x && ltb (place lt q xs x) n) xs ≤ n
    few q n = go (top r xs)
      where
        r : X → Bool
        r = λ x. q x && ltb (place lt q xs x) n

        go : (count_by r xs ≡ 0) ⊎ Top lt r xs → count_by r xs ≤ n
        go (inl e) = omega arith
        go (inr u) =
            let m = u.0 in
            let ps = and_parts (q m) (ltb (place lt q xs m) n) u.2 in
            let low = ltb-true (place lt q xs m) n ps.1 in
            let sub = count_le (λ x. r x && lt x m) (λ x. q x && lt x m) (λ x h. let a = and_parts (r x) (lt x m) h in and_from (q x) (lt x m) (and_parts (q x) (ltb (place lt q xs x) n) a.0).0 a.1) xs in
            omega (arith, top_place r m u.3)

    -- each place below the count is taken
    at_place_upto : (N : ℕ) (q : X → Bool) (k : ℕ) → count_by q xs ≤ N → k < count_by q xs → (r : X) × In xs r × (q r ≡ true) × (place lt q xs r ≡ k)
    at_place_upto zero q k h l = absurd (omega arith)
    at_place_upto (suc N) q k h l = go (top q xs) (λ q' h' l'. at_place_upto N q' k h' l')
      where
        Found : (X → Bool) → Type 0
        Found p = (r : X) × In xs r × (p r ≡ true) × (place lt p xs r ≡ k)

        go : (count_by q xs ≡ 0) ⊎ Top lt q xs → ((q' : X → Bool) → count_by q' xs ≤ N → k < count_by q' xs → Found q') → Found q
        go (inl e) ih = absurd (omega arith)
        go (inr u) ih = pick (cases_eq (place lt q xs m) k)
          where
            m : X
            m = u.0

            all_but : count_by q xs ≤ place lt q xs m + 1
            all_but = top_place q m u.3

            less : place lt q xs m < count_by q xs
            less = count_strict (λ x. q x && lt x m) q (λ x t. (and_parts (q x) (lt x m) t).0) xs m u.1 (and_right (q m) (lt m m) (irr m)) u.2

            q' : X → Bool
            q' = λ x. q x && lt x m

            up : (r : X) → lt r m ≡ true → place lt q' xs r ≡ place lt q xs r
            up r l = omega (
              arith,
              count_le (λ x. q' x && lt x r) (λ x. q x && lt x r) (λ x t. let a = and_parts (q' x) (lt x r) t in and_from (q x) (lt x r) (and_parts (q x) (lt x m) a.0).0 a.1) xs,
              count_le (λ x. q x && lt x r) (λ x. q' x && lt x r) (λ x t. let a = and_parts (q x) (lt x r) t in and_from (q' x) (lt x r) (and_from (q x) (lt x m) a.0 (trans x r m a.1 l)) a.1) xs,
            )

            pick : (place lt q xs m ≡ k) ⊎ (place lt q xs m ≡ k → ⊥) → Found q
            pick (inl e) = (m, u.1, u.2, e)
            pick (inr ne) =
                let f = ih q' (omega (arith, less)) (omega (arith, all_but)) in
                let ps = and_parts (q f.0) (lt f.0 m) f.2 in
                (f.0, f.1, ps.0, sym (up f.0 ps.1) ∙ f.3)

    pub at_place : (q : X → Bool) (k : ℕ) → k < count_by q xs → (r : X) × In xs r × (q r ≡ true) × (place lt q xs r ≡ k)
    at_place q k l = at_place_upto (count_by q xs) q k (omega arith) l

    -- no two stand at one place
    pub lone : (q : X → Bool) (k : ℕ) → count_by (λ x. q x && eqb (place lt q xs x) k) xs ≤ 1
    lone q k = go (top r xs)
      where
        r : X → Bool
        r = λ x. q x && eqb (place lt q xs x) k

        go : (count_by r xs ≡ 0) ⊎ Top lt r xs → count_by r xs ≤ 1
        go (inl e) = omega arith
        go (inr u) =
            let m = u.0 in
            let mp = and_parts (q m) (eqb (place lt q xs m) k) u.2 in
            let num_m : (x : X) → In xs x → r x ≡ true → eqb (num x) (num m) ≡ true =
            λ x i h. let xp = and_parts (q x) (eqb (place lt q xs x) k) h in
            eq-eqb (num x) (num m) (same_place q xs x m i u.1 xp.0 mp.0 (eqb-true _ _ xp.1 ∙ sym (eqb-true _ _ mp.1))) in
            omega (arith, apart (num m), sum_le (λ x. one (r x)) (λ x. one (eqb (num x) (num m))) xs (every (λ x. one (r x) ≤ one (eqb (num x) (num m))) xs (λ x i. imp (r x) (eqb (num x) (num m)) (num_m x i))))
