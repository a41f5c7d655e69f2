-- What it is to be among the runs of a list.
use Rattle.std.proofs.Common.{◌≡◌, ℕ, zero, suc, ◌<◌, ◌≤◌, Bool, true, false, ◌&&◌, eqb, ◌⊎◌, List, [], ◌∷◌, ◌++◌, length, get_or, sum_by, count_by, sym, refl, ap, subst, inl, inr, arith}
use Rattle.std.specs.List.{ContainsAt as Has, AllByRecursion as All}
use Rattle.std.proofs.lemmas.List.Sums.{sum_by-cons, get_or-le-sum_by, sum_by-append}
use Rattle.std.proofs.ByRecursion.{has_append_right}
use Rattle.std.proofs.lemmas.Bool.{cases_Bool}
use Rattle.std.proofs.lemmas.Bool.Decides.{nat_tests}
use Rattle.run.specs.declared.Run.{Run}
use Rattle.timetable.specs.Ways.{runs_of}
use Rattle.timetable.specs.Fifo.{Block, chains_of}
use Rattle.timetable.proofs.Ranks.{one, In}

-- two runs are one where all their parts are
pub equal : Run → Run → Bool
equal x y = eqb x.number y.number && (eqb x.from y.from && (eqb x.to y.to && (eqb x.start y.start && (eqb x.end y.end && eqb x.fittings y.fittings))))

pub equal_self : (x : Run) → equal x x ≡ true
unfolding equal
equal_self x = grind (arith, nat_tests)

pub equal_is : (x y : Run) → equal x y ≡ true → x ≡ y
unfolding equal
equal_is x y h =
    let a : x.number ≡ y.number = grind (arith, nat_tests) in
    let b : x.from ≡ y.from = grind (arith, nat_tests) in
    let c : x.to ≡ y.to = grind (arith, nat_tests) in
    let d : x.start ≡ y.start = grind (arith, nat_tests) in
    let e : x.end ≡ y.end = grind (arith, nat_tests) in
    let f : x.fittings ≡ y.fittings = grind (arith, nat_tests) in
    λ i. record { number = a i; from = b i; to = c i; start = d i; end = e i; fittings = f i }

pub split_at : (x : Run) (ys : List Run) → 0 < count_by (λ y. equal y x) ys → (a : List Run) × (b : List Run) × (ys ≡ a ++ x ∷ b)
split_at x [] h = absurd (omega arith)
split_at x (y ∷ ys) h = go (cases_Bool (equal y x)) (split_at x ys)
  where
    Cut : List Run → Type 0
    Cut zs = (a : List Run) × (b : List Run) × (zs ≡ a ++ x ∷ b)

    go : (equal y x ≡ true) ⊎ (equal y x ≡ false) → (0 < count_by (λ y. equal y x) ys → Cut ys) → Cut (y ∷ ys)
    go (inl e) ih = ([], ys, ap (λ z. z ∷ ys) (equal_is y x e))
    go (inr e) ih =
        let o : one (equal y x) ≡ 0 = ap one e in
        let c = ih (omega (arith, sum_by-cons (λ z. one (equal z x)) y ys)) in
        (y ∷ c.0, c.1, ap (λ zs. y ∷ zs) c.2)

pub has_in : (T : List Run) (x : Run) → Has T x → In T x
has_in T x h p =
    let P : Run → Type 0 = λ y. one (p y) ≤ count_by p T in
    subst P (h.2 x) (get_or-le-sum_by (λ y. one (p y)) T h.0 x h.1)

pub in_has : (T : List Run) (x : Run) → In T x → Has T x
in_has T x i =
    let o : one (equal x x) ≡ 1 = ap one (equal_self x) in
    let c = split_at x T (omega (arith, i (λ y. equal y x))) in
    let P : List Run → Type 0 = λ zs. Has zs x in
    subst P (sym c.2) (has_append_right c.0 (x ∷ c.1) x (0, omega arith, λ d. refl))

-- membership by parts
abbrev pub Mem : {X : Type 0} → X → List X → Type 0
Mem x [] = ⊥
Mem x (y ∷ ys) = (y ≡ x) ⊎ Mem x ys

pub has_mem : {X : Type 0} (xs : List X) (x : X) → Has xs x → Mem x xs
has_mem [] x h = absurd (let l = h.1 in omega arith)
has_mem {X} (y ∷ ys) x h = go (has_mem ys x) h.0 h.1 h.2
  where
    go : (Has ys x → Mem x ys) → (k : ℕ) → k < length (y ∷ ys) → ((d : X) → get_or (y ∷ ys) k d ≡ x) → Mem x (y ∷ ys)
    go ih zero l at = inl (at x)
    go ih (suc k) l at = inr (ih (k, omega arith, at))

pub mem_has : {X : Type 0} (xs : List X) (x : X) → Mem x xs → Has xs x
mem_has [] x m = absurd m
mem_has (y ∷ ys) x (inl e) = (0, omega arith, λ d. e)
mem_has (y ∷ ys) x (inr m) = let h = mem_has ys x m in (suc h.0, let l = h.1 in omega arith, h.2)

pub mem_append : {X : Type 0} (xs ys : List X) (x : X) → Mem x (xs ++ ys) → Mem x xs ⊎ Mem x ys
mem_append [] ys x m = inr m
mem_append (z ∷ xs) ys x (inl e) = inl (inl e)
mem_append (z ∷ xs) ys x (inr m) = go (mem_append xs ys x m)
  where
    go : Mem x xs ⊎ Mem x ys → Mem x (z ∷ xs) ⊎ Mem x ys
    go (inl a) = inl (inr a)
    go (inr b) = inr b

pub mem_left : {X : Type 0} (xs ys : List X) (x : X) → Mem x xs → Mem x (xs ++ ys)
mem_left [] ys x m = absurd m
mem_left (z ∷ xs) ys x (inl e) = inl e
mem_left (z ∷ xs) ys x (inr m) = inr (mem_left xs ys x m)

pub mem_right : {X : Type 0} (xs ys : List X) (x : X) → Mem x ys → Mem x (xs ++ ys)
mem_right [] ys x m = m
mem_right (z ∷ xs) ys x m = inr (mem_right xs ys x m)

pub all_mem : {X : Type 0} (P : X → Type 0) (xs : List X) (x : X) → All P xs → Mem x xs → P x
all_mem P [] x h m = absurd m
all_mem P (y ∷ ys) x h (inl e) = subst P e h.0
all_mem P (y ∷ ys) x h (inr m) = all_mem P ys x h.1 m

pub mem_all : {X : Type 0} (P : X → Type 0) (xs : List X) → ((x : X) → Mem x xs → P x) → All P xs
mem_all P [] h = tt
mem_all P (y ∷ ys) h = (h y (inl refl), mem_all P ys (λ x m. h x (inr m)))

pub mem_le : {X : Type 0} (f : X → ℕ) (xs : List X) (x : X) → Mem x xs → f x ≤ sum_by f xs
mem_le f [] x m = absurd m
mem_le f (y ∷ ys) x (inl e) = omega (arith, sum_by-cons f y ys, ap f e)
mem_le f (y ∷ ys) x (inr m) = omega (arith, sum_by-cons f y ys, mem_le f ys x m)

-- nothing passes where the count is 0
pub none_all : {X : Type 0} (q : X → Bool) (xs : List X) → count_by q xs ≡ 0 → All (λ x. q x ≡ false) xs
none_all q [] h = tt
none_all q (x ∷ xs) h = (go (cases_Bool (q x)), none_all q xs (omega (arith, sum_by-cons (λ y. one (q y)) x xs)))
  where
    go : (q x ≡ true) ⊎ (q x ≡ false) → q x ≡ false
    go (inl e) = let o : one (q x) ≡ 1 = ap one e in absurd (omega (arith, sum_by-cons (λ y. one (q y)) x xs))
    go (inr e) = e

-- the runs of all blocks, counted block by block
pub by_block : (p : Run → Bool) (B : List Block) → count_by p (runs_of (chains_of B)) ≡ sum_by (λ b. count_by p b.runs) B
by_block p [] = refl
by_block p (b ∷ B) = omega (arith, sum_by-append (λ x. one (p x)) b.runs (runs_of (chains_of B)), sum_by-cons (λ c. count_by p c.runs) b B, by_block p B)
