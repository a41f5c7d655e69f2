-- Two lists of entries with the same members, and each key once: sums over them are equal.
use Rattle.std.proofs.Common.{◌≡◌, ℕ, ◌+◌, ◌*◌, ◌%◌, ◌^◌, ◌<◌, ◌≤◌, false, eqb, ◌⊎◌, List, [], ◌∷◌, ◌++◌, map, length, sum_by, count_by, sym, refl, ap, subst, inl, inr, arith}
use Rattle.std.specs.List.{ContainsAt as Has, AllByRecursion as All}
use Rattle.std.proofs.lemmas.List.Sums.{sum_by-cons, sum_by-append}
use Rattle.std.proofs.ByRecursion.{All-weaker}
use Rattle.std.proofs.lemmas.Bool.{cases_eq, eq-eqb, ne_eqb}
use Rattle.monoid.specs.declared.summary.DeficitSummary.{DeficitSummary}
use Rattle.book.proofs.Order.{Strict, strict}
use Rattle.run.specs.declared.Run.{Run}
use Rattle.run.specs.Minutes.{arrival_minute}
use Rattle.run.specs.Keys.{departure_event, arrival_event, departure_key, arrival_key}
use Rattle.timetable.proofs.Ranks.{one, sum_le}
use Rattle.timetable.proofs.Members.{Mem, has_mem, mem_has, mem_append, mem_left, mem_right, mem_le}
use Rattle.timetable.proofs.Queues.{count_none}
use Rattle.figures.specs.Listed.{events, departures, arrivals, departure_event_entry, arrival_event_entry, departure_entry, arrival_entry, Lists, KeyFits, Keyed}

pub sum_eq : {X : Type 0} (f g : X → ℕ) (xs : List X) → All (λ x. f x ≡ g x) xs → sum_by f xs ≡ sum_by g xs
sum_eq f g [] h = refl
sum_eq f g (x ∷ xs) h = omega (arith, sum_by-cons f x xs, sum_by-cons g x xs, sum_eq f g xs h.1, h.0)

pub ones : {X : Type 0} (xs : List X) → sum_by (λ _. 1) xs ≡ length xs
ones [] = refl
ones (x ∷ xs) = omega (arith, sum_by-cons (λ _. 1) x xs, ones xs)

pub twos : {X : Type 0} (xs : List X) → sum_by (λ _. 2) xs ≡ 2 * length xs
twos [] = refl
twos (x ∷ xs) = omega (arith, sum_by-cons (λ _. 2) x xs, twos xs)

cut : {X : Type 0} (x : X) (ys : List X) → Mem x ys → (a : List X) × (b : List X) × (ys ≡ a ++ x ∷ b)
cut x [] m = absurd m
cut x (y ∷ ys) (inl e) = ([], ys, ap (λ z. z ∷ ys) e)
cut x (y ∷ ys) (inr m) = let c = cut x ys m in (y ∷ c.0, c.1, ap (λ zs. y ∷ zs) c.2)

-- each key stands at most once
abbrev pub Lone : {X : Type 0} → (X → ℕ) → List X → Type 0
Lone key xs = (k : ℕ) → count_by (λ x. eqb (key x) k) xs ≤ 1

module _ {X : Type 0} (key : X → ℕ) where
  twice : (x : X) (xs : List X) → Lone key (x ∷ xs) → (y : X) → Mem y xs → x ≡ y → ⊥
  twice x xs lone y m e =
      let o : one (eqb (key x) (key x)) ≡ 1 = ap one (eq-eqb (key x) (key x) refl) in
      let q : one (eqb (key y) (key x)) ≡ 1 = ap one (eq-eqb (key y) (key x) (ap key (sym e))) in
      omega (arith, lone (key x), sum_by-cons (λ z. one (eqb (key z) (key x))) x xs, mem_le (λ z. one (eqb (key z) (key x))) xs y m)

  lone_rest : (x : X) (xs : List X) → Lone key (x ∷ xs) → Lone key xs
  lone_rest x xs lone k = omega (arith, lone k, sum_by-cons (λ z. one (eqb (key z) k)) x xs)

  without : (x y : X) (a b : List X) → (x ≡ y → ⊥) → Mem y (a ++ x ∷ b) → Mem y (a ++ b)
  without x y a b other m = go (mem_append a (x ∷ b) y m)
    where
      go : Mem y a ⊎ Mem y (x ∷ b) → Mem y (a ++ b)
      go (inl l) = mem_left a b y l
      go (inr (inl e)) = absurd (other e)
      go (inr (inr r)) = mem_right a b y r

  sum_sub : (f : X → ℕ) (xs ys : List X) → Lone key xs → ((x : X) → Mem x xs → Mem x ys) → sum_by f xs ≤ sum_by f ys
  sum_sub f [] ys lone sub = omega arith
  sum_sub f (x ∷ xs) ys lone sub =
      let c = cut x ys (sub x (inl refl)) in
      let a = c.0 in
      let b = c.1 in
      let P : List X → Type 0 = λ zs. (y : X) → Mem y (x ∷ xs) → Mem y zs in
      let in_cut : P (a ++ x ∷ b) = subst P c.2 sub in
      let rest = sum_sub f xs (a ++ b) (lone_rest x xs lone) (λ y m. without x y a b (twice x xs lone y m) (in_cut y (inr m))) in
      omega (arith, ap (sum_by f) c.2, sum_by-cons f x xs, sum_by-append f a (x ∷ b), sum_by-append f a b, sum_by-cons f x b)

  pub same_sums : (f : X → ℕ) (xs ys : List X) → Lone key xs → Lone key ys → ((x : X) → Has xs x → Has ys x) → ((x : X) → Has ys x → Has xs x) → sum_by f xs ≡ sum_by f ys
  same_sums f xs ys lx ly to from = omega (arith, sum_sub f xs ys lx (λ x m. has_mem ys x (to x (mem_has xs x m))), sum_sub f ys xs ly (λ x m. has_mem xs x (from x (mem_has ys x m))))

pub strict_lone : {V : Type 0} (es : List (ℕ × V)) → Strict es → Lone (λ e. e.0) es
strict_lone [] u k = omega arith
strict_lone {V} (e ∷ es) u k = go (cases_eq e.0 k) (strict_lone es u.1 k)
  where
    c : count_by (λ x. eqb x.0 k) (e ∷ es) ≡ one (eqb e.0 k) + count_by (λ x. eqb x.0 k) es
    c = sum_by-cons (λ x. one (eqb x.0 k)) e es

    go : (e.0 ≡ k) ⊎ (e.0 ≡ k → ⊥) → count_by (λ x. eqb x.0 k) es ≤ 1 → count_by (λ x. eqb x.0 k) (e ∷ es) ≤ 1
    go (inl q) ih =
        let o : one (eqb e.0 k) ≡ 1 = ap one (eq-eqb e.0 k q) in
        let no : All (λ x. eqb x.0 k ≡ false) es = All-weaker (λ x. e.0 < x.0) (λ x. eqb x.0 k ≡ false) (λ x m. ne_eqb x.0 k (λ w. omega arith)) es u.0 in
        omega (arith, c, count_none (λ x. eqb x.0 k) es no)
    go (inr n) ih = let o : one (eqb e.0 k) ≡ 0 = ap one (ne_eqb e.0 k n) in omega (arith, c)

-- what is counted in a list of entries is counted in what it lists
pub listed_sums : {V : Type 0} (xs es : List (ℕ × V)) → Lone (λ e. e.0) xs → Lists xs es → (f : ℕ × V → ℕ) → sum_by f es ≡ sum_by f xs
listed_sums xs es lone h f = same_sums (λ e. e.0) f es xs (strict_lone es (strict es h.rising)) lone h.only h.all

-- ---- sums over the entries of a timetable, by runs
pub sum_events : (f : ℕ × DeficitSummary → ℕ) (T : List Run) → sum_by f (events T) ≡ sum_by (λ r. f (departure_event_entry r) + f (arrival_event_entry r)) T
sum_events f [] = refl
sum_events f (r ∷ T) = omega (arith, sum_by-cons f (departure_event_entry r) (arrival_event_entry r ∷ events T), sum_by-cons f (arrival_event_entry r) (events T), sum_by-cons (λ s. f (departure_event_entry s) + f (arrival_event_entry s)) r T, sum_events f T)

pub sum_map : {X Y : Type 0} (g : X → Y) (f : Y → ℕ) (T : List X) → sum_by f (map g T) ≡ sum_by (λ r. f (g r)) T
sum_map g f [] = refl
sum_map g f (r ∷ T) = omega (arith, sum_by-cons f (g r) (map g T), sum_by-cons (λ s. f (g s)) r T, sum_map g f T)

-- a key has at most one run
one_event : (r : Run) (k : ℕ) → KeyFits r → one (eqb (departure_event r) k) + one (eqb (arrival_event r) k) ≤ one (eqb r.number (k % 2 ^ 16))
one_event r k h = go (cases_eq (departure_event r) k) (cases_eq (arrival_event r) k)
  where
    n : r.number < 2 ^ 16
    n = h.number

    go : (departure_event r ≡ k) ⊎ (departure_event r ≡ k → ⊥) → (arrival_event r ≡ k) ⊎ (arrival_event r ≡ k → ⊥) → one (eqb (departure_event r) k) + one (eqb (arrival_event r) k) ≤ one (eqb r.number (k % 2 ^ 16))
    go (inl d) (inl a) = absurd (omega (arith, n))
    go (inl d) (inr a) =
        let o : one (eqb (arrival_event r) k) ≡ 0 = ap one (ne_eqb _ _ a) in
        let e : one (eqb r.number (k % 2 ^ 16)) ≡ 1 = ap one (eq-eqb r.number (k % 2 ^ 16) (omega (arith, n))) in
        omega (arith, ap one (eq-eqb _ _ d))
    go (inr d) (inl a) =
        let o : one (eqb (departure_event r) k) ≡ 0 = ap one (ne_eqb _ _ d) in
        let e : one (eqb r.number (k % 2 ^ 16)) ≡ 1 = ap one (eq-eqb r.number (k % 2 ^ 16) (omega (arith, n))) in
        omega (arith, ap one (eq-eqb _ _ a))
    go (inr d) (inr a) =
        let o : one (eqb (departure_event r) k) ≡ 0 = ap one (ne_eqb _ _ d) in
        let p : one (eqb (arrival_event r) k) ≡ 0 = ap one (ne_eqb _ _ a) in
        omega arith

pub lone_events : (T : List Run) → Keyed T → Lone (λ e. e.0) (events T)
lone_events T h k =
    omega (
      arith,
      sum_events (λ e. one (eqb e.0 k)) T,
      sum_le (λ r. one (eqb (departure_event r) k) + one (eqb (arrival_event r) k)) (λ r. one (eqb r.number (k % 2 ^ 16))) T (All-weaker KeyFits (λ r. one (eqb (departure_event r) k) + one (eqb (arrival_event r) k) ≤ one (eqb r.number (k % 2 ^ 16))) (λ r f. one_event r k f) T h.fit),
      h.apart (k % 2 ^ 16),
    )

one_stop : (v m n k : ℕ) → n < 2 ^ 16 → one (eqb (v * 2 ^ 48 + m * 2 ^ 16 + n) k) ≤ one (eqb n (k % 2 ^ 16))
one_stop v m n k h = go (cases_eq (v * 2 ^ 48 + m * 2 ^ 16 + n) k)
  where
    go : (v * 2 ^ 48 + m * 2 ^ 16 + n ≡ k) ⊎ (v * 2 ^ 48 + m * 2 ^ 16 + n ≡ k → ⊥) → one (eqb (v * 2 ^ 48 + m * 2 ^ 16 + n) k) ≤ one (eqb n (k % 2 ^ 16))
    go (inl d) =
        let e : one (eqb n (k % 2 ^ 16)) ≡ 1 = ap one (eq-eqb n (k % 2 ^ 16) (omega (arith, h))) in
        omega (arith, ap one (eq-eqb _ _ d))
    go (inr d) = let o : one (eqb (v * 2 ^ 48 + m * 2 ^ 16 + n) k) ≡ 0 = ap one (ne_eqb _ _ d) in omega arith

pub lone_departures : (T : List Run) → Keyed T → Lone (λ e. e.0) (departures T)
lone_departures T h k =
    omega (
      arith,
      sum_map departure_entry (λ e. one (eqb e.0 k)) T,
      sum_le (λ r. one (eqb (departure_key r) k)) (λ r. one (eqb r.number (k % 2 ^ 16))) T (All-weaker KeyFits (λ r. one (eqb (departure_key r) k) ≤ one (eqb r.number (k % 2 ^ 16))) (λ r f. one_stop r.from r.start r.number k f.number) T h.fit),
      h.apart (k % 2 ^ 16),
    )

pub lone_arrivals : (T : List Run) → Keyed T → Lone (λ e. e.0) (arrivals T)
lone_arrivals T h k =
    omega (
      arith,
      sum_map arrival_entry (λ e. one (eqb e.0 k)) T,
      sum_le (λ r. one (eqb (arrival_key r) k)) (λ r. one (eqb r.number (k % 2 ^ 16))) T (All-weaker KeyFits (λ r. one (eqb (arrival_key r) k) ≤ one (eqb r.number (k % 2 ^ 16))) (λ r f. one_stop r.to (arrival_minute r) r.number k f.number) T h.fit),
      h.apart (k % 2 ^ 16),
    )
