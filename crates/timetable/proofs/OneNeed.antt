-- Every vault has exactly one need, and exactly one critical minute when it is above 0.
use Rattle.std.proofs.Common.{◌≡◌, ℕ, zero, suc, ◌+◌, ◌-◌, ◌<◌, ◌≤◌, max, Bool, true, false, ◌&&◌, eqb, ltb, ◌⊎◌, List, [], ◌∷◌, map, pos, ◌-ℤ◌, ◌≤ℤ◌, Some, None, fold, count_by, Option, sym, refl, ap, subst, inl, inr, arith}
use Rattle.std.specs.List.{ContainsAt as Has, AllByRecursion as All}
use Rattle.std.proofs.lemmas.List.Sums.{sum_by-cons}
use Rattle.std.proofs.lemmas.Int.{ints}
use Rattle.std.proofs.ByRecursion.{all-has}
use Rattle.std.proofs.lemmas.Bool.{cases_lt, cases_eq, cases_Bool, and_parts, and_from, eqb-true, eq-eqb, lt-ltb}
use Rattle.std.proofs.lemmas.Bool.Decides.{nat_tests}
use Rattle.run.specs.declared.Run.{Run}
use Rattle.timetable.specs.Levels.{departs_by, arrives_by, departures, arrivals, level, Need, Critical, MinuteOf, NeedAnswer, Needs, need_of, sum_of}
use Rattle.timetable.specs.Laws.{OneNeed, OneCriticalMinute, OneAnswer, TotalIsTheSum}
use Rattle.timetable.proofs.Lower.{level_above, level_is}
use Rattle.timetable.proofs.Members.{has_mem, mem_le}
use Rattle.timetable.proofs.Ranks.{one, count_le, sum_le, sum_add, all_of}

-- back from the inequality
pub level_under : (d a n : ℕ) → d ≤ n + a → (pos d -ℤ pos a) ≤ℤ pos n
level_under d a n h = omega (arith, ints)

pub level_at : (d a n : ℕ) → d ≡ n + a → (pos d -ℤ pos a) ≡ pos n
level_at d a n h = omega (arith, ints)

no_more : (T : List Run) (v m n : ℕ) → Need T v m → Need T v n → m ≤ n
no_more T v m n a b = go a.reached
  where
    go : (m ≡ 0) ⊎ ((t : ℕ) × (level T v t ≡ pos m)) → m ≤ n
    go (inl e) = omega arith
    go (inr p) =
        let t = p.0 in
        let x = level_is (departures T v t) (arrivals T v t) m p.1 in
        let y = level_above (departures T v t) (arrivals T v t) n (b.none_above t) in
        omega arith

pub same_need : (T : List Run) (v m n : ℕ) → Need T v m → Need T v n → m ≡ n
same_need T v m n a b = omega (arith, no_more T v m n a b, no_more T v n m b a)

-- so two functions that give every vault its need are one
pub needs_same : (T : List Run) (need other : ℕ → ℕ) → Needs T need → Needs T other → need ≡ other
needs_same T need other a b = λ i v. same_need T v (need v) (other v) (a v) (b v) i

-- some run passes, where the count is above 0
pub some_of : {X : Type 0} (p : X → Bool) (xs : List X) → 0 < count_by p xs → (x : X) × Has xs x × (p x ≡ true)
some_of p [] h = absurd (omega arith)
some_of {X} p (x ∷ xs) h = go (cases_Bool (p x)) (some_of p xs)
  where
    SomeIn : List X → Type 0
    SomeIn ys = (x : X) × Has ys x × (p x ≡ true)

    go : (p x ≡ true) ⊎ (p x ≡ false) → (0 < count_by p xs → SomeIn xs) → SomeIn (x ∷ xs)
    go (inl e) ih = (x, (0, omega arith, λ d. refl), e)
    go (inr e) ih =
        let o : one (p x) ≡ 0 = ap one e in
        let f = ih (omega (arith, sum_by-cons (λ y. one (p y)) x xs)) in
        (f.0, (suc f.1.0, let l = f.1.1 in omega arith, λ d. f.1.2 d), f.2)

-- the greatest of some figures
max_above : {X : Type 0} (f : X → ℕ) (a : ℕ) (xs : List X) → (a ≤ fold max a (map f xs)) × All (λ x. f x ≤ fold max a (map f xs)) xs
max_above f a [] = (omega arith, tt)
max_above f a (x ∷ xs) = let u = max_above f (max a (f x)) xs in let low = u.0 in (omega arith, (omega arith, u.1))

max_is : {X : Type 0} (f : X → ℕ) (a : ℕ) (xs : List X) → (fold max a (map f xs) ≡ a) ⊎ ((x : X) × (fold max a (map f xs) ≡ f x))
max_is {X} f a [] = inl refl
max_is {X} f a (x ∷ xs) = go (max_is f (max a (f x)) xs) (cases_lt a (f x))
  where
    m : ℕ
    m = fold max (max a (f x)) (map f xs)

    go : (m ≡ max a (f x)) ⊎ ((y : X) × (m ≡ f y)) → (a < f x) ⊎ (f x ≤ a) → (m ≡ a) ⊎ ((y : X) × (m ≡ f y))
    go (inl e) (inl l) = inr (x, omega arith)
    go (inl e) (inr l) = inl (omega arith)
    go (inr y) l = inr y

module _ (T : List Run) (v : ℕ) where
  -- is r a departure of v with start t
  abbrev starts_at : ℕ → Run → Bool
  starts_at t r = eqb r.from v && eqb r.start t

  one_minute : (t : ℕ) → departures T v (suc t) ≡ departures T v t + count_by (starts_at (suc t)) T
  one_minute t = omega (
    arith,
    sum_add (λ r. one (departs_by v t r)) (λ r. one (starts_at (suc t) r)) T,
    sum_le (λ r. one (departs_by v (suc t) r)) (λ r. one (departs_by v t r) + one (starts_at (suc t) r)) T (all_of (λ r. one (departs_by v (suc t) r) ≤ one (departs_by v t r) + one (starts_at (suc t) r)) (λ r. grind (arith, nat_tests)) T),
    sum_le (λ r. one (departs_by v t r) + one (starts_at (suc t) r)) (λ r. one (departs_by v (suc t) r)) T (all_of (λ r. one (departs_by v t r) + one (starts_at (suc t) r) ≤ one (departs_by v (suc t) r)) (λ r. grind (arith, nat_tests)) T),
  )

  minute_0 : departures T v 0 ≤ count_by (starts_at 0) T
  minute_0 = count_le (departs_by v 0) (starts_at 0) (λ r e. grind (arith, nat_tests)) T

  more_come : (t u : ℕ) → t ≤ u → arrivals T v t ≤ arrivals T v u
  more_come t u h = count_le (arrives_by v t) (arrives_by v u) (λ r e. grind (arith, nat_tests)) T

  -- a departure of v in minute t
  abbrev Starter : ℕ → Type 0
  Starter t = (r : Run) × Has T r × (r.from ≡ v) × (r.start ≡ t)

  starter : (t : ℕ) → 0 < count_by (starts_at t) T → Starter t
  starter t h =
      let f = some_of (starts_at t) T h in
      let ps = and_parts (eqb f.0.from v) (eqb f.0.start t) f.2 in
      (f.0, f.1, eqb-true _ _ ps.0, eqb-true _ _ ps.1)

  -- the last departure by t, if there is one
  abbrev Last : ℕ → Type 0
  Last t = (u : ℕ) × Starter u × (u ≤ t) × (departures T v u ≡ departures T v t)

  last_start : (t : ℕ) → (departures T v t ≡ 0) ⊎ Last t
  last_start zero = go (cases_lt 0 (count_by (starts_at 0) T))
    where
      go : (0 < count_by (starts_at 0) T) ⊎ (count_by (starts_at 0) T ≤ 0) → (departures T v 0 ≡ 0) ⊎ Last 0
      go (inl h) = inr (0, starter 0 h, omega arith, refl)
      go (inr h) = inl (omega (arith, minute_0))
  last_start (suc t) = go (cases_lt 0 (count_by (starts_at (suc t)) T)) (last_start t)
    where
      go : (0 < count_by (starts_at (suc t)) T) ⊎ (count_by (starts_at (suc t)) T ≤ 0) → (departures T v t ≡ 0) ⊎ Last t → (departures T v (suc t) ≡ 0) ⊎ Last (suc t)
      go (inl h) e = inr (suc t, starter (suc t) h, omega arith, refl)
      go (inr h) (inl e) = inl (omega (arith, one_minute t))
      go (inr h) (inr u) = let le = u.2 in let same = u.3 in inr (u.0, u.1, omega arith, omega (arith, one_minute t))

  pub need_is : Need T v (need_of T v)
  need_is = record { none_above = λ t. level_under (departures T v t) (arrivals T v t) n (high t (last_start t)); reached = met (max_is f 0 T) (cases_lt 0 n) }
    where
      f : Run → ℕ
      f = λ r. departures T v r.start - arrivals T v r.start

      n : ℕ
      n = need_of T v

      high : (t : ℕ) → (departures T v t ≡ 0) ⊎ Last t → departures T v t ≤ n + arrivals T v t
      high t (inl e) = omega arith
      high t (inr u) =
          let r = u.1.0 in
          let top : departures T v r.start - arrivals T v r.start ≤ n = all-has (λ r. f r ≤ n) T r (max_above f 0 T).1 u.1.1 in
          let P : ℕ → Type 0 = λ m. departures T v m - arrivals T v m ≤ n in
          let top_u : P u.0 = subst P u.1.3 top in
          let same = u.3 in
          omega (arith, more_come u.0 t u.2)

      met : (n ≡ 0) ⊎ ((r : Run) × (n ≡ f r)) → (0 < n) ⊎ (n ≤ 0) → (n ≡ 0) ⊎ ((t : ℕ) × (level T v t ≡ pos n))
      met e (inr z) = inl (omega arith)
      met (inl e) (inl p) = inl e
      met (inr r) (inl p) = let e = r.1 in let t = r.0.start in inr (t, level_at (departures T v t) (arrivals T v t) n (omega arith))

  module _ (n : ℕ) (need : Need T v n) where
    -- the first minute up to t whose level equals the need, if there is one
    first_upto : (t : ℕ) → ((m : ℕ) × Critical T v n m) ⊎ ((u : ℕ) → u ≤ t → level T v u ≡ pos n → ⊥)
    first_upto t = go t (λ u h e. omega arith)
      where
        at : (t : ℕ) → ((u : ℕ) → u < t → level T v u ≡ pos n → ⊥) → ((m : ℕ) × Critical T v n m) ⊎ ((u : ℕ) → u ≤ t → level T v u ≡ pos n → ⊥)
        at t before = pick (cases_eq (departures T v t) (n + arrivals T v t))
          where
            pick : (departures T v t ≡ n + arrivals T v t) ⊎ (departures T v t ≡ n + arrivals T v t → ⊥) → ((m : ℕ) × Critical T v n m) ⊎ ((u : ℕ) → u ≤ t → level T v u ≡ pos n → ⊥)
            pick (inl e) = inl (t, record { equals = level_at (departures T v t) (arrivals T v t) n e; first = before })
            pick (inr ne) = inr (λ u h e. here u h e (cases_lt u t))
              where
                here : (u : ℕ) → u ≤ t → level T v u ≡ pos n → (u < t) ⊎ (t ≤ u) → ⊥
                here u h e (inl l) = before u l e
                here u h e (inr l) =
                    let s : u ≡ t = omega arith in
                    let P : ℕ → Type 0 = λ w. level T v w ≡ pos n in
                    ne (level_is (departures T v t) (arrivals T v t) n (subst P s e))

        go : (t : ℕ) → ((u : ℕ) → u < 0 → level T v u ≡ pos n → ⊥) → ((m : ℕ) × Critical T v n m) ⊎ ((u : ℕ) → u ≤ t → level T v u ≡ pos n → ⊥)
        go zero z = at zero z
        go (suc t) z = step (go t z)
          where
            step : ((m : ℕ) × Critical T v n m) ⊎ ((u : ℕ) → u ≤ t → level T v u ≡ pos n → ⊥) → ((m : ℕ) × Critical T v n m) ⊎ ((u : ℕ) → u ≤ suc t → level T v u ≡ pos n → ⊥)
            step (inl c) = inl c
            step (inr none) = at (suc t) (λ u h e. none u (omega arith) e)

    critical_is : 0 < n → (m : ℕ) × Critical T v n m
    critical_is p = go need.reached
      where
        go : (n ≡ 0) ⊎ ((t : ℕ) × (level T v t ≡ pos n)) → (m : ℕ) × Critical T v n m
        go (inl e) = absurd (omega arith)
        go (inr r) = found (first_upto r.0)
          where
            found : ((m : ℕ) × Critical T v n m) ⊎ ((u : ℕ) → u ≤ r.0 → level T v u ≡ pos n → ⊥) → (m : ℕ) × Critical T v n m
            found (inl c) = c
            found (inr none) = absurd (none r.0 (omega arith) r.1)

    same_critical : (m k : ℕ) → Critical T v n m → Critical T v n k → m ≡ k
    same_critical m k a b = go (cases_lt m k) (cases_lt k m)
      where
        go : (m < k) ⊎ (k ≤ m) → (k < m) ⊎ (m ≤ k) → m ≡ k
        go (inl l) s = absurd (b.first m l a.equals)
        go (inr l) (inl s) = absurd (a.first k s b.equals)
        go (inr l) (inr s) = omega arith

    -- a run starts in the critical minute
    starts_then : 0 < n → (m : ℕ) → Critical T v n m → Starter m
    starts_then p zero c = starter 0 (omega (arith, minute_0, level_is (departures T v 0) (arrivals T v 0) n c.equals))
    starts_then p (suc m) c = go (cases_lt 0 (count_by (starts_at (suc m)) T))
      where
        go : (0 < count_by (starts_at (suc m)) T) ⊎ (count_by (starts_at (suc m)) T ≤ 0) → Starter (suc m)
        go (inl h) = starter (suc m) h
        go (inr h) =
            let now = level_is (departures T v (suc m)) (arrivals T v (suc m)) n c.equals in
            let was = level_above (departures T v m) (arrivals T v m) n (need.none_above m) in
            let e : departures T v m ≡ n + arrivals T v m = omega (arith, one_minute m, more_come m (suc m) (omega arith)) in
            absurd (c.first m (omega arith) (level_at (departures T v m) (arrivals T v m) n e))

-- the critical minute, found by looking at the minutes in which runs start
pub critical_by : (T : List Run) (v n m : ℕ) → Need T v n → 0 < n → level T v m ≡ pos n → count_by (λ r. ltb r.start m && eqb (departures T v r.start) (n + arrivals T v r.start)) T ≡ 0 → Critical T v n m
critical_by T v n m need p at none = go (cases_lt c.0 m)
  where
    c : (k : ℕ) × Critical T v n k
    c = critical_is T v n need p

    k : ℕ
    k = c.0

    go : (k < m) ⊎ (m ≤ k) → Critical T v n m
    go (inl l) =
        let s = starts_then T v n need p k c.1 in
        let r = s.0 in
        let P : ℕ → Type 0 = λ t. (ltb t m && eqb (departures T v t) (n + arrivals T v t)) ≡ true in
        let e = level_is (departures T v k) (arrivals T v k) n c.1.equals in
        let here : P r.start = subst P (sym s.3) (and_from (ltb k m) (eqb (departures T v k) (n + arrivals T v k)) (lt-ltb k m l) (eq-eqb _ _ e)) in
        let o : one (ltb r.start m && eqb (departures T v r.start) (n + arrivals T v r.start)) ≡ 1 = ap one here in
        absurd (omega (arith, none, mem_le (λ r. one (ltb r.start m && eqb (departures T v r.start) (n + arrivals T v r.start))) T r (has_mem T r s.1)))
    go (inr l) = at_once (cases_lt m k)
      where
        at_once : (m < k) ⊎ (k ≤ m) → Critical T v n m
        at_once (inl w) = absurd (c.1.first m w at)
        at_once (inr w) = let e : k ≡ m = omega arith in subst (λ x. Critical T v n x) e c.1

pub one_need : OneNeed
one_need T v = (need_is T v, same_need T v)

pub one_critical_minute : OneCriticalMinute
one_critical_minute T v n need p = (critical_is T v n need p, same_critical T v n need, starts_then T v n need p)

pub one_answer : OneAnswer
one_answer T v = (some (cases_lt 0 n), same)
  where
    n : ℕ
    n = need_of T v

    some : (0 < n) ⊎ (n ≤ 0) → (a : ℕ × Option ℕ) × NeedAnswer T v a
    some (inl p) = let c = critical_is T v n (need_is T v) p in ((n, Some c.0), record { figure = need_is T v; minute = (p, c.1) })
    some (inr z) = ((n, None), record { figure = need_is T v; minute = omega arith })

    same_minute : (k : ℕ) → Need T v k → (o p : Option ℕ) → MinuteOf T v k o → MinuteOf T v k p → o ≡ p
    same_minute k need None None a b = refl
    same_minute k need None (Some m) a b = let l = b.0 in absurd (omega arith)
    same_minute k need (Some m) None a b = let l = a.0 in absurd (omega arith)
    same_minute k need (Some m) (Some j) a b = ap Some (same_critical T v k need m j a.1 b.1)

    same : (a b : ℕ × Option ℕ) → NeedAnswer T v a → NeedAnswer T v b → a ≡ b
    same a b x y =
        let e = same_need T v a.0 b.0 x.figure y.figure in
        let P : ℕ → Type 0 = λ k. MinuteOf T v k b.1 in
        let m = same_minute a.0 x.figure a.1 b.1 x.minute (subst P (sym e) y.minute) in
        λ i. (e i, m i)

-- the sum of the needs is the total
sum_same : (need other : ℕ → ℕ) → ((v : ℕ) → need v ≡ other v) → (k : ℕ) → sum_of need k ≡ sum_of other k
sum_same need other h zero = refl
sum_same need other h (suc k) = omega (arith, h k, sum_same need other h k)

pub total_is_the_sum : TotalIsTheSum
total_is_the_sum T need needs k = sum_same (need_of T) need (λ v. same_need T v (need_of T v) (need v) (need_is T v) (needs v)) k
