-- The first in is the first out: it has come by the time it is due to leave.
use Rattle.std.proofs.Common.{◌≡◌, ℕ, suc, ◌+◌, ◌-◌, ◌<◌, ◌≤◌, Bool, true, false, cond, ◌&&◌, eqb, leb, ◌⊎◌, List, [], ◌∷◌, length, get_or, take, drop, count_by, filter, sym, refl, ap, ◌∙◌, subst, inl, inr, arith}
use Rattle.std.specs.List.{AllByRecursion as All}
use Rattle.std.specs.List.Sorted.{IsNonDecreasingBy}
use Rattle.std.proofs.lemmas.List.Sums.{sum_by-cons, sum_by-take-drop, count_by-le-length}
use Rattle.std.proofs.lemmas.List.{get_or-take, get_or-drop, length-take, length-drop}
use Rattle.std.proofs.ByRecursion.{All-from_get_or}
use Rattle.std.proofs.lemmas.Bool.{le-leb, lt-leb, cases_lt}
use Rattle.std.proofs.lemmas.Bool.Decides.{nat_tests}
use Rattle.run.specs.declared.Run.{Run}
use Rattle.run.specs.Minutes.{arrival_minute}
use Rattle.timetable.specs.Levels.{departures, arrivals, Need}
use Rattle.timetable.specs.Fifo.{leaves_before, comes_before}
use Rattle.timetable.specs.Queues.{InOrder, Departures, Arrivals}
use Rattle.timetable.specs.Laws.{FirstInIsThere}
use Rattle.timetable.proofs.Lower.{level_above}
use Rattle.timetable.proofs.Ranks.{one}

pub count_all : {X : Type 0} (p : X → Bool) (xs : List X) → All (λ x. p x ≡ true) xs → count_by p xs ≡ length xs
count_all p [] h = refl
count_all p (x ∷ xs) h =
    let c = sum_by-cons (λ y. one (p y)) x xs in
    let f : one (p x) ≡ 1 = ap one h.0 in
    omega (arith, count_all p xs h.1)

pub count_none : {X : Type 0} (p : X → Bool) (xs : List X) → All (λ x. p x ≡ false) xs → count_by p xs ≡ 0
count_none p [] h = refl
count_none p (x ∷ xs) h =
    let c = sum_by-cons (λ y. one (p y)) x xs in
    let f : one (p x) ≡ 0 = ap one h.0 in
    omega (arith, count_none p xs h.1)

-- to count what a filter keeps is to count by both tests
pub count_kept : {X : Type 0} (q p : X → Bool) (xs : List X) → count_by p (filter q xs) ≡ count_by (λ x. q x && p x) xs
count_kept q p [] = refl
count_kept {X} q p (x ∷ xs) =
    let ih = count_kept q p xs in
    let kept = filter q xs in
    let yes_c = sum_by-cons (λ y. one (p y)) x kept in
    let R = sum_by-cons (λ y. one (q y && p y)) x xs in
    let M : Bool → Type 0 = λ b. count_by p (cond b (x ∷ kept) kept) ≡ one (b && p x) + count_by (λ y. q y && p y) xs in
    let step : M (q x) = elim (q x) as M [ true ↦ omega arith | false ↦ omega arith ] in
    step ∙ sym R

module _ {X : Type 0} (key : X → ℕ) (xs : List X) (up : IsNonDecreasingBy key xs) where
  -- at the key of place i, at least i + 1 have come
  pub front_count : (i : ℕ) (d : X) → i < length xs → i < count_by (λ x. leb (key x) (key (get_or xs i d))) xs
  front_count i d h =
      let t = key (get_or xs i d) in
      let p : X → Bool = λ x. leb (key x) t in
      let len = length-take (suc i) xs in
      let each : (k : ℕ) → k < length (take (suc i) xs) → p (get_or (take (suc i) xs) k d) ≡ true =
      λ k l. let small : k < suc i = omega arith in
      rw (get_or-take (suc i) xs k d small) (le-leb (key (get_or xs k d)) t (up k i d (omega arith) h)) in
      let front = count_all p (take (suc i) xs) (All-from_get_or (λ x. p x ≡ true) (take (suc i) xs) d each) in
      omega (arith, sum_by-take-drop (λ x. one (p x)) xs (suc i))

  -- below the key of place j, at most j have come
  pub back_count : (j t : ℕ) (d : X) → j < length xs → t < key (get_or xs j d) → count_by (λ x. leb (key x) t) xs ≤ j
  back_count j t d h late =
      let p : X → Bool = λ x. leb (key x) t in
      let len = length-take j xs in
      let lend = length-drop j xs in
      let each : (k : ℕ) → k < length (drop j xs) → p (get_or (drop j xs) k d) ≡ false =
      λ k l. let ord = up j (j + k) d (omega arith) (omega arith) in
      rw (get_or-drop j xs k d) (lt-leb (key (get_or xs (j + k) d)) t (omega arith)) in
      let back = count_none p (drop j xs) (All-from_get_or (λ x. p x ≡ false) (drop j xs) d each) in
      omega (arith, sum_by-take-drop (λ x. one (p x)) xs j, count_by-le-length p (take j xs))

order_rises : (before : Run → Run → Bool) (key : Run → ℕ) → ((x y : Run) → before x y ≡ true → key x ≤ key y) → (xs : List Run) → InOrder before xs → IsNonDecreasingBy key xs
order_rises before key up xs h i j d le l = go (cases_lt i j)
  where
    go : (i < j) ⊎ (j ≤ i) → key (get_or xs i d) ≤ key (get_or xs j d)
    go (inl w) = up (get_or xs i d) (get_or xs j d) (h i j d w l)
    go (inr w) = let e : i ≡ j = omega arith in let P : ℕ → Type 0 = λ k. key (get_or xs i d) ≤ key (get_or xs k d) in subst P e (omega arith)

start_rises : (D : List Run) → InOrder leaves_before D → IsNonDecreasingBy (λ r. r.start) D
start_rises D h = order_rises leaves_before (λ r. r.start) (λ x y e. grind (arith, nat_tests)) D h

arrival_rises : (A : List Run) → InOrder comes_before A → IsNonDecreasingBy arrival_minute A
arrival_rises A h = order_rises comes_before arrival_minute (λ x y e. grind (arith, nat_tests)) A h

-- with places counted from 0
from_0 : (T : List Run) (v n : ℕ) → Need T v n → (D A : List Run) → Departures T v D → Arrivals T v A → (i : ℕ) (d : Run) → n ≤ i → i < length D → (i - n < length A) × (arrival_minute (get_or A (i - n) d) ≤ (get_or D i d).start)
from_0 T v n need D A out in' i d late h =
    let t = (get_or D i d).start in
    let go_out = front_count (λ r. r.start) D (start_rises D out.ordered) i d h in
    let same_out = out.same (λ r. leb r.start t) ∙ count_kept (λ r. eqb r.from v) (λ r. leb r.start t) T in
    let same_in = in'.same (λ r. leb (arrival_minute r) t) ∙ count_kept (λ r. eqb r.to v) (λ r. leb (arrival_minute r) t) T in
    let lvl = level_above (departures T v t) (arrivals T v t) n (need.none_above t) in
    let many = count_by-le-length (λ r. leb (arrival_minute r) t) A in
    let there : i - n < length A = omega arith in
    let due : arrival_minute (get_or A (i - n) d) ≤ t = elim (cases_lt t (arrival_minute (get_or A (i - n) d))) [ inl w ↦ absurd (too_few w there) | inr e ↦ e ] in
    (there, due)
  where
    too_few : (get_or D i d).start < arrival_minute (get_or A (i - n) d) → i - n < length A → ⊥
    too_few w there =
        let t = (get_or D i d).start in
        let go_out = front_count (λ r. r.start) D (start_rises D out.ordered) i d h in
        let same_out = out.same (λ r. leb r.start t) ∙ count_kept (λ r. eqb r.from v) (λ r. leb r.start t) T in
        let same_in = in'.same (λ r. leb (arrival_minute r) t) ∙ count_kept (λ r. eqb r.to v) (λ r. leb (arrival_minute r) t) T in
        let lvl = level_above (departures T v t) (arrivals T v t) n (need.none_above t) in
        let few = back_count arrival_minute A (arrival_rises A in'.ordered) (i - n) t d there w in
        omega arith

pub first_in_is_there : FirstInIsThere
first_in_is_there T v n need D A out in' i d late h =
    let f = from_0 T v n need D A out in' (i - 1) d (omega arith) (omega arith) in
    let there = f.0 in
    let e : i - 1 - n ≡ i - n - 1 = omega arith in
    (omega arith, subst (λ k. arrival_minute (get_or A k d) ≤ (get_or D (i - 1) d).start) e f.1)
