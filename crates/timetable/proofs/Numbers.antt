-- The number of a departure or an arrival is its position in the queue of its vault.
use Rattle.std.proofs.Common.{◌≡◌, ℕ, zero, suc, ◌+◌, ◌-◌, ◌<◌, ◌≤◌, Bool, true, false, not, ◌&&◌, eqb, ◌⊎◌, List, [], ◌∷◌, length, get_or, take, drop, count_by, filter, sym, refl, ap, ◌∙◌, subst, inl, inr, arith}
use Rattle.std.specs.List.{ContainsAt as Has}
use Rattle.std.proofs.lemmas.List.Sums.{sum_by-take-drop, get_or-le-sum_by}
use Rattle.std.proofs.lemmas.List.{get_or-take, get_or-drop, length-take, length-drop, same_lists}
use Rattle.std.proofs.ByRecursion.{All-from_get_or, All-get_or, has_get_or}
use Rattle.std.proofs.lemmas.Bool.{cases_eq, cases_Bool, and_parts, and_from, eqb-true, eqb-false, eq-eqb}
use Rattle.std.proofs.lemmas.Bool.Decides.{nat_tests}
use Rattle.run.specs.declared.Run.{Run}
use Rattle.timetable.specs.Ways.{SameRuns, Apart}
use Rattle.timetable.specs.Fifo.{leaves_before, comes_before}
use Rattle.timetable.specs.Queues.{InOrder}
use Rattle.timetable.specs.Laws.{NumbersArePlaces, PlacesAreNumbers, OneQueue}
use Rattle.timetable.proofs.Queues.{count_all, count_none, count_kept}
use Rattle.timetable.proofs.Ranks.{one, imp, In, all_of, count_le}
use Rattle.timetable.proofs.Members.{has_in, in_has, Mem, has_mem, mem_le}
use Rattle.timetable.proofs.Ordering.{Strict, Ordered, put_in_order}
use Rattle.timetable.proofs.Fifo.{leaves_irr, leaves_trans, leaves_tri}
use Rattle.timetable.proofs.Build.{comes_irr, comes_trans, comes_tri}

never : (b : Bool) → (b && not b) ≡ false
never true = refl
never false = refl

module _ (lt : Run → Run → Bool) (irr : (x : Run) → lt x x ≡ false) (asym : (x y : Run) → lt x y ≡ true → lt y x ≡ false) (vault : Run → ℕ) where
  module _ (T : List Run) (v : ℕ) (D : List Run) (same : SameRuns D (filter (λ r. eqb (vault r) v) T)) (up : InOrder lt D) (i : ℕ) (d : Run) (h : i < length D) where
    in_d : In D (get_or D i d)
    in_d p = get_or-le-sum_by (λ x. one (p x)) D i d h

    at_v : vault (get_or D i d) ≡ v
    at_v = go (cases_Bool (eqb (vault (get_or D i d)) v))
      where
        go : (eqb (vault (get_or D i d)) v ≡ true) ⊎ (eqb (vault (get_or D i d)) v ≡ false) → vault (get_or D i d) ≡ v
        go (inl e) = eqb-true (vault (get_or D i d)) v e
        go (inr e) =
            let own : Run → Bool = λ x. eqb (vault x) v in
            let other : Run → Bool = λ x. not (own x) in
            let o : one (other (get_or D i d)) ≡ 1 = ap (λ b. one (not b)) e in
            absurd (omega (arith, in_d other, same other, count_kept own other T, count_none (λ x. own x && other x) T (all_of (λ x. (own x && other x) ≡ false) (λ x. never (own x)) T)))

    front : count_by (λ x. lt x (get_or D i d)) (take i D) ≡ length (take i D)
    front = count_all (λ x. lt x (get_or D i d)) (take i D) (All-from_get_or (λ x. lt x (get_or D i d) ≡ true) (take i D) d
        (λ k l. let len = length-take i D in let lo : k < i = omega arith in rw (get_or-take i D k d lo) (up k i d lo h)))

    behind : count_by (λ x. lt x (get_or D i d)) (drop i D) ≡ 0
    behind = count_none (λ x. lt x (get_or D i d)) (drop i D) (All-from_get_or (λ x. lt x (get_or D i d) ≡ false) (drop i D) d
        (λ k l. let len = length-drop i D in rw (get_or-drop i D k d) (not_before k (omega arith) (cases_eq k 0))))
      where
        not_before : (k : ℕ) → i + k < length D → (k ≡ 0) ⊎ (k ≡ 0 → ⊥) → lt (get_or D (i + k) d) (get_or D i d) ≡ false
        not_before k l (inl e) =
            let s : i + k ≡ i = omega arith in
            subst (λ j. lt (get_or D j d) (get_or D i d) ≡ false) (sym s) (irr (get_or D i d))
        not_before k l (inr e) = asym (get_or D i d) (get_or D (i + k) d) (up i (i + k) d (omega arith) l)

    pub queue_place : (vault (get_or D i d) ≡ v) × (count_by (λ x. eqb (vault x) (vault (get_or D i d)) && lt x (get_or D i d)) T + 1 ≡ i + 1)
    queue_place =
        let before : Run → Bool = λ x. lt x (get_or D i d) in
        let all : count_by before D ≡ i = omega (arith, sum_by-take-drop (λ x. one (before x)) D i, front, behind, length-take i D) in
        let P : ℕ → Type 0 = λ u. count_by (λ x. eqb (vault x) u && before x) T ≡ i in
        let at : P (vault (get_or D i d)) = subst P (sym at_v) (sym (count_kept (λ x. eqb (vault x) v) before T) ∙ sym (same before) ∙ all) in
        (at_v, ap (λ n. n + 1) at)

  module _ (T : List Run) (v : ℕ) (D : List Run) (same : SameRuns D (filter (λ r. eqb (vault r) v) T)) (up : InOrder lt D) where
    -- what stands in the queue is of T
    of_T : (r : Run) → Mem r D → Has T r
    of_T r m = in_has T r (λ p. omega (arith, mem_le (λ x. one (p x)) D r m, same p, count_kept (λ x. eqb (vault x) v) p T, count_le (λ x. eqb (vault x) v && p x) p (λ x e. (and_parts (eqb (vault x) v) (p x) e).1) T))

    pub queue_number : (i : ℕ) (d : Run) → 1 ≤ i → i ≤ length D → Has T (get_or D (i - 1) d) × (vault (get_or D (i - 1) d) ≡ v) × (count_by (λ x. eqb (vault x) (vault (get_or D (i - 1) d)) && lt x (get_or D (i - 1) d)) T + 1 ≡ i)
    queue_number i d lo hi =
        let q = queue_place T v D same up (i - 1) d (omega arith) in
        let e = q.1 in
        (of_T (get_or D (i - 1) d) (has_mem D (get_or D (i - 1) d) (has_get_or D (i - 1) d (omega arith))), q.0, omega arith)

    pub number_queue : (r d : Run) → Has T r → vault r ≡ v → (count_by (λ x. eqb (vault x) (vault r) && lt x r) T + 1 ≤ length D) × (get_or D (count_by (λ x. eqb (vault x) (vault r) && lt x r) T + 1 - 1) d ≡ r)
    number_queue r d h e =
        let in_d : In D r = λ p.
        let both : one (p r) ≤ one (eqb (vault r) v && p r) = imp (p r) (eqb (vault r) v && p r) (λ t. and_from (eqb (vault r) v) (p r) (eq-eqb (vault r) v e) t) in
        omega (arith, has_in T r h (λ x. eqb (vault x) v && p x), same p, count_kept (λ x. eqb (vault x) v) p T) in
        let f = in_has D r in_d in
        let q = (queue_place T v D same up f.0 d f.1).1 in
        let P : Run → Type 0 = λ z. count_by (λ x. eqb (vault x) (vault z) && lt x z) T + 1 ≡ f.0 + 1 in
        let n : count_by (λ x. eqb (vault x) (vault r) && lt x r) T + 1 ≡ f.0 + 1 = subst P (f.2 d) q in
        let low = f.1 in
        let k : f.0 ≡ count_by (λ x. eqb (vault x) (vault r) && lt x r) T + 1 - 1 = omega arith in
        (omega arith, subst (λ j. get_or D j d ≡ r) k (f.2 d))

leaves_asym : (x y : Run) → leaves_before x y ≡ true → leaves_before y x ≡ false
leaves_asym x y e = grind (arith, nat_tests)

comes_asym : (x y : Run) → comes_before x y ≡ true → comes_before y x ≡ false
comes_asym x y e = grind (arith, nat_tests)

pub numbers_are_places : NumbersArePlaces
numbers_are_places T v = (
  λ D h. queue_number leaves_before leaves_irr leaves_asym (λ r. r.from) T v D h.same h.ordered,
  λ A h. queue_number comes_before comes_irr comes_asym (λ r. r.to) T v A h.same h.ordered,
)

pub places_are_numbers : PlacesAreNumbers
places_are_numbers T r d h = (
  λ D q. number_queue leaves_before leaves_irr leaves_asym (λ x. x.from) T r.from D q.same q.ordered r d h refl,
  λ A q. number_queue comes_before comes_irr comes_asym (λ x. x.to) T r.to A q.same q.ordered r d h refl,
)

-- a list in strict order, by places
in_order : (lt : Run → Run → Bool) (xs : List Run) → Strict lt xs → InOrder lt xs
in_order lt [] s i j d l m = absurd (omega arith)
in_order lt (x ∷ xs) s i zero d l m = absurd (omega arith)
in_order lt (x ∷ xs) s zero (suc j) d l m = All-get_or (λ y. lt x y ≡ true) xs j d (omega arith) s.0
in_order lt (x ∷ xs) s (suc i) (suc j) d l m = in_order lt xs s.1 i j d (omega arith) (omega arith)

-- the runs of T that pass, in order
queue : (lt : Run → Run → Bool) (trans : (x y z : Run) → lt x y ≡ true → lt y z ≡ true → lt x z ≡ true) (tri : (x y : Run) → lt x y ≡ false → lt y x ≡ false → x.number ≡ y.number) (T : List Run) → Apart T → (own : Run → Bool) → (D : List Run) × SameRuns D (filter own T) × InOrder lt D
queue lt trans tri T apart own = (f.0, (λ p. f.1.sums (λ x. one (p x))), in_order lt f.0 f.1.order)
  where
    same : Run → Run → Bool
    same = λ x y. eqb y.number x.number

    other : (x y : Run) → lt x y ≡ false → eqb y.number x.number ≡ false → lt y x ≡ true
    other x y e n = go (cases_Bool (lt y x))
      where
        go : (lt y x ≡ true) ⊎ (lt y x ≡ false) → lt y x ≡ true
        go (inl t) = t
        go (inr f) = absurd (eqb-false y.number x.number n (tri y x f e))

    once : (k : ℕ) → count_by (λ y. eqb y.number k) (filter own T) ≤ 1
    once k = omega (arith, apart k, count_kept own (λ r. eqb r.number k) T, count_le (λ x. own x && eqb x.number k) (λ x. eqb x.number k) (λ x e. (and_parts (own x) (eqb x.number k) e).1) T)

    f : (D : List Run) × Ordered lt trans same (λ x. eq-eqb x.number x.number refl) other (λ _. Unit {0}) (filter own T) D
    f = put_in_order lt trans same (λ x. eq-eqb x.number x.number refl) other (λ _. Unit {0}) (filter own T) (all_of (λ _. Unit {0}) (λ _. tt) (filter own T)) (all_of (λ x. count_by (same x) (filter own T) ≤ 1) (λ x. once x.number) (filter own T))

-- two queues of one vault are equal: element by element
same_queue : (lt : Run → Run → Bool) (irr : (x : Run) → lt x x ≡ false) (asym : (x y : Run) → lt x y ≡ true → lt y x ≡ false) (vault : Run → ℕ) (T : List Run) (v : ℕ) (D E : List Run) → SameRuns D (filter (λ r. eqb (vault r) v) T) → InOrder lt D → SameRuns E (filter (λ r. eqb (vault r) v) T) → InOrder lt E → D ≡ E
same_queue lt irr asym vault T v D E sD oD sE oE = same_lists D E long at
  where
    all : (xs : List Run) → count_by (λ _. true) xs ≡ length xs
    all xs = count_all (λ _. true) xs (all_of (λ _. true ≡ true) (λ _. refl) xs)

    long : length D ≡ length E
    long = omega (arith, sD (λ _. true), sE (λ _. true), all D, all E)

    at : (k : ℕ) (d : Run) → k < length D → get_or D k d ≡ get_or E k d
    at k d l =
        let q = queue_number lt irr asym vault T v D sD oD (k + 1) d (omega arith) (omega arith) in
        let r = get_or D k d in
        let s : k + 1 - 1 ≡ k = omega arith in
        let h : Has T r = subst (λ j. Has T (get_or D j d)) s q.0 in
        let e : vault r ≡ v = subst (λ j. vault (get_or D j d) ≡ v) s q.1 in
        let n = (queue_place lt irr asym vault T v D sD oD k d l).1 in
        let f = (number_queue lt irr asym vault T v E sE oE r d h e).1 in
        let c : count_by (λ x. eqb (vault x) (vault r) && lt x r) T + 1 - 1 ≡ k = omega arith in
        sym (subst (λ j. get_or E j d ≡ r) c f)

pub one_queue : OneQueue
one_queue T apart v =
    let D = queue leaves_before leaves_trans leaves_tri T apart (λ r. eqb r.from v) in
    let A = queue comes_before comes_trans comes_tri T apart (λ r. eqb r.to v) in (
      (D.0, record { same = D.1; ordered = D.2 }),
      λ X Y x y. same_queue leaves_before leaves_irr leaves_asym (λ r. r.from) T v X Y x.same x.ordered y.same y.ordered,
      (A.0, record { same = A.1; ordered = A.2 }),
      λ X Y x y. same_queue comes_before comes_irr comes_asym (λ r. r.to) T v X Y x.same x.ordered y.same y.ordered,
    )
