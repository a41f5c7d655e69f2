-- First in, first out can always be done: the blocks are built run by run, in the order of departure.
use Rattle.std.proofs.Common.{◌≡◌, ℕ, zero, suc, ◌+◌, ◌-◌, ◌<◌, ◌≤◌, Bool, true, false, not, ◌&&◌, eqb, ltb, leb, ◌⊎◌, List, [], ◌∷◌, ◌++◌, count_by, sym, refl, ap, ◌∙◌, subst, inl, inr, arith}
use Rattle.std.specs.List.{ContainsAt as Has, AllByRecursion as All}
use Rattle.std.proofs.lemmas.List.Sums.{sum_by-cons, sum_by-append}
use Rattle.std.proofs.ByRecursion.{All-weaker}
use Rattle.std.proofs.lemmas.Bool.{cases_lt, cases_Bool, and_parts, and_from, eq-eqb, eqb-true, lt-ltb, ltb-true, not_from_true}
use Rattle.std.proofs.lemmas.Bool.Decides.{nat_tests}
use Rattle.run.specs.declared.Run.{Run}
use Rattle.run.specs.Minutes.{arrival_minute}
use Rattle.timetable.specs.Levels.{departs_by, arrives_by, departures, arrivals, Needs}
use Rattle.timetable.specs.Ways.{runs_of, Apart, Forward}
use Rattle.timetable.specs.Fifo.{leaves_before, comes_before, place, departures_before, arrivals_before, departure_number, arrival_number, Block, Takes, Linked, Opens, Boxed, chains_of, Fifo}
use Rattle.timetable.proofs.Lower.{level_above}
use Rattle.timetable.proofs.Queues.{count_none}
use Rattle.timetable.proofs.Ranks.{one, one_true, imp, In, in_left, in_right, all_of, every, sum_le, sum_add, count_le, count_strict, place_below, same_place, at_place}
use Rattle.timetable.proofs.Fifo.{leaves_irr, leaves_trans, leaves_tri, waits}
use Rattle.timetable.proofs.Members.{in_has}
use Rattle.timetable.proofs.Takes.{takes_of, before_of}

pub comes_irr : (x : Run) → comes_before x x ≡ false
comes_irr x = grind (arith, nat_tests)

pub comes_trans : (x y z : Run) → comes_before x y ≡ true → comes_before y z ≡ true → comes_before x z ≡ true
comes_trans x y z h k = grind (arith, nat_tests)

pub comes_tri : (x y : Run) → comes_before x y ≡ false → comes_before y x ≡ false → x.number ≡ y.number
comes_tri x y h k = grind (arith, nat_tests)

-- what holds of each element holds of what is in the list
pub all_at : {X : Type 0} (p : X → Bool) (xs : List X) (x : X) → All (λ y. p y ≡ true) xs → In xs x → p x ≡ true
all_at {X} p xs x h i = go (cases_Bool (p x))
  where
    none_left : count_by (λ y. not (p y)) xs ≡ 0
    none_left = count_none (λ y. not (p y)) xs (All-weaker (λ y. p y ≡ true) (λ y. not (p y) ≡ false) (λ y e. not_from_true (p y) e) xs h)

    go : (p x ≡ true) ⊎ (p x ≡ false) → p x ≡ true
    go (inl e) = e
    go (inr e) = let o : one (not (p x)) ≡ 1 = ap (λ b. one (not b)) e in absurd (omega (arith, i (λ y. not (p y)), none_left))

-- two with one number pass the same tests
pub alike : (T : List Run) → Apart T → (x y : Run) → In T x → In T y → x.number ≡ y.number → (p : Run → Bool) → p x ≡ true → p y ≡ true
alike T apart x y ix iy e p px = go (cases_Bool (p y))
  where
    n : ℕ
    n = y.number

    a : Run → Bool
    a = λ z. eqb z.number n && p z

    b : Run → Bool
    b = λ z. eqb z.number n && not (p z)

    cut : (c d : Bool) → one (c && d) + one (c && not d) ≤ one c
    cut true true = omega arith
    cut true false = omega arith
    cut false d = omega arith

    both : count_by a T + count_by b T ≤ 1
    both = omega (
      arith,
      sum_add (λ z. one (a z)) (λ z. one (b z)) T,
      apart n,
      sum_le (λ z. one (a z) + one (b z)) (λ z. one (eqb z.number n)) T (all_of (λ z. one (a z) + one (b z) ≤ one (eqb z.number n)) (λ z. cut (eqb z.number n) (p z)) T),
    )

    go : (p y ≡ true) ⊎ (p y ≡ false) → p y ≡ true
    go (inl t) = t
    go (inr f) =
        let ax : one (a x) ≡ 1 = ap one (and_from (eqb x.number n) (p x) (eq-eqb x.number n e) px) in
        let by : one (b y) ≡ 1 = ap one (and_from (eqb y.number n) (not (p y)) (eq-eqb y.number n refl) (ap not f)) in
        absurd (omega (arith, ix a, iy b, both))

module _ (T : List Run) (need : ℕ → ℕ) (s : Run) where
  abbrev good : Run → Bool
  good r = eqb r.to s.from && eqb (departure_number T s) (need s.from + arrival_number T r)

  abbrev Fresh : Run → Type 0
  Fresh z = Has T z × (z.from ≡ s.from → departure_number T z ≡ departure_number T s → ⊥)

  takes : (r : Run) → good r ≡ true → Takes T need r s
  takes r h =
      let ps = and_parts (eqb r.to s.from) (eqb (departure_number T s) (need s.from + arrival_number T r)) h in
      record { there = eqb-true _ _ ps.0; turn = eqb-true _ _ ps.1 }

  clash : (r z : Run) → Takes T need r s → Takes T need r z → Fresh z → ⊥
  clash r z a b f =
      let e : z.from ≡ s.from = sym b.there ∙ a.there in
      f.1 e (b.turn ∙ ap (λ v. need v + arrival_number T r) e ∙ sym a.turn)

  extend : (r : Run) (rs : List Run) → Linked T need (r ∷ rs) → All Fresh (r ∷ rs) → 1 ≤ count_by good (r ∷ rs) → (ss : List Run) × Linked T need (r ∷ ss) × ((p : Run → Bool) → count_by p (r ∷ ss) ≡ count_by p (r ∷ rs) + one (p s))
  extend r [] l f h =
      (s ∷ [], (before_of T need r s f.0.0 (takes r (one_true (good r) (omega arith))), tt), λ p. omega (arith, sum_by-cons (λ x. one (p x)) r (s ∷ []), sum_by-cons (λ x. one (p x)) s []))
  extend r (z ∷ rs) l f h = go (cases_Bool (good r)) (λ h'. extend z rs l.1 f.1 h')
    where
      Ext : Run → List Run → Type 0
      Ext a bs = (ss : List Run) × Linked T need (a ∷ ss) × ((p : Run → Bool) → count_by p (a ∷ ss) ≡ count_by p (a ∷ bs) + one (p s))

      go : (good r ≡ true) ⊎ (good r ≡ false) → (1 ≤ count_by good (z ∷ rs) → Ext z rs) → Ext r (z ∷ rs)
      go (inl g) ih = absurd (clash r z (takes r g) (takes_of T need r z l.0) f.1.0)
      go (inr g) ih =
          let o : one (good r) ≡ 0 = ap one g in
          let e = ih (omega (arith, sum_by-cons (λ x. one (good x)) r (z ∷ rs))) in
          (z ∷ e.0, (l.0, e.1), λ p. omega (arith, sum_by-cons (λ x. one (p x)) r (z ∷ e.0), sum_by-cons (λ x. one (p x)) r (z ∷ rs), e.2 p))

  -- the run goes after the one that brings its box
  extend_box : (w i : ℕ) (c : List Run) → Opens T need w i c → Linked T need c → All Fresh c → 1 ≤ count_by good c → (d : List Run) × Opens T need w i d × Linked T need d × ((p : Run → Bool) → count_by p d ≡ count_by p c + one (p s))
  extend_box w i [] o l f h = absurd o
  extend_box w i (r ∷ rs) o l f h = let e = extend r rs l f h in (r ∷ e.0, o, e.1, e.2)

  abbrev More : List Block → Type 0
  More B = (C : List Block) × All (Boxed T need) C × ((p : Run → Bool) → count_by p (runs_of (chains_of C)) ≡ count_by p (runs_of (chains_of B)) + one (p s))

  extend_one : (B : List Block) → All (Boxed T need) B → ((x : Run) → In (runs_of (chains_of B)) x → Fresh x) → 1 ≤ count_by good (runs_of (chains_of B)) → More B
  extend_one [] h f c = absurd (omega arith)
  extend_one (b ∷ B) h f c = go (cases_lt 0 (count_by good b.runs)) (extend_one B h.1 (λ x i. f x (in_right x b.runs rest i)))
    where
      rest : List Run
      rest = runs_of (chains_of B)

      split : (p : Run → Bool) (c : List Run) → count_by p (c ++ rest) ≡ count_by p c + count_by p rest
      split p c = sum_by-append (λ x. one (p x)) c rest

      go : (0 < count_by good b.runs) ⊎ (count_by good b.runs ≤ 0) → (1 ≤ count_by good rest → More B) → More (b ∷ B)
      go (inl g) ih =
          let e = extend_box b.vault b.number b.runs h.0.opens h.0.linked (every Fresh b.runs (λ x i. f x (in_left x b.runs rest i))) g in
          let b' : Block = record { vault = b.vault; number = b.number; runs = e.0 } in
          (b' ∷ B, (record { opens = e.1; linked = e.2 }, h.1), λ p. omega (arith, split p e.0, split p b.runs, e.3 p))
      go (inr g) ih =
          let e = ih (omega (arith, split good b.runs)) in
          let new = runs_of (chains_of e.0) in
          (b ∷ e.0, (h.0, e.1), λ p. omega (arith, sum_by-append (λ x. one (p x)) b.runs new, split p b.runs, e.2 p))

  open_one : (B : List Block) → All (Boxed T need) B → departures_before T s < need s.from → More B
  open_one B h low =
      let b : Block = record { vault = s.from; number = departure_number T s; runs = s ∷ [] } in
      (b ∷ B, (record { opens = (refl, refl, omega arith); linked = tt }, h), λ p. omega (arith, sum_by-append (λ x. one (p x)) (s ∷ []) (runs_of (chains_of B))))

own_place : (T : List Run) (r : Run) (v k : ℕ) → r.to ≡ v → place comes_before (λ x. eqb x.to v) T r ≡ k → arrivals_before T r ≡ k
own_place T r v k e h = subst (λ w. place comes_before (λ x. eqb x.to w) T r ≡ k) (sym e) h

module _ (T : List Run) (need : ℕ → ℕ) (needs : Needs T need) (apart : Apart T) where
  -- past the need, some run brings the box
  pub brought : (s : Run) → In T s → need s.from ≤ departures_before T s → (r : Run) × In T r × Takes T need r s
  brought s is high =
      let v = s.from in
      let t = s.start in
      let out = count_strict (λ x. eqb x.from v && leaves_before x s) (departs_by v t) (λ x e. grind (arith, nat_tests)) T s is (grind (arith, nat_tests)) (grind (arith, nat_tests)) in
      let lvl = level_above (departures T v t) (arrivals T v t) (need v) ((needs v).none_above t) in
      let came = count_le (arrives_by v t) (λ x. eqb x.to v) (λ x e. (and_parts (eqb x.to v) (leb (arrival_minute x) t) e).0) T in
      let f = at_place comes_before comes_irr comes_trans (λ r. r.number) comes_tri T apart (λ x. eqb x.to v) (departures_before T s - need v) (omega arith) in
      let r = f.0 in
      let e = eqb-true r.to v f.2 in
      let pl : arrivals_before T r ≡ departures_before T s - need v = own_place T r v (departures_before T s - need v) e f.3 in
      (r, f.1, record { there = e; turn = omega arith })

-- how many leave before r, from anywhere
abbrev turn : List Run → Run → ℕ
turn T r = place leaves_before (λ _. true) T r

module _ (T : List Run) (need : ℕ → ℕ) (needs : Needs T need) (apart : Apart T) (forward : Forward T) where
  -- the first k to leave are in their blocks
  record Built (k : ℕ) (B : List Block) : Type 0 where
    boxed : All (Boxed T need) B
    so_far : (p : Run → Bool) → count_by p (runs_of (chains_of B)) ≡ count_by (λ x. p x && ltb (turn T x) k) T

  was_in : (k : ℕ) (B : List Block) → Built k B → (x : Run) → In (runs_of (chains_of B)) x → In T x
  was_in k B h x i p = omega (arith, i p, h.so_far p, count_le (λ y. p y && ltb (turn T y) k) p (λ y e. (and_parts (p y) (ltb (turn T y) k) e).0) T)

  was_before : (k : ℕ) (B : List Block) → Built k B → (x : Run) → In (runs_of (chains_of B)) x → turn T x < k
  was_before k B h x i = go (cases_Bool (ltb (turn T x) k))
    where
      late : Run → Bool
      late = λ y. not (ltb (turn T y) k)

      never : (b : Bool) → (not b && b) ≡ false
      never true = refl
      never false = refl

      go : (ltb (turn T x) k ≡ true) ⊎ (ltb (turn T x) k ≡ false) → turn T x < k
      go (inl e) = ltb-true (turn T x) k e
      go (inr e) =
          let o : one (late x) ≡ 1 = ap (λ b. one (not b)) e in
          absurd (omega (arith, i late, h.so_far late, count_none (λ y. late y && ltb (turn T y) k) T (all_of (λ y. (late y && ltb (turn T y) k) ≡ false) (λ y. never (ltb (turn T y) k)) T)))

  -- what left before is in its block
  now_in : (k : ℕ) (B : List Block) → Built k B → (x : Run) → In T x → turn T x < k → In (runs_of (chains_of B)) x
  now_in k B h x i l p =
      let q : Run → Bool = λ y. p y && ltb (turn T y) k in
      let le : one (p x) ≤ one (q x) = imp (p x) (q x) (λ e. and_from (p x) (ltb (turn T x) k) e (lt-ltb (turn T x) k l)) in
      omega (arith, i q, h.so_far p)

  -- no other run has the turn of s at its vault
  fresh : (k : ℕ) (B : List Block) → Built k B → (s : Run) → In T s → turn T s ≡ k → (x : Run) → In (runs_of (chains_of B)) x → Fresh T need s x
  fresh k B h s is e x ix = (
    in_has T x (was_in k B h x ix),
    λ from_e place_e.
        let ix_t = was_in k B h x ix in
        let bx = was_before k B h x ix in
        let P : ℕ → Type 0 = λ v. place leaves_before (λ y. eqb y.from v) T x ≡ departures_before T s in
        let eq : P s.from = subst P from_e (omega arith) in
        let num = same_place leaves_before leaves_irr leaves_trans (λ r. r.number) leaves_tri (λ y. eqb y.from s.from) T x s ix_t is (eq-eqb x.from s.from from_e) (eq-eqb s.from s.from refl) eq in
        let low = ltb-true (turn T s) k (alike T apart x s ix_t is num (λ y. ltb (turn T y) k) (lt-ltb (turn T x) k bx)) in
        omega arith,
  )

  goes_on : (r : Run) → In T r → r.start < arrival_minute r
  goes_on r i = ltb-true _ _ (all_at (λ y. ltb y.start (arrival_minute y)) T r (All-weaker (λ y. y.start < arrival_minute y) (λ y. ltb y.start (arrival_minute y) ≡ true) (λ y l. lt-ltb _ _ l) T forward) i)

  -- one more run
  just_one : (k : ℕ) (s : Run) → In T s → turn T s ≡ k → (p : Run → Bool) → count_by (λ x. p x && ltb (turn T x) (suc k)) T ≡ count_by (λ x. p x && ltb (turn T x) k) T + one (p s)
  just_one k s is e p =
      let here : Run → Bool = λ x. p x && eqb (turn T x) k in
      let low : Run → Bool = λ x. p x && ltb (turn T x) k in
      let upto : Run → Bool = λ x. p x && ltb (turn T x) (suc k) in
      let add = sum_add (λ x. one (low x)) (λ x. one (here x)) T in
      let a = sum_le (λ x. one (upto x)) (λ x. one (low x) + one (here x)) T (all_of (λ x. one (upto x) ≤ one (low x) + one (here x)) (λ x. grind (arith, nat_tests)) T) in
      let b = sum_le (λ x. one (low x) + one (here x)) (λ x. one (upto x)) T (all_of (λ x. one (low x) + one (here x) ≤ one (upto x)) (λ x. grind (arith, nat_tests)) T) in
      let c = sum_le (λ x. one (here x)) (λ x. one (p s && eqb x.number s.number)) T (every (λ x. one (here x) ≤ one (p s && eqb x.number s.number)) T (λ x ix. imp (here x) (p s && eqb x.number s.number) (only x ix))) in
      let d = most (p s) in
      let g : one (p s) ≤ one (here s) = imp (p s) (here s) (λ t. and_from (p s) (eqb (turn T s) k) t (eq-eqb (turn T s) k e)) in
      omega (arith, is here)
    where
      only : (x : Run) → In T x → (p x && eqb (turn T x) k) ≡ true → (p s && eqb x.number s.number) ≡ true
      only x ix h =
          let ps = and_parts (p x) (eqb (turn T x) k) h in
          let num = same_place leaves_before leaves_irr leaves_trans (λ r. r.number) leaves_tri (λ _. true) T x s ix is refl refl (eqb-true (turn T x) k ps.1 ∙ sym e) in
          and_from (p s) (eqb x.number s.number) (alike T apart x s ix is num p ps.0) (eq-eqb _ _ num)

      most : (b : Bool) → count_by (λ x. b && eqb x.number s.number) T ≤ one b
      most true = apart s.number
      most false = omega (arith, count_none (λ x. false) T (all_of (λ x. false ≡ false) (λ x. refl) T))

  step : (k : ℕ) (B : List Block) → Built k B → k < count_by (λ _. true) T → (C : List Block) × Built (suc k) C
  step k B h l = go (cases_lt (departures_before T s) (need s.from))
    where
      found : (r : Run) × In T r × (true ≡ true) × (turn T r ≡ k)
      found = at_place leaves_before leaves_irr leaves_trans (λ r. r.number) leaves_tri T apart (λ _. true) k l

      s : Run
      s = found.0

      done : More T need s B → (C : List Block) × Built (suc k) C
      done m = (m.0, record { boxed = m.1; so_far = λ p. m.2 p ∙ ap (λ n. n + one (p s)) (h.so_far p) ∙ sym (just_one k s found.1 found.3 p) })

      go : (departures_before T s < need s.from) ⊎ (need s.from ≤ departures_before T s) → (C : List Block) × Built (suc k) C
      go (inl low) = done (open_one T need s B h.boxed low)
      go (inr high) =
          let f = brought T need needs apart s found.1 high in
          let r = f.0 in
          let soon = waits T need needs r s found.1 f.2 in
          let fw = goes_on r f.1 in
          let sooner : leaves_before r s ≡ true = grind (arith, nat_tests) in
          let before = place_below leaves_before leaves_irr leaves_trans (λ r. r.number) leaves_tri (λ _. true) T r s sooner f.1 refl in
          let ri = now_in k B h r f.1 (omega (arith, found.3)) in
          let g : good T need s r ≡ true = and_from (eqb r.to s.from) (eqb (departure_number T s) (need s.from + arrival_number T r)) (eq-eqb _ _ f.2.there) (eq-eqb _ _ f.2.turn) in
          let o : one (good T need s r) ≡ 1 = ap one g in
          done (extend_one T need s B h.boxed (fresh k B h s found.1 found.3) (omega (arith, ri (good T need s))))

  build : (k : ℕ) → k ≤ count_by (λ _. true) T → (B : List Block) × Built k B
  build zero l = ([], record { boxed = tt; so_far = λ p. sym (count_none (λ x. p x && ltb (turn T x) 0) T (all_of (λ x. (p x && ltb (turn T x) 0) ≡ false) (λ x. grind (arith, nat_tests)) T)) })
  build (suc k) l = let b = build k (omega arith) in step k b.0 b.1 l

  pub all_built : (B : List Block) × Fifo T need B
  all_built =
      let N = count_by (λ _. true) T in
      let b = build N (omega arith) in
      (b.0, record { boxed = b.1.boxed; same = λ p. b.1.so_far p ∙ whole p })
    where
      whole : (p : Run → Bool) → count_by (λ x. p x && ltb (turn T x) (count_by (λ _. true) T)) T ≡ count_by p T
      whole p =
          let N = count_by (λ _. true) T in
          let q : Run → Bool = λ x. p x && ltb (turn T x) N in
          let in_all : (x : Run) → In T x → turn T x < N = λ x i. count_strict (λ y. true && leaves_before y x) (λ _. true) (λ _ _. refl) T x i (leaves_irr x) refl in
          omega (
            arith,
            count_le q p (λ x e. (and_parts (p x) (ltb (turn T x) N) e).0) T,
            sum_le (λ x. one (p x)) (λ x. one (q x)) T (every (λ x. one (p x) ≤ one (q x)) T (λ x i. imp (p x) (q x) (λ e. and_from (p x) (ltb (turn T x) N) e (lt-ltb (turn T x) N (in_all x i))))),
          )
