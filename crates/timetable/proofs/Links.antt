-- Before and after: one answer each, undoing each other, and never back in time.
use Rattle.std.proofs.Common.{◌≡◌, ℕ, ◌+◌, ◌<◌, ◌≤◌, Bool, true, ◌&&◌, eqb, ◌⊎◌, List, Some, None, count_by, Option, sym, refl, ap, ◌∙◌, subst, inl, inr, arith}
use Rattle.std.specs.List.{ContainsAt as Has}
use Rattle.std.proofs.lemmas.Bool.{cases_lt, and_parts, and_from, eq-eqb, eqb-true}
use Rattle.run.specs.declared.Run.{Run}
use Rattle.timetable.specs.Ways.{Apart}
use Rattle.timetable.specs.Fifo.{leaves_before, comes_before, place, departure_number, arrival_number, Origin, box, brought_by, Before, After}
use Rattle.timetable.specs.Links.{OneBefore, OneAfter, LinksUndo, AfterInTime}
use Rattle.timetable.proofs.Ranks.{one, same_place}
use Rattle.timetable.proofs.Members.{equal, equal_self, equal_is, has_in, in_has, has_mem, mem_le}
use Rattle.timetable.proofs.OneNeed.{some_of}
use Rattle.timetable.proofs.Takes.{takes_of, before_of}
use Rattle.timetable.proofs.Fifo.{leaves_irr, leaves_trans, leaves_tri, waits}
use Rattle.timetable.proofs.Build.{comes_irr, comes_trans, comes_tri, alike, brought}

-- two runs of T with one number are one run
pub same_run : (T : List Run) → Apart T → (x y : Run) → Has T x → Has T y → x.number ≡ y.number → x ≡ y
same_run T apart x y hx hy e = equal_is x y (alike T apart x y (has_in T x hx) (has_in T y hy) e (λ z. equal x z) (equal_self x))

module _ (T : List Run) (need : ℕ → ℕ) (apart : Apart T) where
  -- one departure of a vault for each number, and one arrival
  same_departure : (x y : Run) → Has T x → Has T y → x.from ≡ y.from → departure_number T x ≡ departure_number T y → x ≡ y
  same_departure x y hx hy e n =
      let P : ℕ → Type 0 = λ v. place leaves_before (λ s. eqb s.from v) T x + 1 ≡ departure_number T y in
      let at : P y.from = subst P e n in
      same_run T apart x y hx hy (same_place leaves_before leaves_irr leaves_trans (λ r. r.number) leaves_tri (λ s. eqb s.from y.from) T x y (has_in T x hx) (has_in T y hy) (eq-eqb _ _ e) (eq-eqb y.from y.from refl) (omega arith))

  same_arrival : (x y : Run) → Has T x → Has T y → x.to ≡ y.to → arrival_number T x ≡ arrival_number T y → x ≡ y
  same_arrival x y hx hy e n =
      let P : ℕ → Type 0 = λ v. place comes_before (λ s. eqb s.to v) T x + 1 ≡ arrival_number T y in
      let at : P y.to = subst P e n in
      same_run T apart x y hx hy (same_place comes_before comes_irr comes_trans (λ r. r.number) comes_tri (λ s. eqb s.to y.to) T x y (has_in T x hx) (has_in T y hy) (eq-eqb _ _ e) (eq-eqb y.to y.to refl) (omega arith))

  -- a run does not take its box both ways
  not_both : (s : Run) (v i : ℕ) (r : Run) → Before T need s (box v i) → Before T need s (brought_by r) → ⊥
  not_both s v i r a b =
      let low : i ≤ need s.from = subst (λ u. i ≤ need u) a.0 a.2 in
      let e = a.1 in
      let high = b.2 in
      omega arith

  pub same_before : (s : Run) (o p : Origin) → Before T need s o → Before T need s p → o ≡ p
  same_before s (box v i) (box w j) a b = λ k. box ((a.0 ∙ sym b.0) k) ((a.1 ∙ sym b.1) k)
  same_before s (box v i) (brought_by r) a b = absurd (not_both s v i r a b)
  same_before s (brought_by r) (box v i) a b = absurd (not_both s v i r b a)
  same_before s (brought_by r) (brought_by q) a b = ap brought_by (same_arrival r q a.0 b.0 (a.1 ∙ sym b.1) (a.3 ∙ sym b.3))

  pub same_after : (r : Run) (o p : Option Run) → After T need r o → After T need r p → o ≡ p
  same_after r None None a b = refl
  same_after r None (Some s) a b = absurd (a s b.0 b.1)
  same_after r (Some s) None a b = absurd (b s a.0 a.1)
  same_after r (Some s) (Some z) a b =
      let e : s.from ≡ z.from = sym a.1.there ∙ b.1.there in
      ap Some (same_departure s z a.0 b.0 e (a.1.turn ∙ ap (λ v. need v + arrival_number T r) e ∙ sym b.1.turn))

  -- is s the run that takes the box of r next
  abbrev pub takes_next : Run → Run → Bool
  takes_next r s = eqb r.to s.from && eqb (departure_number T s) (need s.from + arrival_number T r)

  pub after_none : (r : Run) → count_by (takes_next r) T ≤ 0 → After T need r None
  after_none r z s h t =
      let e : takes_next r s ≡ true = and_from (eqb r.to s.from) (eqb (departure_number T s) (need s.from + arrival_number T r)) (eq-eqb _ _ t.there) (eq-eqb _ _ t.turn) in
      let o : one (takes_next r s) ≡ 1 = ap one e in
      omega (arith, mem_le (λ x. one (takes_next r x)) T s (has_mem T s h))

  after_is : (r : Run) → (o : Option Run) × After T need r o
  after_is r = go (cases_lt 0 (count_by (takes_next r) T))
    where
      go : (0 < count_by (takes_next r) T) ⊎ (count_by (takes_next r) T ≤ 0) → (o : Option Run) × After T need r o
      go (inl h) =
          let f = some_of (takes_next r) T h in
          let s = f.0 in
          let ps = and_parts (eqb r.to s.from) (eqb (departure_number T s) (need s.from + arrival_number T r)) f.2 in
          (Some s, (f.1, record { there = eqb-true _ _ ps.0; turn = eqb-true _ _ ps.1 }))
      go (inr z) = (None, after_none r z)

pub one_before : OneBefore
one_before T need needs apart s h = (some (cases_lt (need s.from) (departure_number T s)), same_before T need apart s)
  where
    some : (need s.from < departure_number T s) ⊎ (departure_number T s ≤ need s.from) → (o : Origin) × Before T need s o
    some (inr low) = (box s.from (departure_number T s), (refl, refl, low))
    some (inl high) =
        let f = brought T need needs apart s (has_in T s h) (omega arith) in
        (brought_by f.0, before_of T need f.0 s (in_has T f.0 f.1) f.2)

pub one_after : OneAfter
one_after T need apart r h = (after_is T need apart r, same_after T need apart r)

pub links_undo : LinksUndo
links_undo T need r s hr hs = (λ b. (hs, takes_of T need r s b), λ a. before_of T need r s hr a.1)

pub after_in_time : AfterInTime
after_in_time T need needs r s a = record { there = a.1.there; in_time = waits T need needs r s (has_in T s a.0) a.1 }
