-- The numbers of departures and arrivals, and the stops with a number, read off the entries.
use Rattle.std.proofs.Common.{◌≡◌, ℕ, ◌+◌, ◌-◌, ◌<◌, ◌≤◌, Bool, true, false, ◌&&◌, ◌||◌, eqb, ltb, List, map, Some, sum_by, count_by, sym, refl, ap, ◌∙◌, subst, arith}
use Rattle.std.specs.List.{ContainsAt as Has, AllByRecursion as All, slice_get}
use Rattle.std.proofs.ByRecursion.{All-weaker}
use Rattle.std.proofs.lemmas.Bool.{and_parts, and_right, eq-eqb, eqb-true}
use Rattle.std.proofs.lemmas.Bool.Decides.{nat_tests}
use Rattle.monoid.specs.declared.fittings.Fittings.{Fittings}
use Rattle.book.specs.Entries.{count_below}
use Rattle.book.proofs.Order.{Strict, strict}
use Rattle.run.specs.declared.Run.{Run}
use Rattle.run.specs.Minutes.{arrival_minute}
use Rattle.run.specs.Keys.{stop_key}
use Rattle.run.specs.Stretches.{stops_of}
use Rattle.run.specs.Laws.{Fit}
use Rattle.timetable.specs.Ways.{Apart}
use Rattle.timetable.proofs.Ranks.{one, sum_add, count_strict, at_place}
use Rattle.timetable.proofs.Members.{has_mem, mem_has, all_mem, has_in, in_has}
use Rattle.timetable.proofs.Fifo.{leaves_irr, leaves_trans, leaves_tri}
use Rattle.timetable.proofs.Build.{comes_irr, comes_trans, comes_tri}
use Rattle.figures.specs.Listed.{Lists, KeyFits, Keyed}
use Rattle.figures.specs.Reading.{number_read, stop_read}
use Rattle.figures.specs.Laws.{NumbersAreRead, StopAt, StopsAreRead}
use Rattle.figures.proofs.Rising.{nth_of, nth_has, has_place}
use Rattle.figures.proofs.Same.{Lone, sum_eq, listed_sums, sum_map, lone_departures, lone_arrivals}
use Rattle.figures.proofs.Kept.{map_mem, mem_map}
use Rattle.figures.proofs.Unions.{stop_of}

-- a key below another is of an earlier vault, or of the same and before it
part : (w m n v j i : ℕ) → Fit m n → Fit j i → one (ltb (stop_key w m n) (stop_key v j i)) ≡ one (ltb (stop_key w m n) (stop_key v 0 0)) + one (eqb w v && (ltb m j || (eqb m j && ltb n i)))
part w m n v j i f g =
    let m_fits = f.0 in
    let n_fits = f.1 in
    let j_fits = g.0 in
    let i_fits = g.1 in
    grind (arith, nat_tests)

abbrev sooner : (minute : Run → ℕ) → Run → Run → Bool
sooner minute s r = ltb (minute s) (minute r) || (eqb (minute s) (minute r) && ltb s.number r.number)

module _ (vault minute : Run → ℕ) (T : List Run) (es : List (ℕ × Fittings)) (fit : All (λ r. Fit (minute r) r.number) T) (lone : Lone (λ (e : ℕ × Fittings). e.0) (map (stop_of vault minute) T)) (h : Lists (map (stop_of vault minute) T) es) where
  up : Strict es
  up = strict es h.rising

  abbrev key : Run → ℕ
  key r = stop_key (vault r) (minute r) r.number

  -- how many stops of r's vault stand before r
  abbrev ahead : Run → ℕ
  ahead r = count_by (λ s. eqb (vault s) (vault r) && sooner minute s r) T

  below : (c : ℕ) → count_below c es ≡ sum_by (λ s. one (ltb (stop_key (vault s) (minute s) s.number) c)) T
  below c = listed_sums (map (stop_of vault minute) T) es lone h (λ e. one (ltb e.0 c)) ∙ sum_map (stop_of vault minute) (λ e. one (ltb e.0 c)) T

  fits_of : (r : Run) → Has T r → Fit (minute r) r.number
  fits_of r m = all_mem (λ r. Fit (minute r) r.number) T r fit (has_mem T r m)

  below_run : (r : Run) → Has T r → count_below (key r) es ≡ count_below (stops_of (vault r)).lo es + ahead r
  below_run r m =
      let first : ℕ = stop_key (vault r) 0 0 in
      let each = sum_eq (λ s. one (ltb (key s) (key r))) (λ s. one (ltb (key s) first) + one (eqb (vault s) (vault r) && sooner minute s r)) T
      (All-weaker (λ s. Fit (minute s) s.number) (λ s. one (ltb (key s) (key r)) ≡ one (ltb (key s) first) + one (eqb (vault s) (vault r) && sooner minute s r)) (λ s f. part (vault s) (minute s) s.number (vault r) (minute r) r.number f (fits_of r m)) T fit) in
      omega (arith, below (key r), below first, each, sum_add (λ s. one (ltb (key s) first)) (λ s. one (eqb (vault s) (vault r) && sooner minute s r)) T)

  number_is : (r : Run) → Has T r → number_read es (vault r) (key r) ≡ ahead r + 1
  number_is r m = omega (arith, below_run r m)

  module _ (irr : (x : Run) → sooner minute x x ≡ false) (trans : (x y z : Run) → sooner minute x y ≡ true → sooner minute y z ≡ true → sooner minute x z ≡ true) (tri : (x y : Run) → sooner minute x y ≡ false → sooner minute y x ≡ false → x.number ≡ y.number) (apart : Apart T) (v i : ℕ) (positive : 1 ≤ i) where
    listed : (r : Run) → Has T r → Has es (stop_of vault minute r)
    listed r m = h.all (stop_of vault minute r) (mem_has (map (stop_of vault minute) T) (stop_of vault minute r) (map_mem (stop_of vault minute) T r (has_mem T r m)))

    found : (r : Run) → Has T r → vault r ≡ v → ahead r + 1 ≡ i → stop_read es v i ≡ Some (stop_of vault minute r)
    found r m e n =
        let same : count_below (stops_of (vault r)).lo es ≡ count_below (stops_of v).lo es = ap (λ w. count_below (stops_of w).lo es) e in
        let at : count_below (stops_of v).lo es + (i - 1) ≡ count_below (key r) es = omega (arith, below_run r m, same) in
        ap (slice_get es) at ∙ nth_of es up (stop_of vault minute r) (listed r m)

    there : i ≤ count_by (λ r. eqb (vault r) v) T → (r : Run) × Has T r × (vault r ≡ v) × (ahead r + 1 ≡ i)
    there l =
        let f = at_place (sooner minute) irr trans (λ r. r.number) tri T apart (λ s. eqb (vault s) v) (i - 1) (omega arith) in
        let r = f.0 in
        let e = eqb-true (vault r) v f.2 in
        let n : count_by (λ s. eqb (vault s) v && sooner minute s r) T ≡ i - 1 = f.3 in
        let same : ahead r ≡ count_by (λ s. eqb (vault s) v && sooner minute s r) T = ap (λ w. count_by (λ s. eqb (vault s) w && sooner minute s r) T) e in
        (r, in_has T r f.1, e, omega arith)

    beyond : count_by (λ r. eqb (vault r) v) T < i → (e : ℕ × Fittings) → stop_read es v i ≡ Some e → (r : Run) × Has T r × (stop_of vault minute r ≡ e) × (vault r ≡ v → ⊥)
    beyond l e at =
        let n = nth_has es (count_below (stops_of v).lo es + (i - 1)) e at in
        let in_es : Has es e = (count_below (stops_of v).lo es + (i - 1), n.0, n.1) in
        let r = mem_map (stop_of vault minute) T e (has_mem (map (stop_of vault minute) T) e (h.only e in_es)) in
        let m = mem_has T r.0 r.1 in
        (r.0, m, r.2, elsewhere r.0 m (subst (λ (x : ℕ × Fittings). count_below x.0 es ≡ count_below (stops_of v).lo es + (i - 1)) (sym r.2) (has_place es up e in_es)))
      where
        elsewhere : (r : Run) → Has T r → count_below (key r) es ≡ count_below (stops_of v).lo es + (i - 1) → vault r ≡ v → ⊥
        elsewhere r m k w =
            let same : count_below (stops_of (vault r)).lo es ≡ count_below (stops_of v).lo es = ap (λ x. count_below (stops_of x).lo es) w in
            let less : ahead r < count_by (λ s. eqb (vault s) (vault r)) T = count_strict (λ s. eqb (vault s) (vault r) && sooner minute s r) (λ s. eqb (vault s) (vault r)) (λ s t. (and_parts (eqb (vault s) (vault r)) (sooner minute s r) t).0) T r (has_in T r m) (and_right (eqb (vault r) (vault r)) (sooner minute r r) (irr r)) (eq-eqb (vault r) (vault r) refl) in
            let count : count_by (λ s. eqb (vault s) (vault r)) T ≡ count_by (λ s. eqb (vault s) v) T = ap (λ x. count_by (λ s. eqb (vault s) x) T) w in
            omega (arith, below_run r m)

    at_stop : StopAt T vault (λ r. ahead r + 1) (stop_of vault minute) v i (stop_read es v i)
    at_stop = record { found = found; there = there; beyond = beyond }

leave_fits : (T : List Run) → Keyed T → All (λ r. Fit r.start r.number) T
leave_fits T keyed = All-weaker KeyFits (λ r. Fit r.start r.number) (λ r f. (f.start, f.number)) T keyed.fit

come_fits : (T : List Run) → Keyed T → All (λ r. Fit (arrival_minute r) r.number) T
come_fits T keyed = All-weaker KeyFits (λ r. Fit (arrival_minute r) r.number) (λ r f. (f.arrival, f.number)) T keyed.fit

pub numbers_are_read : NumbersAreRead
numbers_are_read = record {
  departures = λ T es keyed h r m. number_is (λ r. r.from) (λ r. r.start) T es (leave_fits T keyed) (lone_departures T keyed) h r m;
  arrivals = λ T es keyed h r m. number_is (λ r. r.to) arrival_minute T es (come_fits T keyed) (lone_arrivals T keyed) h r m;
}

pub stops_are_read : StopsAreRead
stops_are_read = record {
  departures = λ T es keyed h v i p. at_stop (λ r. r.from) (λ r. r.start) T es (leave_fits T keyed) (lone_departures T keyed) h leaves_irr leaves_trans leaves_tri keyed.apart v i p;
  arrivals = λ T es keyed h v i p. at_stop (λ r. r.to) arrival_minute T es (come_fits T keyed) (lone_arrivals T keyed) h comes_irr comes_trans comes_tri keyed.apart v i p;
}
