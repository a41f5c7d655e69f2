-- The fittings leaving and coming, read off the departures and the arrivals of a timetable.
use Rattle.std.proofs.Common.{◌≡◌, ℕ, ◌^◌, ◌<◌, Bool, true, ◌&&◌, eqb, leb, List, [], ◌∷◌, map, fold, filter, sym, refl, ap, ◌∙◌, subst, inl, inr}
use lib.Bits.{bit_or, or_self, or_comm}
use Rattle.std.specs.List.{AllByRecursion as All}
use Rattle.std.proofs.ByRecursion.{All-weaker}
use Rattle.std.proofs.lemmas.Bool.{and_parts, and_from, eqb-true, leb-true, eq-eqb, le-leb}
use Rattle.monoid.specs.declared.fittings.Fittings.{Fittings}
use Rattle.monoid.specs.Folds.{total}
use Rattle.monoid.specs.Sets.{set_of, union}
use Rattle.monoid.specs.FoldsLemmas.{total_cons}
use Rattle.monoid.specs.SetsLemmas.{left, right, assoc}
use Rattle.book.specs.Entries.{between, values}
use Rattle.run.specs.declared.Run.{Run}
use Rattle.run.specs.Minutes.{arrival_minute}
use Rattle.run.specs.Keys.{stop_key}
use Rattle.run.specs.Stretches.{stops_in}
use Rattle.run.specs.Laws.{Fit}
use Rattle.run.proofs.Packing.{stretches_hold}
use Rattle.timetable.specs.Fittings.{fittings_of}
use Rattle.timetable.proofs.Members.{Mem, has_mem, mem_has, all_mem}
use Rattle.figures.specs.Listed.{Lists, KeyFits}
use Rattle.figures.specs.Reading.{fittings_read}
use Rattle.figures.specs.Laws.{FittingsAreRead}
use Rattle.figures.proofs.Kept.{same_tests, in_stretch, stretch_within, within_stretch, mem_kept, kept_passes, kept_mem, map_mem, mem_map}

-- ---- unions depend on the members alone
abbrev all_of : List Fittings → Fittings
all_of xs = total (set_of 0) union xs

all_of_cons : (x : Fittings) (xs : List Fittings) → all_of (x ∷ xs) ≡ union x (all_of xs)
all_of_cons x xs = total_cons (set_of 0) union left right assoc x xs

twice : (x : Fittings) → union x x ≡ x
twice x = ap set_of (or_self x.0)

turned : (x y : Fittings) → union x y ≡ union y x
turned x y = ap set_of (or_comm x.0 y.0)

absorbed : (x : Fittings) (ys : List Fittings) → Mem x ys → union x (all_of ys) ≡ all_of ys
absorbed x [] m = absurd m
absorbed x (y ∷ ys) (inl e) =
    ap (union x) (all_of_cons y ys) ∙ sym (assoc x y (all_of ys)) ∙ ap (λ z. union z (all_of ys)) (ap (λ z. union z y) (sym e) ∙ twice y) ∙ sym (all_of_cons y ys)
absorbed x (y ∷ ys) (inr m) =
    ap (union x) (all_of_cons y ys) ∙ sym (assoc x y (all_of ys)) ∙ ap (λ z. union z (all_of ys)) (turned x y) ∙ assoc y x (all_of ys) ∙ ap (union y) (absorbed x ys m) ∙ sym (all_of_cons y ys)

under : (w : Fittings) (xs : List Fittings) → ((x : Fittings) → Mem x xs → union x w ≡ w) → union (all_of xs) w ≡ w
under w [] h = left w
under w (x ∷ xs) h = ap (λ z. union z w) (all_of_cons x xs) ∙ assoc x (all_of xs) w ∙ ap (union x) (under w xs (λ y m. h y (inr m))) ∙ h x (inl refl)

same_union : (xs ys : List Fittings) → ((x : Fittings) → Mem x xs → Mem x ys) → ((x : Fittings) → Mem x ys → Mem x xs) → all_of xs ≡ all_of ys
same_union xs ys to from =
    sym (under (all_of xs) ys (λ y m. absorbed y xs (from y m))) ∙ turned (all_of ys) (all_of xs) ∙ under (all_of ys) xs (λ x m. absorbed x ys (to x m))

-- the fittings of some runs are the union of theirs
abbrev sets : Run → Fittings
sets r = set_of r.fittings

fittings_from : (a : ℕ) (rs : List Run) → fold (λ f r. bit_or f r.fittings) a rs ≡ (fold union (set_of a) (map sets rs)).0
fittings_from a [] = refl
fittings_from a (r ∷ rs) = fittings_from (bit_or a r.fittings) rs

-- ---- the stops of a timetable, by their vault and minute
abbrev pub stop_of : (vault minute : Run → ℕ) → Run → ℕ × Fittings
stop_of vault minute r = (stop_key (vault r) (minute r) r.number, set_of r.fittings)

-- is the stop of r in the vault v, from t1 to t2
abbrev picked : (vault minute : Run → ℕ) (v t1 t2 : ℕ) → Run → Bool
picked vault minute v t1 t2 r = eqb (vault r) v && (leb t1 (minute r) && leb (minute r) t2)

module _ (vault minute : Run → ℕ) where
  in_minutes : (v t1 t2 : ℕ) → t2 < 2 ^ 32 → (r : Run) → Fit (minute r) r.number → in_stretch (stops_in v t1 t2) (stop_key (vault r) (minute r) r.number) ≡ (eqb (vault r) v && (leb t1 (minute r) && leb (minute r) t2))
  in_minutes v t1 t2 fits r f = same_tests _ _ to from
    where
      k : ℕ
      k = stop_key (vault r) (minute r) r.number

      to : in_stretch (stops_in v t1 t2) k ≡ true → (eqb (vault r) v && (leb t1 (minute r) && leb (minute r) t2)) ≡ true
      to h =
          let w = (stretches_hold.stops_in_lem v t1 t2 (vault r) (minute r) r.number fits f).0 (stretch_within (stops_in v t1 t2) k h) in
          and_from (eqb (vault r) v) (leb t1 (minute r) && leb (minute r) t2) (eq-eqb (vault r) v w.0) (and_from (leb t1 (minute r)) (leb (minute r) t2) (le-leb t1 (minute r) w.1) (le-leb (minute r) t2 w.2))

      from : (eqb (vault r) v && (leb t1 (minute r) && leb (minute r) t2)) ≡ true → in_stretch (stops_in v t1 t2) k ≡ true
      from h =
          let ps = and_parts (eqb (vault r) v) (leb t1 (minute r) && leb (minute r) t2) h in
          let qs = and_parts (leb t1 (minute r)) (leb (minute r) t2) ps.1 in
          within_stretch (stops_in v t1 t2) k ((stretches_hold.stops_in_lem v t1 t2 (vault r) (minute r) r.number fits f).1 (eqb-true (vault r) v ps.0, leb-true t1 (minute r) qs.0, leb-true (minute r) t2 qs.1))

  module _ (T : List Run) (es : List (ℕ × Fittings)) (fit : All (λ r. Fit (minute r) r.number) T) (h : Lists (map (stop_of vault minute) T) es) (v t1 t2 : ℕ) (fits : t2 < 2 ^ 32) where
    abbrev found : List (ℕ × Fittings)
    found = between (stops_in v t1 t2).lo (stops_in v t1 t2).hi es

    abbrev chosen : List Run
    chosen = filter (picked vault minute v t1 t2) T

    abbrev in_it : ℕ × Fittings → Bool
    in_it e = in_stretch (stops_in v t1 t2) e.0

    to_runs : (x : Fittings) → Mem x (values found) → Mem x (map sets chosen)
    to_runs x m =
        let e = mem_map (λ (e : ℕ × Fittings). e.1) found x m in
        let among = mem_kept in_it es e.0 e.1 in
        let r = mem_map (stop_of vault minute) T e.0 (has_mem _ e.0 (h.only e.0 (mem_has es e.0 among))) in
        let f = all_mem (λ r. Fit (minute r) r.number) T r.0 fit r.1 in
        let inside : in_it (stop_of vault minute r.0) ≡ true = subst (λ y. in_it y ≡ true) (sym r.2) (kept_passes in_it es e.0 e.1) in
        let there = kept_mem (picked vault minute v t1 t2) T r.0 r.1 (sym (in_minutes v t1 t2 fits r.0 f) ∙ inside) in
        subst (λ y. Mem y (map sets chosen)) (ap (λ (y : ℕ × Fittings). y.1) r.2 ∙ e.2) (map_mem sets chosen r.0 there)

    to_entries : (x : Fittings) → Mem x (map sets chosen) → Mem x (values found)
    to_entries x m =
        let r = mem_map sets chosen x m in
        let among = mem_kept (picked vault minute v t1 t2) T r.0 r.1 in
        let f = all_mem (λ r. Fit (minute r) r.number) T r.0 fit among in
        let e : ℕ × Fittings = stop_of vault minute r.0 in
        let listed = has_mem es e (h.all e (mem_has _ e (map_mem (stop_of vault minute) T r.0 among))) in
        let there = kept_mem in_it es e listed (in_minutes v t1 t2 fits r.0 f ∙ kept_passes (picked vault minute v t1 t2) T r.0 r.1) in
        subst (λ y. Mem y (values found)) r.2 (map_mem (λ (e : ℕ × Fittings). e.1) found e there)

    fittings_read_lem : fittings_read es v t1 t2 ≡ fittings_of chosen
    fittings_read_lem = ap (λ (x : Fittings). x.0) (same_union (values found) (map sets chosen) to_runs to_entries) ∙ sym (fittings_from 0 chosen)

pub fittings_are_read : FittingsAreRead
fittings_are_read = record {
  leaving = λ T es keyed h v t1 t2 fits. fittings_read_lem (λ r. r.from) (λ r. r.start) T es (All-weaker KeyFits (λ r. Fit r.start r.number) (λ r f. (f.start, f.number)) T keyed.fit) h v t1 t2 fits;
  coming = λ T es keyed h v t1 t2 fits. fittings_read_lem (λ r. r.to) arrival_minute T es (All-weaker KeyFits (λ r. Fit (arrival_minute r) r.number) (λ r f. (f.arrival, f.number)) T keyed.fit) h v t1 t2 fits;
}
