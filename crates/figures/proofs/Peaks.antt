-- The need, its critical minute and the levels, read off the events of a timetable.
use Rattle.std.proofs.Common.{◌≡◌, ℕ, zero, suc, ◌+◌, ◌-◌, ◌*◌, ◌^◌, ◌<◌, ◌≤◌, Bool, true, false, cond, not, ◌&&◌, eqb, ltb, leb, ◌⊎◌, List, [], ◌∷◌, map, length, get_or, take, pos, negsuc, ◌-ℤ◌, ◌≤ℤ◌, ◌<ℤ◌, Some, None, sum_by, count_by, filter, Option, sym, refl, ap, ◌∙◌, subst, inl, inr, arith}
use Rattle.std.specs.List.{ContainsAt as Has, AllByRecursion as All, slice_get}
use Rattle.std.proofs.lemmas.List.Sums.{sum_by-cons, length-filter, count_by-le-length}
use Rattle.std.proofs.lemmas.List.{take-map, length-map, get_or_default}
use Rattle.std.proofs.ByRecursion.{All-weaker, all_kept_by, all-has, kept_by_passes}
use Rattle.std.proofs.lemmas.Int.{ints}
use Rattle.std.proofs.lemmas.Bool.{cases_lt, cases_Bool, and_parts, and_from, ltb-true, leb-true, eqb-true, lt-ltb, le-leb, eq-eqb, ne_eqb, both_ways, not-true, cond-true, cond-false}
use Rattle.std.proofs.lemmas.Bool.Decides.{nat_tests}
use Rattle.monoid.specs.declared.summary.DeficitSummary.{DeficitSummary}
use Rattle.monoid.specs.Steps.{Step, departs, arrives, rise, of_step, SumsUp}
use Rattle.monoid.specs.Steps.{level as level_of}
use Rattle.monoid.specs.Folds.{total}
use Rattle.monoid.specs.Deficits.{none, join}
use Rattle.monoid.proofs.Steps.{steps_summed}
use Rattle.book.specs.Entries.{count_below, between, values}
use Rattle.book.proofs.Order.{Strict, strict}
use Rattle.run.specs.declared.Run.{Run}
use Rattle.run.specs.declared.stretch.Stretch.{Stretch}
use Rattle.run.specs.Minutes.{arrival_minute}
use Rattle.run.specs.Keys.{kind_bit, event_key, event_departs, event_minute, departure_event, arrival_event}
use Rattle.run.specs.Stretches.{events_of, events_to, Within}
use Rattle.run.specs.Laws.{Fit}
use Rattle.run.proofs.Packing.{stretches_hold, keys_read_back}
use Rattle.timetable.specs.Levels.{departs_by, arrives_by, level, Critical, MinuteOf, NeedAnswer}
use Rattle.timetable.specs.Levels.{departures as departures_by, arrivals as arrivals_by}
use Rattle.timetable.proofs.Ranks.{one, imp, sum_le, count_le}
use Rattle.timetable.proofs.Members.{has_mem, mem_has, mem_all}
use Rattle.timetable.proofs.Queues.{count_kept}
use Rattle.figures.specs.Listed.{events, departure_event_entry, arrival_event_entry, ListsEvents, KeyFits, Keyed}
use Rattle.figures.specs.Reading.{summary_in, entry_of, minute_of, need_read, level_read}
use Rattle.figures.specs.Laws.{NeedIsRead, LevelIsRead}
use Rattle.figures.proofs.Rising.{strict_kept, take_below, place_is, place_next, nth_of, below_split}
use Rattle.figures.proofs.Kept.{same_tests, in_stretch, stretch_within, within_stretch, mem_kept}
use Rattle.figures.proofs.Same.{ones, twos, sum_eq, listed_sums, sum_events, lone_events}

abbrev Event : Type 0
Event = ℕ × DeficitSummary

-- ---- numbers
kind_small : (d : Bool) → kind_bit d ≤ 1
kind_small true = omega arith
kind_small false = omega arith

-- in the vault v, the keys below that of minute t + 1 are those of the minutes up to t
up_to : (v t w m : ℕ) (d : Bool) (n : ℕ) → Fit m n → (in_stretch (events_of v) (event_key w m d n) && ltb (event_key w m d n) (event_key v (t + 1) false 0)) ≡ (eqb w v && leb m t)
up_to v t w m d n fit = same_tests _ _ to from
  where
    k : ℕ
    k = event_key w m d n

    to : (in_stretch (events_of v) k && ltb k (event_key v (t + 1) false 0)) ≡ true → (eqb w v && leb m t) ≡ true
    to h =
        let ps = and_parts (in_stretch (events_of v) k) (ltb k (event_key v (t + 1) false 0)) h in
        let e : w ≡ v = (stretches_hold.events_of_lem v w m d n fit).0 (stretch_within (events_of v) k ps.0) in
        let l = ltb-true k (event_key v (t + 1) false 0) ps.1 in
        and_from (eqb w v) (leb m t) (eq-eqb w v e) (le-leb m t (omega arith))

    from : (eqb w v && leb m t) ≡ true → (in_stretch (events_of v) k && ltb k (event_key v (t + 1) false 0)) ≡ true
    from h =
        let ps = and_parts (eqb w v) (leb m t) h in
        let e = eqb-true w v ps.0 in
        let l = leb-true m t ps.1 in
        let n_small = fit.1 in
        let in_v = within_stretch (events_of v) k ((stretches_hold.events_of_lem v w m d n fit).1 e) in
        and_from (in_stretch (events_of v) k) (ltb k (event_key v (t + 1) false 0)) in_v (lt-ltb k (event_key v (t + 1) false 0) (omega (arith, kind_small d)))

-- an arrival of a minute up to m stands below every departure of m
arrival_first : (v m n j i : ℕ) → i < 2 ^ 16 → j ≤ m → event_key v j false i < event_key v m true n
arrival_first v m n j i small l = omega arith

and_true : (x y z : Bool) → z ≡ true → (x && (y && z)) ≡ (x && y)
and_true true true z h = h
and_true true false z h = refl
and_true false y z h = refl

and_false : (x y z : Bool) → z ≡ false → (x && (y && z)) ≡ false
and_false true true z h = h
and_false true false z h = refl
and_false false y z h = refl

narrower : (lo c hi k : ℕ) (x : Bool) → c ≤ hi → ((leb lo k && ltb k c) && x) ≡ ((leb lo k && ltb k hi) && (ltb k c && x))
narrower lo c hi k x h = grind (arith, nat_tests)

within_of : (lo c hi k : ℕ) → c ≤ hi → (leb lo k && ltb k c) ≡ ((leb lo k && ltb k hi) && ltb k c)
within_of lo c hi k h = grind (arith, nat_tests)

raise : (x : Bool) (j c d : ℕ) (y : Bool) → c ≤ d → (x && (ltb j c && y)) ≡ true → (x && (ltb j d && y)) ≡ true
raise x j c d y h w =
    let ps = and_parts x (ltb j c && y) w in
    let qs = and_parts (ltb j c) y ps.1 in
    let l = ltb-true j c qs.0 in
    and_from x (ltb j d && y) ps.0 (and_from (ltb j d) y (lt-ltb j d (omega arith)) qs.1)

-- ---- events as steps
abbrev leaves : Event → Bool
leaves e = event_departs e.0

abbrev comes : Event → Bool
comes e = not (event_departs e.0)

abbrev step_of : Event → Step
step_of e = cond (leaves e) departs arrives

-- what the entry of an event is
record Told (e : Event) : Type 0 where
  vault : ℕ
  minute : ℕ
  kind : Bool
  number : ℕ
  fit : Fit minute number
  key : e.0 ≡ event_key vault minute kind number
  value : e.1 ≡ of_step (cond kind departs arrives)

abbrev told_departure : (r : Run) → KeyFits r → Told (departure_event_entry r)
told_departure r h = record { vault = r.from; minute = r.start; kind = true; number = r.number; fit = (h.start, h.number); key = refl; value = refl }

abbrev told_arrival : (r : Run) → KeyFits r → Told (arrival_event_entry r)
told_arrival r h = record { vault = r.to; minute = arrival_minute r; kind = false; number = r.number; fit = (h.arrival, h.number); key = refl; value = refl }

all_told : (T : List Run) → All KeyFits T → All Told (events T)
all_told [] h = tt
all_told (r ∷ T) h = (told_departure r h.0, (told_arrival r h.0, all_told T h.1))

told_kind : (e : Event) (t : Told e) → leaves e ≡ t.kind
told_kind e t = ap event_departs t.key ∙ keys_read_back.event_departs_lem t.vault t.minute t.kind t.number t.fit

told_minute : (e : Event) (t : Told e) → event_minute e.0 ≡ t.minute
told_minute e t = ap event_minute t.key ∙ keys_read_back.event_minute_lem t.vault t.minute t.kind t.number t.fit

told_value : (e : Event) → Told e → e.1 ≡ of_step (step_of e)
told_value e t = t.value ∙ ap (λ d. of_step (cond d departs arrives)) (sym (told_kind e t))

values_steps : (xs : List Event) → All Told xs → values xs ≡ map of_step (map step_of xs)
values_steps [] h = refl
values_steps (e ∷ xs) h = λ i. told_value e h.0 i ∷ values_steps xs h.1 i

level_steps : (xs : List Event) → level_of (map step_of xs) ≡ pos (count_by leaves xs) -ℤ pos (count_by comes xs)
level_steps [] = refl
level_steps (e ∷ xs) = by (leaves e) refl (level_steps xs)
  where
    L : count_by leaves (e ∷ xs) ≡ one (leaves e) + count_by leaves xs
    L = sum_by-cons (λ x. one (leaves x)) e xs

    C : count_by comes (e ∷ xs) ≡ one (comes e) + count_by comes xs
    C = sum_by-cons (λ x. one (comes x)) e xs

    by : (b : Bool) → leaves e ≡ b → level_of (map step_of xs) ≡ pos (count_by leaves xs) -ℤ pos (count_by comes xs) → level_of (map step_of (e ∷ xs)) ≡ pos (count_by leaves (e ∷ xs)) -ℤ pos (count_by comes (e ∷ xs))
    by true q ih =
        let r : rise (step_of e) ≡ pos 1 = ap (λ b. rise (cond b departs arrives)) q in
        let l : one (leaves e) ≡ 1 = ap one q in
        let c : one (comes e) ≡ 0 = ap (λ b. one (not b)) q in
        omega (arith, ints, L, C)
    by false q ih =
        let r : rise (step_of e) ≡ negsuc 0 = ap (λ b. rise (cond b departs arrives)) q in
        let l : one (leaves e) ≡ 0 = ap one q in
        let c : one (comes e) ≡ 1 = ap (λ b. one (not b)) q in
        omega (arith, ints, L, C)

module _ (T : List Run) (es : List Event) (keyed : Keyed T) (few : 2 * length T ≤ 65535) (h : ListsEvents T es) where
  up : Strict es
  up = strict es h.rising

  told : (e : Event) → Has es e → Told e
  told e m = all-has Told (events T) e (all_told T keyed.fit) (h.only e m)

  es_told : All Told es
  es_told = mem_all Told es (λ e m. told e (mem_has es e m))

  -- a count over the entries, by runs
  counted : (p : Event → Bool) → count_by p es ≡ sum_by (λ r. one (p (departure_event_entry r)) + one (p (arrival_event_entry r))) T
  counted p = listed_sums (events T) es (lone_events T keyed) h (λ e. one (p e)) ∙ sum_events (λ e. one (p e)) T

  es_short : length es ≤ 65535
  es_short = omega (arith, few, ones es, listed_sums (events T) es (lone_events T keyed) h (λ _. 1), sum_events (λ _. 1) T, twos T)

  -- the fold of a stretch is that of its steps
  sums_up : (s : Stretch) → SumsUp (map step_of (between s.lo s.hi es)) (summary_in s es)
  sums_up s =
      let b = between s.lo s.hi es in
      let p : Event → Bool = λ e. in_stretch s e.0 in
      let short : length (map step_of b) ≤ 65535 = omega (arith, es_short, length-map b step_of, length-filter p es, count_by-le-length p es) in
      let same = values_steps b (all_kept_by p Told es es_told) in
      subst (λ vs. SumsUp (map step_of b) (total none join vs)) (sym same) (steps_summed (map step_of b) short)

  module _ (v : ℕ) where
    -- the events of v, in key order
    abbrev mine : List Event
    mine = between (events_of v).lo (events_of v).hi es

    abbrev D : ℕ → ℕ
    D c = count_by (λ e. in_stretch (events_of v) e.0 && (ltb e.0 c && leaves e)) es

    abbrev A : ℕ → ℕ
    A c = count_by (λ e. in_stretch (events_of v) e.0 && (ltb e.0 c && comes e)) es

    up_mine : Strict mine
    up_mine = strict_kept (λ e. in_stretch (events_of v) e.0) es up

    -- the level after the events below a key
    level_below : (c : ℕ) → level_of (take (count_below c mine) (map step_of mine)) ≡ pos (D c) -ℤ pos (A c)
    level_below c =
        let below : Event → Bool = λ e. ltb e.0 c in
        let k = count_below c mine in
        let front : take k (map step_of mine) ≡ map step_of (filter below mine) = take-map step_of k mine ∙ ap (map step_of) (take_below c mine up_mine) in
        let d : count_by leaves (filter below mine) ≡ D c = count_kept below leaves mine ∙ count_kept (λ e. in_stretch (events_of v) e.0) (λ e. below e && leaves e) es in
        let a : count_by comes (filter below mine) ≡ A c = count_kept below comes mine ∙ count_kept (λ e. in_stretch (events_of v) e.0) (λ e. below e && comes e) es in
        ap level_of front ∙ level_steps (filter below mine) ∙ (λ i. pos (d i) -ℤ pos (a i))

    -- the first key after minute t
    abbrev after : ℕ → ℕ
    after t = event_key v (t + 1) false 0

    departures_are : (t : ℕ) → D (after t) ≡ departures_by T v t
    departures_are t =
        counted (λ e. in_stretch (events_of v) e.0 && (ltb e.0 (after t) && leaves e))
        ∙ sum_eq (λ r. one (in_stretch (events_of v) (departure_event r) && (ltb (departure_event r) (after t) && leaves (departure_event_entry r))) + one (in_stretch (events_of v) (arrival_event r) && (ltb (arrival_event r) (after t) && leaves (arrival_event_entry r)))) (λ r. one (departs_by v t r)) T
        (All-weaker KeyFits (λ r. one (in_stretch (events_of v) (departure_event r) && (ltb (departure_event r) (after t) && leaves (departure_event_entry r))) + one (in_stretch (events_of v) (arrival_event r) && (ltb (arrival_event r) (after t) && leaves (arrival_event_entry r))) ≡ one (departs_by v t r)) each T keyed.fit)
      where
        each : (r : Run) → KeyFits r → one (in_stretch (events_of v) (departure_event r) && (ltb (departure_event r) (after t) && leaves (departure_event_entry r))) + one (in_stretch (events_of v) (arrival_event r) && (ltb (arrival_event r) (after t) && leaves (arrival_event_entry r))) ≡ one (departs_by v t r)
        each r f =
            let x = told_kind (departure_event_entry r) (told_departure r f) in
            let y = told_kind (arrival_event_entry r) (told_arrival r f) in
            let a = ap one (and_true (in_stretch (events_of v) (departure_event r)) (ltb (departure_event r) (after t)) (leaves (departure_event_entry r)) x ∙ up_to v t r.from r.start true r.number (f.start, f.number)) in
            let b = ap one (and_false (in_stretch (events_of v) (arrival_event r)) (ltb (arrival_event r) (after t)) (leaves (arrival_event_entry r)) y) in
            omega (arith, a, b)

    arrivals_are : (t : ℕ) → A (after t) ≡ arrivals_by T v t
    arrivals_are t =
        counted (λ e. in_stretch (events_of v) e.0 && (ltb e.0 (after t) && comes e))
        ∙ sum_eq (λ r. one (in_stretch (events_of v) (departure_event r) && (ltb (departure_event r) (after t) && comes (departure_event_entry r))) + one (in_stretch (events_of v) (arrival_event r) && (ltb (arrival_event r) (after t) && comes (arrival_event_entry r)))) (λ r. one (arrives_by v t r)) T
        (All-weaker KeyFits (λ r. one (in_stretch (events_of v) (departure_event r) && (ltb (departure_event r) (after t) && comes (departure_event_entry r))) + one (in_stretch (events_of v) (arrival_event r) && (ltb (arrival_event r) (after t) && comes (arrival_event_entry r))) ≡ one (arrives_by v t r)) each T keyed.fit)
      where
        each : (r : Run) → KeyFits r → one (in_stretch (events_of v) (departure_event r) && (ltb (departure_event r) (after t) && comes (departure_event_entry r))) + one (in_stretch (events_of v) (arrival_event r) && (ltb (arrival_event r) (after t) && comes (arrival_event_entry r))) ≡ one (arrives_by v t r)
        each r f =
            let x = ap not (told_kind (departure_event_entry r) (told_departure r f)) in
            let y = ap not (told_kind (arrival_event_entry r) (told_arrival r f)) in
            let a = ap one (and_false (in_stretch (events_of v) (departure_event r)) (ltb (departure_event r) (after t)) (comes (departure_event_entry r)) x) in
            let b = ap one (and_true (in_stretch (events_of v) (arrival_event r)) (ltb (arrival_event r) (after t)) (comes (arrival_event_entry r)) y ∙ up_to v t r.to (arrival_minute r) false r.number (f.arrival, f.number)) in
            omega (arith, a, b)

    -- so after the events up to t it is the level at t
    level_then : (t : ℕ) → level_of (take (count_below (after t) mine) (map step_of mine)) ≡ level T v t
    level_then t = level_below (after t) ∙ (λ i. pos (departures_are t i) -ℤ pos (arrivals_are t i))

    level_read_lem : (t : ℕ) → t < 2 ^ 32 → level_read es v t ≡ level T v t
    level_read_lem t fits = (sums_up (events_to v t)).sum ∙ level_steps (between (events_to v t).lo (events_to v t).hi es) ∙ (λ i. pos (d i) -ℤ pos (a i))
      where
        part : (k : ℕ) (x : Bool) → (in_stretch (events_to v t) k && x) ≡ (in_stretch (events_of v) k && (ltb k (after t) && x))
        part k x = narrower (events_of v).lo (after t) (events_of v).hi k x (omega arith)

        d : count_by leaves (between (events_to v t).lo (events_to v t).hi es) ≡ departures_by T v t
        d =
            count_kept (λ e. in_stretch (events_to v t) e.0) leaves es
            ∙ ap (λ p. count_by p es) (λ i e. part e.0 (leaves e) i)
            ∙ departures_are t

        a : count_by comes (between (events_to v t).lo (events_to v t).hi es) ≡ arrivals_by T v t
        a =
            count_kept (λ e. in_stretch (events_to v t) e.0) comes es
            ∙ ap (λ p. count_by p es) (λ i e. part e.0 (comes e) i)
            ∙ arrivals_are t

    abbrev figure : DeficitSummary
    figure = summary_in (events_of v) es

    told_sums : SumsUp (map step_of mine) figure
    told_sums = sums_up (events_of v)

    -- no level is above the peak
    none_above : (t : ℕ) → level T v t ≤ℤ pos figure.peak
    none_above t =
        let k = count_below (after t) mine in
        let within : k ≤ length (map step_of mine) = omega (arith, length-map mine step_of, count_by-le-length (λ e. ltb e.0 (after t)) mine) in
        subst (λ z. z ≤ℤ pos figure.peak) (level_then t) (told_sums.highest k within)

    -- the event at the place
    module _ (k : ℕ) (place_k : figure.place ≡ suc k) where
      abbrev at_peak : Event
      at_peak = get_or mine k (0, none)

      k_within : k < length mine
      k_within = omega (arith, told_sums.within, length-map mine step_of, place_k)

      at_k : (d : Event) → get_or mine k d ≡ at_peak
      at_k d = get_or_default mine k d (0, none) k_within

      here : Has mine at_peak
      here = (k, k_within, at_k)

      in_es : Has es at_peak
      in_es = mem_has es at_peak (mem_kept (λ e. in_stretch (events_of v) e.0) es at_peak (has_mem mine at_peak here))

      is_mine : in_stretch (events_of v) at_peak.0 ≡ true
      is_mine = all-has (λ e. in_stretch (events_of v) e.0 ≡ true) mine at_peak (kept_by_passes (λ e. in_stretch (events_of v) e.0) es) here

      abbrev κ : ℕ
      κ = at_peak.0

      below_κ : count_below κ mine ≡ k
      below_κ = place_is mine up_mine k at_peak k_within at_k

      upto_κ : count_below (κ + 1) mine ≡ suc k
      upto_κ = place_next mine up_mine k at_peak k_within at_k

      before_it : (pos (D κ) -ℤ pos (A κ)) <ℤ pos figure.peak
      before_it =
          subst (λ z. z <ℤ pos figure.peak) (level_below κ)
          (told_sums.first (count_below κ mine) (omega (arith, below_κ, place_k)))

      with_it : pos (D (κ + 1)) -ℤ pos (A (κ + 1)) ≡ pos figure.peak
      with_it = sym (level_below (κ + 1)) ∙ ap (λ n. level_of (take n (map step_of mine))) (upto_κ ∙ sym place_k) ∙ told_sums.reached

      -- it is a departure, since the level rises there
      departs_then : leaves at_peak ≡ true
      departs_then = go (cases_Bool (leaves at_peak))
        where
          fewer : leaves at_peak ≡ false → D (κ + 1) ≤ D κ
          fewer q = count_le (λ e. in_stretch (events_of v) e.0 && (ltb e.0 (κ + 1) && leaves e)) (λ e. in_stretch (events_of v) e.0 && (ltb e.0 κ && leaves e)) (λ e. not_this e.0) es
            where
              not_this : (j : ℕ) → (in_stretch (events_of v) j && (ltb j (κ + 1) && event_departs j)) ≡ true → (in_stretch (events_of v) j && (ltb j κ && event_departs j)) ≡ true
              not_this j w =
                  let ps = and_parts (in_stretch (events_of v) j) (ltb j (κ + 1) && event_departs j) w in
                  let qs = and_parts (ltb j (κ + 1)) (event_departs j) ps.1 in
                  let l = ltb-true j (κ + 1) qs.0 in
                  let other : j ≡ κ → ⊥ = λ s. both_ways (event_departs κ) q (ap event_departs (sym s) ∙ qs.1) in
                  let less : j < κ = elim (cases_lt j κ) [ inl y ↦ y | inr z ↦ absurd (other (omega arith)) ] in
                  and_from (in_stretch (events_of v) j) (ltb j κ && event_departs j) ps.0 (and_from (ltb j κ) (event_departs j) (lt-ltb j κ less) qs.1)

          more : A κ ≤ A (κ + 1)
          more = count_le (λ e. in_stretch (events_of v) e.0 && (ltb e.0 κ && comes e)) (λ e. in_stretch (events_of v) e.0 && (ltb e.0 (κ + 1) && comes e)) (λ e. raise (in_stretch (events_of v) e.0) e.0 κ (κ + 1) (comes e) (omega arith)) es

          go : (leaves at_peak ≡ true) ⊎ (leaves at_peak ≡ false) → leaves at_peak ≡ true
          go (inl y) = y
          go (inr z) = absurd (omega (arith, ints, fewer z, more, before_it, with_it))

      its : Told at_peak
      its = told at_peak in_es

      abbrev m : ℕ
      m = its.minute

      kind_true : its.kind ≡ true
      kind_true = sym (told_kind at_peak its) ∙ departs_then

      vault_v : its.vault ≡ v
      vault_v =
          (stretches_hold.events_of_lem v its.vault m its.kind its.number its.fit).0 (subst (λ k. Within k (events_of v)) its.key (stretch_within (events_of v) κ is_mine))

      κ_is : κ ≡ event_key v m true its.number
      κ_is = its.key ∙ (λ i. event_key (vault_v i) m (kind_true i) its.number)

      -- what comes after it in its minute are departures
      at_m : level T v m ≡ pos figure.peak
      at_m =
          let n_small = its.fit.1 in
          let more_leave : D (κ + 1) ≤ D (after m) = count_le (λ e. in_stretch (events_of v) e.0 && (ltb e.0 (κ + 1) && leaves e)) (λ e. in_stretch (events_of v) e.0 && (ltb e.0 (after m) && leaves e)) (λ e. raise (in_stretch (events_of v) e.0) e.0 (κ + 1) (after m) (leaves e) (omega (arith, κ_is))) es in
          let none_come : A (after m) ≤ A (κ + 1) = sum_le (λ e. one (in_stretch (events_of v) e.0 && (ltb e.0 (after m) && comes e))) (λ e. one (in_stretch (events_of v) e.0 && (ltb e.0 (κ + 1) && comes e))) es (All-weaker Told (λ e. one (in_stretch (events_of v) e.0 && (ltb e.0 (after m) && comes e)) ≤ one (in_stretch (events_of v) e.0 && (ltb e.0 (κ + 1) && comes e))) (λ e t. imp (in_stretch (events_of v) e.0 && (ltb e.0 (after m) && comes e)) (in_stretch (events_of v) e.0 && (ltb e.0 (κ + 1) && comes e)) (come_before e t)) es es_told) in
          let top = none_above m in
          omega (arith, ints, departures_are m, arrivals_are m, with_it)
        where
          come_before : (e : Event) → Told e → (in_stretch (events_of v) e.0 && (ltb e.0 (after m) && comes e)) ≡ true → (in_stretch (events_of v) e.0 && (ltb e.0 (κ + 1) && comes e)) ≡ true
          come_before e t w =
              let ps = and_parts (in_stretch (events_of v) e.0) (ltb e.0 (after m) && comes e) w in
              let qs = and_parts (ltb e.0 (after m)) (comes e) ps.1 in
              let kind_false : t.kind ≡ false = sym (told_kind e t) ∙ not-true (leaves e) qs.1 in
              let both : (eqb t.vault v && leb t.minute m) ≡ true =
              sym (up_to v m t.vault t.minute t.kind t.number t.fit) ∙ subst (λ j. (in_stretch (events_of v) j && ltb j (after m)) ≡ true) t.key (and_from (in_stretch (events_of v) e.0) (ltb e.0 (after m)) ps.0 qs.0) in
              let rs = and_parts (eqb t.vault v) (leb t.minute m) both in
              let e_is : e.0 ≡ event_key v t.minute false t.number = t.key ∙ (λ i. event_key (eqb-true t.vault v rs.0 i) t.minute (kind_false i) t.number) in
              let first_come = arrival_first v m its.number t.minute t.number t.fit.1 (leb-true t.minute m rs.1) in
              and_from (in_stretch (events_of v) e.0) (ltb e.0 (κ + 1) && comes e) ps.0 (and_from (ltb e.0 (κ + 1)) (comes e) (lt-ltb e.0 (κ + 1) (omega (arith, e_is, κ_is))) qs.1)

      critical : Critical T v figure.peak m
      critical = record { equals = at_m; first = earlier }
        where
          earlier : (t : ℕ) → t < m → level T v t ≡ pos figure.peak → ⊥
          earlier t l e =
              let fewer : count_below (after t) mine ≤ count_below κ mine = count_le (λ x. ltb x.0 (after t)) (λ x. ltb x.0 κ) (λ x w. lt-ltb x.0 κ (omega (arith, ltb-true x.0 (after t) w, κ_is))) mine in
              let under = told_sums.first (count_below (after t) mine) (omega (arith, below_κ, place_k)) in
              omega (arith, ints, level_then t)

      entry_is : entry_of (events_of v) (figure.place - 1) es ≡ Some at_peak
      entry_is =
          let w = stretch_within (events_of v) κ is_mine in
          let lo = w.0 in
          let hi = w.1 in
          let same : count_by (λ e. leb (events_of v).lo e.0 && ltb e.0 κ) es ≡ count_by (λ e. in_stretch (events_of v) e.0 && ltb e.0 κ) es = ap (λ p. count_by p es) (λ i e. within_of (events_of v).lo κ (events_of v).hi e.0 (omega arith) i) in
          let counts = count_kept (λ e. in_stretch (events_of v) e.0) (λ e. ltb e.0 κ) es in
          let place : count_below (events_of v).lo es + (figure.place - 1) ≡ count_below κ es = omega (arith, below_split (events_of v).lo κ es lo, same, counts, below_κ, place_k) in
          ap (slice_get es) place ∙ nth_of es up at_peak in_es

    answer : NeedAnswer T v (need_read es v)
    answer = by figure.place refl
      where
        P : Option ℕ → Type 0
        P o = MinuteOf T v figure.peak o

        by : (p : ℕ) → figure.place ≡ p → NeedAnswer T v (need_read es v)
        by zero e =
            let z : pos 0 ≡ pos figure.peak = ap (λ n. level_of (take n (map step_of mine))) (sym e) ∙ told_sums.reached in
            let zero_peak : figure.peak ≡ 0 = omega (arith, ints, z) in
            record {
              figure = record { none_above = none_above; reached = inl zero_peak };
              minute = subst P (sym (cond-true (eqb figure.peak 0) None (minute_of (entry_of (events_of v) (figure.place - 1) es)) (eq-eqb figure.peak 0 zero_peak))) zero_peak;
            }
        by (suc k) e =
            let low = told_sums.first 0 (omega (arith, e)) in
            let high : 0 < figure.peak = omega (arith, ints, low) in
            let told_m : minute_of (entry_of (events_of v) (figure.place - 1) es) ≡ Some (m k e) = ap minute_of (entry_is k e) ∙ ap Some (told_minute (at_peak k e) (its k e)) in
            record {
              figure = record { none_above = none_above; reached = inr (m k e, at_m k e) };
              minute = subst P (sym (cond-false (eqb figure.peak 0) None (minute_of (entry_of (events_of v) (figure.place - 1) es)) (ne_eqb figure.peak 0 (λ z. omega arith)) ∙ told_m)) (high, critical k e);
            }

pub need_is_read : NeedIsRead
need_is_read T es keyed few h v = answer T es keyed few h v

pub level_is_read : LevelIsRead
level_is_read T es keyed few h v t fits = level_read_lem T es keyed few h v t fits
