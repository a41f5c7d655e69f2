-- The entries follow a timetable as a run is added or taken out.
use Rattle.std.proofs.Common.{◌≡◌, ℕ, true, false, eqb, ◌⊎◌, List, [], ◌∷◌, map, Some, sym, refl, ap, ◌∙◌, subst, inl, inr, arith}
use Rattle.std.specs.List.{ContainsAt as Has}
use Rattle.std.proofs.lemmas.List.Sums.{sum_by-cons}
use Rattle.std.proofs.lemmas.List.{length-map}
use Rattle.std.proofs.lemmas.Bool.{cases_Bool, or_cases, eq-eqb, eqb-true, false≢true}
use Rattle.monoid.specs.declared.summary.DeficitSummary.{DeficitSummary}
use Rattle.monoid.specs.declared.fittings.Fittings.{Fittings}
use Rattle.monoid.specs.Steps.{departs, arrives, of_step}
use Rattle.book.specs.Entries.{held, value_of, inserted, removed}
use Rattle.book.proofs.Order.{strict}
use Rattle.book.proofs.Edits.{inserted_ascends, has_inserted, removed_ascends, has_removed}
use Rattle.book.proofs.Slots.{value_at}
use Rattle.run.specs.declared.Run.{Run}
use Rattle.run.specs.Keys.{departure_event, arrival_event}
use Rattle.timetable.proofs.Ranks.{one}
use Rattle.timetable.proofs.Members.{Mem, has_mem, mem_has, mem_le}
use Rattle.figures.specs.Listed.{events, departure_event_entry, arrival_event_entry, departure_entry, arrival_entry, Lists, ListsEvents, Keyed}
use Rattle.figures.specs.Follows.{with_departure, EventsAdded, EventsTaken, EventsFollow, StopsFollow, BooksFollow}
use Rattle.figures.proofs.Same.{Lone, ones, twos, listed_sums, sum_events, lone_events, lone_departures, lone_arrivals}
use Rattle.figures.proofs.Kept.{map_mem, mem_map}

module _ {V : Type 0} where
  -- an entry has a held key
  held_has : (k : ℕ) (es : List (ℕ × V)) → held k es ≡ true → (e : ℕ × V) × Mem e es × (e.0 ≡ k)
  held_has k [] h = absurd (false≢true h)
  held_has k (e ∷ es) h = go (or_cases (eqb e.0 k) (held k es) h) (held_has k es)
    where
      go : (eqb e.0 k ≡ true) ⊎ (held k es ≡ true) → (held k es ≡ true → (x : ℕ × V) × Mem x es × (x.0 ≡ k)) → (x : ℕ × V) × Mem x (e ∷ es) × (x.0 ≡ k)
      go (inl t) ih = (e, inl refl, eqb-true e.0 k t)
      go (inr t) ih = let f = ih t in (f.0, inr f.1, f.2)

  -- what is listed may be in any order
  lists_same : (xs ys es : List (ℕ × V)) → ((e : ℕ × V) → Mem e xs → Mem e ys) → ((e : ℕ × V) → Mem e ys → Mem e xs) → Lists xs es → Lists ys es
  lists_same xs ys es to from h = record { rising = h.rising; all = λ e m. h.all e (mem_has xs e (from e (has_mem ys e m))); only = λ e m. mem_has ys e (to e (has_mem xs e (h.only e m))) }

  -- another entry has another key
  other_key : (k : ℕ) (v : V) (xs : List (ℕ × V)) → Lone (λ e. e.0) ((k, v) ∷ xs) → (e : ℕ × V) → Mem e xs → e.0 ≡ k → ⊥
  other_key k v xs lone e m q =
      let o : one (eqb k k) ≡ 1 = ap one (eq-eqb k k refl) in
      let p : one (eqb e.0 k) ≡ 1 = ap one (eq-eqb e.0 k q) in
      omega (arith, lone k, sum_by-cons (λ (x : ℕ × V). one (eqb x.0 k)) (k, v) xs, mem_le (λ (x : ℕ × V). one (eqb x.0 k)) xs e m)

  module _ (k : ℕ) (v : V) (xs es : List (ℕ × V)) (lone : Lone (λ (e : ℕ × V). e.0) ((k, v) ∷ xs)) where
    free_of : Lists xs es → held k es ≡ false
    free_of h = go (cases_Bool (held k es))
      where
        go : (held k es ≡ true) ⊎ (held k es ≡ false) → held k es ≡ false
        go (inl t) =
            let f = held_has k es t in
            absurd (other_key k v xs lone f.0 (has_mem xs f.0 (h.only f.0 (mem_has es f.0 f.1))) f.2)
        go (inr t) = t

    one_more : Lists xs es → Lists ((k, v) ∷ xs) (inserted k v es)
    one_more h = record { rising = inserted_ascends k v es h.rising (free_of h); all = all; only = only }
      where
        all : (e : ℕ × V) → Has ((k, v) ∷ xs) e → Has (inserted k v es) e
        all e m = (has_inserted k v es e).1 (go (has_mem ((k, v) ∷ xs) e m))
          where
            go : Mem e ((k, v) ∷ xs) → ((k, v) ≡ e) ⊎ Has es e
            go (inl q) = inl q
            go (inr n) = inr (h.all e (mem_has xs e n))

        only : (e : ℕ × V) → Has (inserted k v es) e → Has ((k, v) ∷ xs) e
        only e m = mem_has ((k, v) ∷ xs) e (go ((has_inserted k v es e).0 m))
          where
            go : ((k, v) ≡ e) ⊎ Has es e → Mem e ((k, v) ∷ xs)
            go (inl q) = inl q
            go (inr n) = inr (has_mem xs e (h.only e n))

    value_there : Lists ((k, v) ∷ xs) es → value_of k es ≡ Some v
    value_there h =
        let m = h.all (k, v) (mem_has ((k, v) ∷ xs) (k, v) (inl refl)) in
        let at = m.2 (k, v) in
        value_at k es m.0 (k, v) (strict es h.rising) m.1 (ap (λ (e : ℕ × V). e.0) at) ∙ ap (λ (e : ℕ × V). Some e.1) at

    one_less : Lists ((k, v) ∷ xs) es → Lists xs (removed k es)
    one_less h = record { rising = removed_ascends k es h.rising; all = all; only = only }
      where
        all : (e : ℕ × V) → Has xs e → Has (removed k es) e
        all e m = (has_removed k es e h.rising).1 (h.all e (mem_has ((k, v) ∷ xs) e (inr (has_mem xs e m))), other_key k v xs lone e (has_mem xs e m))

        only : (e : ℕ × V) → Has (removed k es) e → Has xs e
        only e m = let r = (has_removed k es e h.rising).0 m in go (has_mem ((k, v) ∷ xs) e (h.only e r.0)) r.1
          where
            go : Mem e ((k, v) ∷ xs) → (e.0 ≡ k → ⊥) → Has xs e
            go (inl q) other = absurd (other (ap (λ (x : ℕ × V). x.0) (sym q)))
            go (inr n) other = mem_has xs e n

  nothing : Lists {V = V} [] []
  nothing = record { rising = refl; all = λ e m. m; only = λ e m. m }

  lone_less : (x : ℕ × V) (xs : List (ℕ × V)) → Lone (λ e. e.0) (x ∷ xs) → Lone (λ e. e.0) xs
  lone_less x xs lone k = omega (arith, lone k, sum_by-cons (λ (e : ℕ × V). one (eqb e.0 k)) x xs)

  -- the second without the first
  lone_second : (x y : ℕ × V) (xs : List (ℕ × V)) → Lone (λ e. e.0) (x ∷ y ∷ xs) → Lone (λ e. e.0) (x ∷ xs)
  lone_second x y xs lone k = omega (arith, lone k, sum_by-cons (λ (e : ℕ × V). one (eqb e.0 k)) x (y ∷ xs), sum_by-cons (λ (e : ℕ × V). one (eqb e.0 k)) y xs, sum_by-cons (λ (e : ℕ × V). one (eqb e.0 k)) x xs)

  lone_swap : (x y : ℕ × V) (xs : List (ℕ × V)) → Lone (λ e. e.0) (x ∷ y ∷ xs) → Lone (λ e. e.0) (y ∷ x ∷ xs)
  lone_swap x y xs lone k = omega (arith, lone k, sum_by-cons (λ (e : ℕ × V). one (eqb e.0 k)) x (y ∷ xs), sum_by-cons (λ (e : ℕ × V). one (eqb e.0 k)) y xs, sum_by-cons (λ (e : ℕ × V). one (eqb e.0 k)) y (x ∷ xs), sum_by-cons (λ (e : ℕ × V). one (eqb e.0 k)) x xs)

  mem_swap : (x y : ℕ × V) (xs : List (ℕ × V)) (e : ℕ × V) → Mem e (x ∷ y ∷ xs) → Mem e (y ∷ x ∷ xs)
  mem_swap x y xs e (inl q) = inr (inl q)
  mem_swap x y xs e (inr (inl q)) = inl q
  mem_swap x y xs e (inr (inr m)) = inr (inr m)

-- ---- events
event_run : (T : List Run) (e : ℕ × DeficitSummary) → Mem e (events T) → (r : Run) × Mem r T × ((departure_event_entry r ≡ e) ⊎ (arrival_event_entry r ≡ e))
event_run [] e m = absurd m
event_run (r ∷ T) e (inl q) = (r, inl refl, inl q)
event_run (r ∷ T) e (inr (inl q)) = (r, inl refl, inr q)
event_run (r ∷ T) e (inr (inr m)) = let f = event_run T e m in (f.0, inr f.1, f.2)

run_departs : (T : List Run) (r : Run) → Mem r T → Mem (departure_event_entry r) (events T)
run_departs [] r m = absurd m
run_departs (s ∷ T) r (inl q) = inl (ap departure_event_entry q)
run_departs (s ∷ T) r (inr m) = inr (inr (run_departs T r m))

run_arrives : (T : List Run) (r : Run) → Mem r T → Mem (arrival_event_entry r) (events T)
run_arrives [] r m = absurd m
run_arrives (s ∷ T) r (inl q) = inr (inl (ap arrival_event_entry q))
run_arrives (s ∷ T) r (inr m) = inr (inr (run_arrives T r m))

same_events : (T U : List Run) → ((r : Run) → Mem r T → Mem r U) → (e : ℕ × DeficitSummary) → Mem e (events T) → Mem e (events U)
same_events T U to e m = let f = event_run T e m in go f.0 (to f.0 f.1) f.2
  where
    go : (r : Run) → Mem r U → (departure_event_entry r ≡ e) ⊎ (arrival_event_entry r ≡ e) → Mem e (events U)
    go r n (inl q) = subst (λ x. Mem x (events U)) q (run_departs U r n)
    go r n (inr q) = subst (λ x. Mem x (events U)) q (run_arrives U r n)

same_entries : (entry : Run → ℕ × Fittings) (T U : List Run) → ((r : Run) → Mem r T → Mem r U) → (e : ℕ × Fittings) → Mem e (map entry T) → Mem e (map entry U)
same_entries entry T U to e m = let f = mem_map entry T e m in subst (λ x. Mem x (map entry U)) f.2 (map_mem entry U f.0 (to f.0 f.1))

same_mem : (T U : List Run) → ((r : Run) → Has T r → Has U r) → (r : Run) → Mem r T → Mem r U
same_mem T U to r m = has_mem U r (to r (mem_has T r m))

added : (T : List Run) (r : Run) (es : List (ℕ × DeficitSummary)) → Keyed (r ∷ T) → ListsEvents T es → EventsAdded T r es
added T r es keyed h =
    let lone = lone_events (r ∷ T) keyed in
    let first = lone_second (departure_event_entry r) (arrival_event_entry r) (events T) lone in
    let second = lone_swap (departure_event_entry r) (arrival_event_entry r) (events T) lone in
    let half = one_more (departure_event r) (of_step departs) (events T) es first h in
    record {
      departure_free = free_of (departure_event r) (of_step departs) (events T) es first h;
      arrival_free = free_of (arrival_event r) (of_step arrives) (departure_event_entry r ∷ events T) (with_departure r es) second half;
      listed = lists_same (arrival_event_entry r ∷ departure_event_entry r ∷ events T) (events (r ∷ T)) (inserted (arrival_event r) (of_step arrives) (with_departure r es)) (mem_swap (arrival_event_entry r) (departure_event_entry r) (events T)) (mem_swap (departure_event_entry r) (arrival_event_entry r) (events T)) (one_more (arrival_event r) (of_step arrives) (departure_event_entry r ∷ events T) (with_departure r es) second half);
    }

taken : (T : List Run) (r : Run) (es : List (ℕ × DeficitSummary)) → Keyed (r ∷ T) → ListsEvents (r ∷ T) es → EventsTaken T r es
taken T r es keyed h =
    let lone = lone_events (r ∷ T) keyed in
    let rest = lone_less (departure_event_entry r) (arrival_event_entry r ∷ events T) lone in
    let half = one_less (departure_event r) (of_step departs) (arrival_event_entry r ∷ events T) es lone h in
    record {
      departure_there = value_there (departure_event r) (of_step departs) (arrival_event_entry r ∷ events T) es lone h;
      arrival_there = value_there (arrival_event r) (of_step arrives) (events T) (removed (departure_event r) es) rest half;
      listed = one_less (arrival_event r) (of_step arrives) (events T) (removed (departure_event r) es) rest half;
    }

events_follow : EventsFollow
events_follow = record {
  none = nothing;
  same = λ T U es to h. lists_same (events T) (events U) es (same_events T U (same_mem T U (λ r. (to r).0))) (same_events U T (same_mem U T (λ r. (to r).1))) h;
  count = λ T es keyed h. omega (arith, ones es, listed_sums (events T) es (lone_events T keyed) h (λ _. 1), sum_events (λ _. 1) T, twos T);
  added = added;
  taken = taken;
}

-- ---- departures and arrivals
stops_follow : (entry : Run → ℕ × Fittings) → ((T : List Run) → Keyed T → Lone (λ (e : ℕ × Fittings). e.0) (map entry T)) → StopsFollow entry
stops_follow entry lone = record {
  none = nothing;
  same = λ T U es to h. lists_same (map entry T) (map entry U) es (same_entries entry T U (same_mem T U (λ r. (to r).0))) (same_entries entry U T (same_mem U T (λ r. (to r).1))) h;
  count = λ T es keyed h. omega (arith, ones es, listed_sums (map entry T) es (lone T keyed) h (λ _. 1), ones (map entry T), length-map T entry);
  added = λ T r es keyed h. record { free = free_of (entry r).0 (entry r).1 (map entry T) es (lone (r ∷ T) keyed) h; listed = one_more (entry r).0 (entry r).1 (map entry T) es (lone (r ∷ T) keyed) h };
  taken = λ T r es keyed h. record { there = value_there (entry r).0 (entry r).1 (map entry T) es (lone (r ∷ T) keyed) h; listed = one_less (entry r).0 (entry r).1 (map entry T) es (lone (r ∷ T) keyed) h };
}

pub books_follow : BooksFollow
books_follow = record { events = events_follow; departures = stops_follow departure_entry lone_departures; arrivals = stops_follow arrival_entry lone_arrivals }
