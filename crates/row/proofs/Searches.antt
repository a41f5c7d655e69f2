-- What a binary search finds among records in rising key.
use Rattle.std.proofs.Common.{◌≡◌, ℕ, zero, suc, ◌+◌, ◌<◌, ◌≤◌, true, false, List, [], ◌∷◌, length, get_or, take, Result, Ok, Err, MatchResult, vec_items, sym, refl, ap, ◌∙◌, ⊎_elim, arith}
use Rattle.std.specs.List.Sorted.{IsSearchInRange, IsBinarySearchResult, IsNonDecreasingBy}
use Rattle.std.specs.Ordering.{nat_cmp, ordering_index}
use Rattle.std.proofs.lemmas.Bool.{cases_lt, ltb-true, and_parts}
use Rattle.std.proofs.lemmas.Cmp.{ranked}
use Rattle.std.proofs.lemmas.List.{length-take-le, get_or-take}
use Rattle.std.proofs.lemmas.Bool.Decides.{nat_tests}
use Rattle.std.proofs.lemmas.List.Sorted.{IsNonDecreasingBy-from_all_adjacent}
use Rattle.book.specs.Entries.{ascending, held, count_below}
use Rattle.book.proofs.Places.{below_yes, below_no_more}
use Rattle.row.specs.declared.entry.Entry.{Entry}
use Rattle.row.specs.declared.row.Row.{Row}
use Rattle.monoid.specs.declared.Monoid as Monoid
use Rattle.monoid.specs.declared.semigroup.Semigroup as Semigroup
use Rattle.row.specs.Slots.{pair, pairs}
use Rattle.row.specs.Rows.{Stands, Belongs}
use Rattle.row.specs.Invariant.{is_rising}

module _ {P V : Type 0} (reads : P → V) where
  next_above : (es : List (Entry P)) → ascending (pairs reads es) ≡ true → (i : ℕ) (d : Entry P) → i + 1 < length es → (get_or es i d).key < (get_or es (i + 1) d).key
  next_above [] up i d h = absurd (omega arith)
  next_above (e ∷ []) up i d h = absurd (omega arith)
  next_above (e ∷ x ∷ es) up zero d h = ltb-true e.key x.key (and_parts _ _ up).0
  next_above (e ∷ x ∷ es) up (suc i) d h = let n : suc i + 1 ≡ suc (i + 1) = omega arith in rw n (next_above (x ∷ es) (and_parts _ _ up).1 i d (omega arith))

  pub keys_rise : (es : List (Entry P)) → ascending (pairs reads es) ≡ true → IsNonDecreasingBy (λ e. e.key) es
  keys_rise es up = IsNonDecreasingBy-from_all_adjacent (λ e. e.key) es (λ i d h. let l = next_above es up i d h in omega arith)

  -- a place behind all lesser keys, and before all others
  pub below_at : (k : ℕ) (es : List (Entry P)) (i : ℕ) → i ≤ length es → ((j : ℕ) (d : Entry P) → j < i → (get_or es j d).key < k) → ((j : ℕ) (d : Entry P) → i ≤ j → j < length es → k ≤ (get_or es j d).key) → count_below k (pairs reads es) ≡ i
  below_at k [] i h before from = omega arith
  below_at k (e ∷ es) zero h before from =
      below_no_more k (pair reads e) (pairs reads es) (from 0 e (omega arith) (omega arith)) ∙ below_at k es 0 (omega arith) (λ j d l. absurd (omega arith)) (λ j d l w. from (suc j) d (omega arith) (omega arith))
  below_at k (e ∷ es) (suc i) h before from =
      below_yes k (pair reads e) (pairs reads es) (before 0 e (omega arith))
      ∙ ap suc (below_at k es i (omega arith) (λ j d l. before (suc j) d (omega arith)) (λ j d l w. from (suc j) d (omega arith) (omega arith)))

  pub held_nowhere : (k : ℕ) (es : List (Entry P)) → ((j : ℕ) (d : Entry P) → j < length es → (get_or es j d).key ≡ k → ⊥) → held k (pairs reads es) ≡ false
  held_nowhere k [] none = refl
  held_nowhere k (e ∷ es) none = grind (arith, nat_tests, none 0 e (omega arith), held_nowhere k es (λ j d h. none (suc j) d (omega arith)))

  -- the comparisons with k rise with the keys
  comparisons_rise : (k : ℕ) (es : List (Entry P)) → ascending (pairs reads es) ≡ true → IsNonDecreasingBy (λ e. ordering_index (nat_cmp e.key k)) es
  comparisons_rise k es up i j d le h = let l = keys_rise es up i j d le h in grind (arith, nat_tests)

  -- a binary search by key among a row's records ends where the key stands, or where it belongs
  pub searched : {M : Type 0} {m : Monoid.Ghosts M P} {s : Semigroup.Ghosts M} (r : Row M P m s) (k : ℕ) (at : Result ℕ ℕ) → IsSearchInRange at (length (take r.count (vec_items r.memory))) → IsBinarySearchResult (λ e. nat_cmp e.key k) (take r.count (vec_items r.memory)) at → MatchResult at (Stands r k) (Belongs reads r k)
  searched r k (Ok at) in_range equal =
      let items = vec_items r.memory in
      let size : length (take r.count items) ≡ r.count = length-take-le r.count items (omega (arith, r.within, r.memory.ok.0)) in
      record { within = omega arith; here = λ d. ap (λ e. e.key) (sym (get_or-take r.count items at d (omega arith))) ∙ ranked _ k _ (sym (equal d)) }
  searched r k (Err at) in_range parted =
      let items = vec_items r.memory in
      let es = take r.count items in
      let size : length es ≡ r.count = length-take-le r.count items (omega (arith, r.within, r.memory.ok.0)) in
      let point = parted (comparisons_rise k es (is_rising reads r)) in
      let less : (j : ℕ) (d : Entry P) → j < at → (get_or es j d).key < k = λ j d l. ranked _ k _ (sym (point.0 j d (omega arith) l)) in
      let more : (j : ℕ) (d : Entry P) → at ≤ j → j < length es → k < (get_or es j d).key = λ j d l h. ranked _ k _ (sym (point.1 j d l h)) in
      record {
        within = omega arith;
        there = sym (below_at k es at in_range less (λ j d l h. let m = more j d l h in omega arith));
        absent = held_nowhere k es (λ j d h q. ⊎_elim (λ (l : j < at). omega (arith, less j d l)) (λ (l : at ≤ j). omega (arith, more j d l h)) (cases_lt j at));
      }
