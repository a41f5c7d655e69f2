-- The entries that a row's records mean, under edits and questions at places.
use Rattle.std.proofs.Common.{◌≡◌, ℕ, zero, suc, ◌+◌, ◌-◌, ◌<◌, ◌≤◌, true, List, [], ◌∷◌, ◌++◌, map, length, get_or, take, drop, Some, vec_items, sym, ap, ap₂, ◌∙◌, ⊎_elim, arith}
use Rattle.std.specs.List.{slice_range, insert as put_in, remove as taken_out}
use Rattle.std.specs.Vec.{with_items_from}
use Rattle.std.proofs.lemmas.List.{map-append, take-map, drop-map, get_or-map, get_or-take, length-append, length-drop, length-map, length-take-le, take-append-le, take-take, take_all, with_items_is}
use Rattle.std.proofs.lemmas.Slice.{between_from_start}
use Rattle.std.proofs.lemmas.Simd.{map-map}
use Rattle.std.proofs.lemmas.Bool.{cases_lt}
use Rattle.std.proofs.lemmas.Bool.Decides.{nat_tests}
use Rattle.monoid.specs.declared.Monoid as Monoid
use Rattle.monoid.specs.declared.semigroup.Semigroup as Semigroup
use Rattle.monoid.specs.Folds.{total}
use Rattle.book.specs.Entries.{ascending, held, value_of, inserted, removed, count_below, between, values, fold_between}
use Rattle.book.proofs.Order.{strict}
use Rattle.book.proofs.Places.{below_mono, between_is, between_empty}
use Rattle.book.proofs.Slots.{value_at, inserted_at, removed_at}
use Rattle.row.specs.declared.entry.Entry.{Entry}
use Rattle.row.specs.declared.row.Row.{Row}
use Rattle.row.specs.Slots.{pair, pairs}
use Rattle.row.specs.Rows.{row_entries, Stands, Belongs}
use Rattle.row.specs.Invariant.{is_rising}

module _ {P V : Type 0} (reads : P → V) where
  held_there : (k : ℕ) (es : List (Entry P)) (i : ℕ) → i < length es → ((d : Entry P) → (get_or es i d).key ≡ k) → held k (pairs reads es) ≡ true
  held_there k [] i h here = absurd (omega arith)
  held_there k (e ∷ es) zero h here = grind (arith, nat_tests, here e)
  held_there k (e ∷ es) (suc i) h here = grind (arith, nat_tests, held_there k es i (omega arith) here)

  -- the records with one more, and with one less
  pairs_put : (es : List (Entry P)) (i : ℕ) (x : Entry P) → pairs reads (put_in es i x) ≡ put_in (pairs reads es) i (pair reads x)
  pairs_put es i x = rw (take-map (pair reads) i es, drop-map (pair reads) i es) (map-append (pair reads) (take i es) (x ∷ drop i es))

  pairs_taken : (es : List (Entry P)) (i : ℕ) → pairs reads (taken_out es i) ≡ taken_out (pairs reads es) i
  pairs_taken es i = rw (take-map (pair reads) i es, drop-map (pair reads) (suc i) es) (map-append (pair reads) (take i es) (drop (suc i) es))

-- a stretch of places, from the first that is not below lo to the first that is not below hi
module _ {P V : Type 0} (unit : V) (join : V → V → V) (reads : P → V) (es : List (Entry P)) (lo hi from to : ℕ) (rising : ascending (pairs reads es) ≡ true) (start : from ≡ count_below lo (pairs reads es)) (end : to ≡ count_below hi (pairs reads es)) where
  whole : List (ℕ × V)
  whole = pairs reads es

  -- the join of its values is the fold over the stretch of keys
  pub fold_part : from < to → total unit join (map (λ e. reads e.value) (take (to - from) (drop from es))) ≡ fold_between unit join lo hi (pairs reads es)
  unfolding whole
  fold_part h =
      let order : lo ≤ hi = ⊎_elim (λ (l : hi < lo). absurd (omega (arith, below_mono hi lo whole (omega arith)))) (λ (l : lo ≤ hi). l) (cases_lt hi lo) in
      let stretch : between lo hi whole ≡ take (to - from) (drop from whole) = rw (start, end) (between_is lo hi whole rising order) in
      let part : take (to - from) (drop from whole) ≡ pairs reads (take (to - from) (drop from es)) = rw (drop-map (pair reads) from es) (take-map (pair reads) (to - from) (drop from es)) in
      sym (ap (λ l. total unit join (values l)) (stretch ∙ part) ∙ ap (total unit join) (map-map (λ p. p.1) (pair reads) (take (to - from) (drop from es))))

  pub fold_none : to ≤ from → unit ≡ fold_between unit join lo hi (pairs reads es)
  unfolding whole
  fold_none h =
      let empty : to - from ≡ 0 = omega arith in
      let none : between lo hi whole ≡ [] = ⊎_elim
      (λ (l : hi < lo). between_empty lo hi whole (omega arith))
      (λ (l : lo ≤ hi). rw (← start, ← end) at (between_is lo hi whole rising l) ∙ ap (λ n. take n (drop from whole)) empty)
      (cases_lt hi lo) in
      sym (ap (λ l. total unit join (values l)) none)

-- a row, and its memory after a change, which is first lent as a slice
module _ {M P V : Type 0} {m : Monoid.Ghosts M P} {s : Semigroup.Ghosts M} (reads : P → V) (r : Row M P m s) (k place : ℕ) where
  records : List (Entry P)
  records = take r.count (vec_items r.memory)

  size : length records ≡ r.count
  unfolding records
  size = length-take-le r.count (vec_items r.memory) (omega (arith, r.within, r.memory.ok.0))

  pub stands_held : Stands r k place → held k (row_entries reads r) ≡ true
  unfolding records
  stands_held at = held_there reads k records place (omega (arith, size, at.within)) (λ d. ap (λ e. e.key) (get_or-take r.count (vec_items r.memory) place d at.within) ∙ at.here d)

  -- the record that stands there is x
  module _ (x : Entry P) (read : x ≡ get_or (vec_items r.memory) place x) (at : Stands r k place) where
    key : x.key ≡ k
    key = ap (λ e. e.key) read ∙ at.here x

    stood : get_or (row_entries reads r) place (pair reads x) ≡ pair reads x
    unfolding records
    stood = get_or-map (pair reads) records place x (pair reads x) (omega (arith, size, at.within)) ∙ ap (pair reads) (get_or-take r.count (vec_items r.memory) place x at.within ∙ sym read)

    within : place < length (row_entries reads r)
    unfolding records
    within = omega (arith, size, at.within, length-map records (pair reads))

    pub value_there : value_of k (row_entries reads r) ≡ Some (reads x.value)
    value_there = value_at k (row_entries reads r) place (pair reads x) (strict _ (is_rising reads r)) within (ap (λ p. p.0) stood ∙ key) ∙ ap (λ p. Some p.1) stood

  -- the memory after a change of its first n slots: `given` is what they held, and `part` what they hold then
  module _ (n : ℕ) (given part : List (Entry P)) (was : given ≡ slice_range (vec_items r.memory) 0 n) (same : length part ≡ length given) (fits : n ≤ r.memory.len) where
    held_first : given ≡ take n (vec_items r.memory)
    held_first = was ∙ between_from_start (vec_items r.memory) n

    lent : length given ≡ n
    lent = let long = r.memory.ok.0 in ap length held_first ∙ length-take-le n (vec_items r.memory) (omega arith)

    first : (j : ℕ) → j ≤ n → take j (with_items_from r.memory 0 part).items ≡ take j part
    first j h =
        let rest = drop (length part) (vec_items r.memory) in
        let long = r.memory.ok.0 in
        ap (take j) (with_items_is r.memory (part ++ rest) (omega (arith, lent, length-append part rest, length-drop (length part) (vec_items r.memory)))) ∙ take-append-le j part rest (omega (arith, lent))

    pub entries_put : (x : Entry P) → n ≡ r.count + 1 → x.key ≡ k → Belongs reads r k place → part ≡ put_in (take (length given - 1) given) place x → pairs reads (take n (with_items_from r.memory 0 part).items) ≡ inserted k (reads x.value) (row_entries reads r)
    unfolding records
    entries_put x more q at made =
        let fewer : take (length given - 1) given ≡ records = ap₂ take (omega (arith, lent)) held_first ∙ take-take r.count n (vec_items r.memory) (omega arith) in
        ap (pairs reads) (first n (omega arith) ∙ take_all n part (omega (arith, lent)) ∙ made ∙ ap (λ l. put_in l place x) fewer)
        ∙ pairs_put reads records place x
        ∙ ap (λ j. put_in (row_entries reads r) place (j, reads x.value)) q
        ∙ ap (λ j. put_in (row_entries reads r) j (k, reads x.value)) at.there
        ∙ sym (inserted_at k (reads x.value) (row_entries reads r) (is_rising reads r) at.absent)

    pub entries_taken : (x : Entry P) → n ≡ r.count → x ≡ get_or (vec_items r.memory) place x → Stands r k place → take (length given - 1) part ≡ taken_out given place → pairs reads (take (n - 1) (with_items_from r.memory 0 part).items) ≡ removed k (row_entries reads r)
    unfolding records
    entries_taken x all read at made =
        ap (pairs reads) (first (n - 1) (omega arith) ∙ ap (λ j. take (j - 1) part) (sym lent) ∙ made ∙ ap (λ l. taken_out l place) (held_first ∙ ap (λ j. take j (vec_items r.memory)) all))
        ∙ pairs_taken reads records place
        ∙ sym (removed_at k (row_entries reads r) place (pair reads x) (is_rising reads r) (within x read at) (ap (λ p. p.0) (stood x read at) ∙ key x read at))
