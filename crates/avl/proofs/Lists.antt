-- Entries before a key, the entry at it, and entries after it; and cells as entries.
use Rattle.std.proofs.Common.{◌≡◌, ℕ, zero, suc, ◌+◌, ◌<◌, ◌≤◌, true, false, cond, ltb, eqb, List, [], ◌∷◌, ◌++◌, map, length, option_map, slice_get, Some, refl, ap, arith}
use Rattle.std.specs.List.{AllByRecursion as All}
use Rattle.std.proofs.ByRecursion.{All-append}
use Rattle.std.proofs.lemmas.Bool.Decides.{nat_tests}
use Rattle.std.proofs.lemmas.List.Folds.{fold-map}
use Rattle.std.proofs.lemmas.List.Sums.{sum_by-append}
use Rattle.book.specs.Entries.{ascending, held, value_of, inserted, removed, count_below}
use Rattle.book.proofs.Order.{Above, Strict, above_more}
use Rattle.book.proofs.Edits.{value_above}
use Rattle.book.proofs.Places.{below_yes, below_first}
use Rattle.avl.specs.Tree.{entry_of}

module _ {A : Type 0} (Q : A → Type 0) where
  pub all_front : (xs ys : List A) → All Q (xs ++ ys) → All Q xs
  all_front [] ys h = tt
  all_front (x ∷ xs) ys h = (h.0, all_front xs ys h.1)

  pub all_back : (xs ys : List A) → All Q (xs ++ ys) → All Q ys
  all_back [] ys h = h
  all_back (x ∷ xs) ys h = all_back xs ys h.1

module _ {V : Type 0} where
  -- every key is less than k
  abbrev pub Under : ℕ → List (ℕ × V) → Type 0
  Under k es = All (λ e. e.0 < k) es

  -- a rising list, split at an entry
  pub strict_join : (xs ys : List (ℕ × V)) (e : ℕ × V) → Under e.0 xs → Above e.0 ys → Strict xs → Strict ys → Strict (xs ++ (e ∷ ys))
  strict_join [] ys e u a s t = (a, t)
  strict_join (x ∷ xs) ys e u a s t =
      let b = u.0 in
      (All-append (λ z. x.0 < z.0) xs (e ∷ ys) s.0 (b, above_more x.0 e.0 ys (omega arith) a), strict_join xs ys e u.1 a s.1 t)

  pub record Split (xs ys : List (ℕ × V)) (e : ℕ × V) : Type 0 where
    pub under : Under e.0 xs
    pub above : Above e.0 ys
    pub before : Strict xs
    pub after : Strict ys

  pub strict_split : (xs ys : List (ℕ × V)) (e : ℕ × V) → Strict (xs ++ (e ∷ ys)) → Split xs ys e
  strict_split [] ys e s = record { under = tt; above = s.0; before = tt; after = s.1 }
  strict_split (x ∷ xs) ys e s =
      let z = strict_split xs ys e s.1 in
      let Q : ℕ × V → Type 0 = λ y. x.0 < y.0 in
      record { under = ((all_back Q xs (e ∷ ys) s.0).0, z.under); above = z.above; before = (all_front Q xs (e ∷ ys) s.0, z.before); after = z.after }

  -- an entry put in
  pub inserted_before : (k : ℕ) (v : V) (xs ys : List (ℕ × V)) (e : ℕ × V) → k < e.0 → inserted k v (xs ++ (e ∷ ys)) ≡ inserted k v xs ++ (e ∷ ys)
  inserted_before k v [] ys e h = grind (arith, nat_tests)
  inserted_before k v (x ∷ xs) ys e h = grind (arith, nat_tests, inserted_before k v xs ys e h)

  pub inserted_after : (k : ℕ) (v : V) (xs ys : List (ℕ × V)) (e : ℕ × V) → Under e.0 xs → e.0 ≤ k → inserted k v (xs ++ (e ∷ ys)) ≡ xs ++ (e ∷ inserted k v ys)
  inserted_after k v [] ys e u h = grind (arith, nat_tests)
  inserted_after k v (x ∷ xs) ys e u h = grind (arith, nat_tests, u.0, inserted_after k v xs ys e u.1 h)

  -- an entry taken out
  removed_none : (k a : ℕ) (es : List (ℕ × V)) → k ≤ a → Above a es → removed k es ≡ es
  removed_none k a [] h up = refl
  removed_none k a (e ∷ es) h up = grind (arith, nat_tests, up.0, removed_none k a es h up.1)

  pub removed_before : (k : ℕ) (xs ys : List (ℕ × V)) (e : ℕ × V) → k < e.0 → Above e.0 ys → removed k (xs ++ (e ∷ ys)) ≡ removed k xs ++ (e ∷ ys)
  removed_before k [] ys e h up = grind (arith, nat_tests, removed_none k e.0 ys (omega arith) up)
  removed_before k (x ∷ xs) ys e h up = grind (arith, nat_tests, removed_before k xs ys e h up)

  pub removed_after : (k a : ℕ) (xs zs : List (ℕ × V)) → Under a xs → a ≤ k → removed k (xs ++ zs) ≡ xs ++ removed k zs
  removed_after k a [] zs u h = refl
  removed_after k a (x ∷ xs) zs u h = grind (arith, nat_tests, u.0, removed_after k a xs zs u.1 h)

  -- the value at a key
  pub value_before : (k : ℕ) (xs ys : List (ℕ × V)) (e : ℕ × V) → k < e.0 → Above e.0 ys → value_of k (xs ++ (e ∷ ys)) ≡ value_of k xs
  value_before k [] ys e h up = grind (arith, nat_tests, value_above k ys (above_more k e.0 ys (omega arith) up))
  value_before k (x ∷ xs) ys e h up = grind (arith, nat_tests, value_before k xs ys e h up)

  pub value_after : (k a : ℕ) (xs zs : List (ℕ × V)) → Under a xs → a ≤ k → value_of k (xs ++ zs) ≡ value_of k zs
  value_after k a [] zs u h = refl
  value_after k a (x ∷ xs) zs u h = grind (arith, nat_tests, u.0, value_after k a xs zs u.1 h)

  -- keys below one
  pub below_after : (k a : ℕ) (xs zs : List (ℕ × V)) → Under a xs → a ≤ k → count_below k (xs ++ zs) ≡ length xs + count_below k zs
  below_after k a [] zs u h = omega arith
  below_after k a (x ∷ xs) zs u h = omega (arith, below_yes k x (xs ++ zs) (omega (arith, u.0)), below_after k a xs zs u.1 h)

  pub below_before : (k : ℕ) (xs ys : List (ℕ × V)) (e : ℕ × V) → k ≤ e.0 → Above e.0 ys → count_below k (xs ++ (e ∷ ys)) ≡ count_below k xs
  below_before k xs ys e h up = omega (arith, sum_by-append (λ y. cond (ltb y.0 k) 1 0) xs (e ∷ ys), below_first k e ys h up)

  -- where an entry is put in, and taken out
  pub record PutIn (k : ℕ) (v : V) (es : List (ℕ × V)) : Type 0 where
    pub front : List (ℕ × V)
    pub back : List (ℕ × V)
    pub was : es ≡ front ++ back
    pub now : inserted k v es ≡ front ++ ((k, v) ∷ back)

  pub put_in : (k : ℕ) (v : V) (es : List (ℕ × V)) → PutIn k v es
  put_in k v [] = record { front = []; back = []; was = refl; now = refl }
  put_in k v (e ∷ es) =
      let z = put_in k v es in
      elim (ltb k e.0) as (λ b. ltb k e.0 ≡ b → PutIn k v (e ∷ es)) [
        | true ↦ λ c. record { front = []; back = e ∷ es; was = refl; now = grind (arith, c) }
        | false ↦ λ c. record { front = e ∷ z.front; back = z.back; was = ap (λ l. e ∷ l) z.was; now = grind (arith, c, z.now) }
      ] refl

  pub record TakenOut (k : ℕ) (v : V) (es : List (ℕ × V)) : Type 0 where
    pub front : List (ℕ × V)
    pub back : List (ℕ × V)
    pub was : es ≡ front ++ ((k, v) ∷ back)
    pub now : removed k es ≡ front ++ back

  pub taken_out : (k : ℕ) (v : V) (es : List (ℕ × V)) → value_of k es ≡ Some v → TakenOut k v es
  taken_out k v [] h = absurd (grind (arith, nat_tests))
  taken_out k v (e ∷ es) h =
      elim (eqb e.0 k) as (λ b. eqb e.0 k ≡ b → TakenOut k v (e ∷ es)) [
        | true ↦ λ c. record { front = []; back = es; was = grind (arith, nat_tests); now = grind (arith, c) }
        | false ↦ λ c. let z = taken_out k v es (grind (arith, c, h)) in record { front = e ∷ z.front; back = z.back; was = ap (λ l. e ∷ l) z.was; now = grind (arith, c, z.now) }
      ] refl

-- places in two lists
pub get_before : {X : Type 0} (xs ys : List X) (n : ℕ) → n < length xs → slice_get (xs ++ ys) n ≡ slice_get xs n
get_before [] ys n h = absurd (omega arith)
get_before (x ∷ xs) ys zero h = refl
get_before (x ∷ xs) ys (suc n) h = get_before xs ys n (omega arith)

pub get_after : {X : Type 0} (xs ys : List X) (n m : ℕ) → n ≡ length xs + m → slice_get (xs ++ ys) n ≡ slice_get ys m
get_after [] ys n m h = ap (slice_get ys) (omega arith)
get_after (x ∷ xs) ys zero m h = absurd (omega arith)
get_after (x ∷ xs) ys (suc n) m h = get_after xs ys n m (omega arith)

-- cells as entries
module _ {P : Type 0} where
  pub entries_inserted : (k n : ℕ) (v : P) (cs : List (ℕ × (ℕ × P))) → map entry_of (inserted k (n, v) cs) ≡ inserted k v (map entry_of cs)
  entries_inserted k n v [] = refl
  entries_inserted k n v (c ∷ cs) = grind (arith, nat_tests, entries_inserted k n v cs)

  pub entries_removed : (k : ℕ) (cs : List (ℕ × (ℕ × P))) → map entry_of (removed k cs) ≡ removed k (map entry_of cs)
  entries_removed k [] = refl
  entries_removed k (c ∷ cs) = grind (arith, nat_tests, entries_removed k cs)

  pub entries_held : (k : ℕ) (cs : List (ℕ × (ℕ × P))) → held k (map entry_of cs) ≡ held k cs
  entries_held k [] = refl
  entries_held k (c ∷ cs) = grind (arith, nat_tests, entries_held k cs)

  pub entries_value : (k : ℕ) (cs : List (ℕ × (ℕ × P))) → value_of k (map entry_of cs) ≡ option_map (λ c. c.1) (value_of k cs)
  entries_value k [] = refl
  entries_value k (c ∷ cs) = grind (arith, nat_tests, entries_value k cs)

  pub entries_below : (k : ℕ) (cs : List (ℕ × (ℕ × P))) → count_below k (map entry_of cs) ≡ count_below k cs
  entries_below k cs = fold-map (λ n e. n + cond (ltb e.0 k) 1 0) entry_of 0 cs

  pub entries_ascending : (cs : List (ℕ × (ℕ × P))) → ascending (map entry_of cs) ≡ ascending cs
  entries_ascending [] = refl
  entries_ascending (c ∷ []) = refl
  entries_ascending (c ∷ d ∷ cs) = grind (arith, entries_ascending (d ∷ cs))

  pub entries_all : (Q : ℕ → Type 0) (cs : List (ℕ × (ℕ × P))) → All (λ c. Q c.0) cs → All (λ e. Q e.0) (map entry_of cs)
  entries_all Q [] a = tt
  entries_all Q (c ∷ cs) a = (a.0, entries_all Q cs a.1)
