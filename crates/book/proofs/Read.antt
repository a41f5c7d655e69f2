-- Entries whose values are read by a function: every question and edit goes by the keys alone.
use Rattle.std.proofs.Common.{◌≡◌, ℕ, zero, suc, cond, ltb, List, [], ◌∷◌, map, length, Some, None, Option, refl, ap, arith}
use Rattle.std.proofs.lemmas.Bool.Decides.{nat_tests}
use Rattle.std.proofs.lemmas.List.{length-map}
use Rattle.std.proofs.lemmas.List.Sums.{sum_by-cons}
use Rattle.std.specs.List.{slice_get}
use Rattle.book.specs.Entries.{ascending, held, value_of, inserted, removed, count_below, between, values}

-- a function of what an Option holds
abbrev pub on_some : {A B : Type 0} → (A → B) → Option A → Option B
on_some f None = None
on_some f (Some x) = Some (f x)

pub nth_map : {A B : Type 0} (f : A → B) (xs : List A) (n : ℕ) → slice_get (map f xs) n ≡ on_some f (slice_get xs n)
nth_map f [] n = refl
nth_map f (x ∷ xs) zero = refl
nth_map f (x ∷ xs) (suc n) = nth_map f xs n

module _ {P V : Type 0} (f : P → V) where
  -- an entry with its value read
  abbrev pub read_entry : ℕ × P → ℕ × V
  read_entry e = (e.0, f e.1)

  pub read_held : (k : ℕ) (es : List (ℕ × P)) → held k (map read_entry es) ≡ held k es
  read_held k [] = refl
  read_held k (e ∷ es) = grind (arith, nat_tests, read_held k es)

  pub read_value : (k : ℕ) (es : List (ℕ × P)) → value_of k (map read_entry es) ≡ on_some f (value_of k es)
  read_value k [] = refl
  read_value k (e ∷ es) = grind (arith, nat_tests, read_value k es)

  pub read_inserted : (k : ℕ) (p : P) (es : List (ℕ × P)) → map read_entry (inserted k p es) ≡ inserted k (f p) (map read_entry es)
  read_inserted k p [] = refl
  read_inserted k p (e ∷ es) = grind (arith, nat_tests, read_inserted k p es)

  pub read_removed : (k : ℕ) (es : List (ℕ × P)) → map read_entry (removed k es) ≡ removed k (map read_entry es)
  read_removed k [] = refl
  read_removed k (e ∷ es) = grind (arith, nat_tests, read_removed k es)

  pub read_below : (k : ℕ) (es : List (ℕ × P)) → count_below k (map read_entry es) ≡ count_below k es
  read_below k [] = refl
  read_below k (e ∷ es) = omega (arith, sum_by-cons (λ x. cond (ltb x.0 k) 1 0) (read_entry e) (map read_entry es), sum_by-cons (λ x. cond (ltb x.0 k) 1 0) e es, read_below k es)

  pub read_nth : (es : List (ℕ × P)) (n : ℕ) → slice_get (map read_entry es) n ≡ on_some read_entry (slice_get es n)
  read_nth es n = nth_map read_entry es n

  pub read_length : (es : List (ℕ × P)) → length (map read_entry es) ≡ length es
  read_length es = length-map es read_entry

  pub read_ascending : (es : List (ℕ × P)) → ascending (map read_entry es) ≡ ascending es
  read_ascending [] = refl
  read_ascending (e ∷ []) = refl
  read_ascending (e ∷ x ∷ es) = grind (arith, nat_tests, read_ascending (x ∷ es))

  pub read_between : (lo hi : ℕ) (es : List (ℕ × P)) → map read_entry (between lo hi es) ≡ between lo hi (map read_entry es)
  read_between lo hi [] = refl
  read_between lo hi (e ∷ es) = grind (arith, nat_tests, read_between lo hi es)

  pub read_values : (es : List (ℕ × P)) → values (map read_entry es) ≡ map f (values es)
  read_values [] = refl
  read_values (e ∷ es) = ap (λ l. f e.1 ∷ l) (read_values es)
