-- Folds of a list, of one value before it or after it, and of two lists.
use Rattle.std.specs.Prelude.{◌≡◌, ℕ, ◌+◌, ◌<◌, List, [], ◌∷◌, ◌++◌, map, length, take, drop, fold, slice_index_or}
use Rattle.std.proofs.Common.{sym, ap, ◌∙◌, take-append-drop}
use Rattle.std.proofs.lemmas.List.{take_more, map_push, map-append}
use Rattle.std.proofs.lemmas.List.Sums.{fold_push, fold-append}
use Rattle.monoid.specs.Folds.{total}

-- a loop's step: one record more
pub total_more : {P M : Type 0} (e : M) (op : M → M → M) (reads : P → M) (ps : List P) (i : ℕ) (p : P) → i < length ps → p ≡ slice_index_or ps i p → op (total e op (map reads (take i ps))) (reads p) ≡ total e op (map reads (take (i + 1) ps))
total_more e op reads ps i p within read =
    let pushed : take (i + 1) ps ≡ take i ps ++ (p ∷ []) = take_more ps i p within ∙ ap (λ y. take i ps ++ (y ∷ [])) (sym read) in
    sym (ap (λ qs. total e op (map reads qs)) pushed ∙ ap (total e op) (map_push reads (take i ps) p) ∙ fold_push op e (map reads (take i ps)) (reads p))

module _ {M : Type 0} (e : M) (op : M → M → M) (left : (x : M) → op e x ≡ x) (right : (x : M) → op x e ≡ x) (assoc : (x y z : M) → op (op x y) z ≡ op x (op y z)) where
  -- a fold from s is s joined with the fold from the unit
  total_from : (s : M) (xs : List M) → fold op s xs ≡ op s (total e op xs)
  total_from s [] = sym (right s)
  total_from s (x ∷ xs) =
      total_from (op s x) xs ∙ assoc s x (total e op xs)
      ∙ ap (op s) (sym (total_from (op e x) xs ∙ ap (λ y. op y (total e op xs)) (left x)))

  pub total_cons : (x : M) (xs : List M) → total e op (x ∷ xs) ≡ op x (total e op xs)
  total_cons x xs = total_from (op e x) xs ∙ ap (λ y. op y (total e op xs)) (left x)

  -- the fold of two stretches
  pub total_append : (xs ys : List M) → total e op (xs ++ ys) ≡ op (total e op xs) (total e op ys)
  total_append xs ys = fold-append op e xs ys ∙ total_from (total e op xs) ys

  pub total_take_drop : (n : ℕ) (xs : List M) → op (total e op (take n xs)) (total e op (drop n xs)) ≡ total e op xs
  total_take_drop n xs = sym (total_append (take n xs) (drop n xs)) ∙ ap (total e op) (take-append-drop n xs)

  -- and of the records of two stretches
  pub total_append_read : {P : Type 0} (reads : P → M) (ps qs : List P) → op (total e op (map reads ps)) (total e op (map reads qs)) ≡ total e op (map reads (ps ++ qs))
  total_append_read reads ps qs = sym (ap (total e op) (map-append reads ps qs) ∙ total_append (map reads ps) (map reads qs))
