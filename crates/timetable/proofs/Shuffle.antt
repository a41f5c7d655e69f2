-- The same runs are one list put into another order.
use Rattle.std.proofs.Common.{◌≡◌, true, List, [], ◌∷◌, ◌++◌, count_by, sym, refl, ap, subst, arith}
use Rattle.std.specs.List.Sorted.{IsPermutation}
use Rattle.std.proofs.lemmas.List.Sums.{sum_by-cons, sum_by-append}
use Rattle.std.proofs.lemmas.List.Sorted.{IsPermutation-refl, IsPermutation-cons, IsPermutation-trans, IsPermutation-sym, IsPermutation-swap, sum_by-IsPermutation}
use Rattle.run.specs.declared.Run.{Run}
use Rattle.timetable.specs.Ways.{SameRuns}
use Rattle.timetable.specs.Laws.{SameIsShuffled}
use Rattle.timetable.proofs.Ranks.{one}
use Rattle.timetable.proofs.Members.{equal, equal_self, split_at}

to_front : (x : Run) (xs ys : List Run) → IsPermutation (xs ++ x ∷ ys) (x ∷ (xs ++ ys))
to_front x [] ys = IsPermutation-refl (x ∷ ys)
to_front x (y ∷ xs) ys =
    IsPermutation-trans (y ∷ (xs ++ x ∷ ys)) (y ∷ x ∷ (xs ++ ys)) (x ∷ y ∷ (xs ++ ys))
    (IsPermutation-cons y (xs ++ x ∷ ys) (x ∷ (xs ++ ys)) (to_front x xs ys))
    (IsPermutation-swap (y ∷ x ∷ (xs ++ ys)) (x ∷ y ∷ (xs ++ ys)) 0 1 (omega arith) (omega arith) refl)

shuffle : (xs ys : List Run) → SameRuns xs ys → IsPermutation xs ys
shuffle [] [] h = IsPermutation-refl []
shuffle [] (y ∷ ys) h = absurd (omega (arith, h (λ _. true), sum_by-cons (λ _. 1) y ys))
shuffle (x ∷ xs) ys h =
    let o : one (equal x x) ≡ 1 = ap one (equal_self x) in
    let c = split_at x ys (omega (arith, h (λ y. equal y x), sum_by-cons (λ y. one (equal y x)) x xs)) in
    let a = c.0 in
    let b = c.1 in
    let rest : SameRuns xs (a ++ b) = λ p. omega (arith, h p, ap (count_by p) c.2, sum_by-append (λ y. one (p y)) a (x ∷ b), sum_by-append (λ y. one (p y)) a b, sum_by-cons (λ y. one (p y)) x xs, sum_by-cons (λ y. one (p y)) x b) in
    let P : List Run → Type 0 = λ zs. IsPermutation (x ∷ xs) zs in
    subst P (sym c.2) (IsPermutation-trans (x ∷ xs) (x ∷ (a ++ b)) (a ++ x ∷ b) (IsPermutation-cons x xs (a ++ b) (shuffle xs (a ++ b) rest)) (IsPermutation-sym (a ++ x ∷ b) (x ∷ (a ++ b)) (to_front x a b)))

pub same_is_shuffled : SameIsShuffled
same_is_shuffled xs ys = (shuffle xs ys, λ h p. sym (sum_by-IsPermutation (λ x. one (p x)) xs ys h))
