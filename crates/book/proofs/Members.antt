-- What it is to be in a list, part by part.
use Rattle.std.proofs.Common.{◌≡◌, ◌⊎◌, List, [], ◌∷◌, inl, inr, ⊎_elim, arith}
use Rattle.std.specs.List.{ContainsAt as Has, AllByRecursion as All}
use Rattle.std.proofs.ByRecursion.{all-has}
use Rattle.book.proofs.Order.{has_cons}

abbrev pub Mem : {X : Type 0} → X → List X → Type 0
Mem x [] = ⊥
Mem x (y ∷ ys) = (y ≡ x) ⊎ Mem x ys

pub has_mem : {X : Type 0} (xs : List X) (x : X) → Has xs x → Mem x xs
has_mem [] x h = absurd (let l = h.1 in omega arith)
has_mem (y ∷ ys) x h = ⊎_elim (λ q. inl q) (λ m. inr (has_mem ys x m)) ((has_cons y ys x).0 h)

pub mem_has : {X : Type 0} (xs : List X) (x : X) → Mem x xs → Has xs x
mem_has [] x m = absurd m
mem_has (y ∷ ys) x m = (has_cons y ys x).1 (⊎_elim (λ q. inl q) (λ n. inr (mem_has ys x n)) m)

pub all_mem : {X : Type 0} (P : X → Type 0) (xs : List X) (x : X) → All P xs → Mem x xs → P x
all_mem P xs x a m = all-has P xs x a (mem_has xs x m)
