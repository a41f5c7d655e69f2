-- What moving the slots from a place on by one leaves.
use Rattle.std.proofs.Common.{◌≡◌, ℕ, ◌+◌, ◌-◌, ◌<◌, List, [], ◌∷◌, ◌++◌, length, get_or, take, drop, set, sym, ap, ap₂, ◌∙◌, add-one, arith}
use borrow.Rule.Slice.PartMut.{mid_of, put_mid}
use Rattle.std.specs.List.{insert, remove, copy_within, slice_rotate_right}
use Rattle.std.proofs.lemmas.List.{append-nil, length-drop, length-take-le, take_rest, take-take, take_all, drop_more, drop_all, drop-take, set_at}
use Rattle.std.proofs.lemmas.List.Edits.{take-paste}

-- the slots from a place on, and a slice with others there
abbrev tail_of : {X : Type 0} → List X → ℕ → List X
tail_of xs place = mid_of place (length xs - place) xs

abbrev with_tail : {X : Type 0} → List X → ℕ → List X → List X
with_tail xs place ys = put_mid place (length xs - place) xs ys

module _ {X : Type 0} where
  -- those behind a place moved down
  pub moved_down : (xs : List X) (place : ℕ) → place < length xs → take (length xs - 1) (copy_within xs (place + 1) (length xs) place) ≡ remove xs place
  moved_down xs place h =
      let n = length xs - (place + 1) in
      let s = drop (place + 1) xs in
      let most : length xs - 1 ≡ place + n = omega arith in
      let long : length s ≡ n = length-drop (place + 1) xs in
      ap (λ j. take j (copy_within xs (place + 1) (length xs) place)) most
      ∙ take-paste xs place s n (omega arith) (omega arith)
      ∙ ap (λ l. take place xs ++ l) (take_all n s (omega arith) ∙ ap (λ j. drop j xs) (add-one place))

  -- after a turn to the right and a write: with one more, at the place
  pub moved_up : (xs ys : List X) (place : ℕ) (x : X) → place < length xs → ys ≡ slice_rotate_right (tail_of xs place) 1 → set (with_tail xs place ys) place x ≡ insert (take (length xs - 1) xs) place x
  moved_up xs ys place x h turned =
      let rest = drop place xs in
      let n = length rest - 1 in
      let size : length rest ≡ length xs - place = length-drop place xs in
      let last : drop n rest ≡ get_or rest n x ∷ [] = drop_more rest n x (omega arith) ∙ ap (λ l. get_or rest n x ∷ l) (drop_all (n + 1) rest (omega arith)) in
      let now : ys ≡ get_or rest n x ∷ take n rest = turned ∙ ap (λ l. slice_rotate_right l 1) (take_rest xs place) ∙ ap (λ l. l ++ take n rest) last in
      let all : with_tail xs place ys ≡ take place xs ++ get_or rest n x ∷ take n rest = ap (λ l. take place xs ++ l) (ap₂ (λ u v. u ++ v) now (drop_all (length xs - place) rest (omega arith)) ∙ append-nil _) in
      let most : length xs - 1 ≡ place + n = omega arith in
      ap (λ l. set l place x) all ∙ set_at (take place xs) _ (take n rest) x place (length-take-le place xs (omega arith))
      ∙ ap₂ (λ u v. u ++ x ∷ v) (sym (take-take place (length xs - 1) xs (omega arith))) (sym (ap (λ j. drop place (take j xs)) most ∙ drop-take place n xs))
