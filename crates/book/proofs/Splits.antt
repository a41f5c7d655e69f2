-- A fold over a stretch of keys is the join of the folds over its two parts.
use Rattle.std.proofs.Common.{◌≡◌, ℕ, ◌≤◌, true, List, sym, ap, ◌∙◌}
use Rattle.std.proofs.lemmas.List.{map-append}
use Rattle.monoid.specs.Folds.{total}
use Rattle.monoid.specs.FoldsLemmas.{total_append}
use Rattle.book.specs.Entries.{ascending, between, values, fold_between}
use Rattle.book.proofs.Places.{between_joins}

pub folds_split : {V : Type 0} (unit : V) (join : V → V → V) → ((x : V) → join unit x ≡ x) → ((x : V) → join x unit ≡ x) → ((x y z : V) → join (join x y) z ≡ join x (join y z)) → (lo mid hi : ℕ) (es : List (ℕ × V)) → ascending es ≡ true → lo ≤ mid → mid ≤ hi → join (fold_between unit join lo mid es) (fold_between unit join mid hi es) ≡ fold_between unit join lo hi es
folds_split unit join left right assoc lo mid hi es s f g =
    let low = between lo mid es in
    let high = between mid hi es in
    sym (ap (λ ds. total unit join (values ds)) (sym (between_joins lo mid hi es s f g)) ∙ ap (total unit join) (map-append (λ e. e.1) low high) ∙ total_append unit join left right assoc (values low) (values high))
