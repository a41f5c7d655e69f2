-- What a row's invariant says of its entries: the facts that every book owes.
use Rattle.std.specs.Prelude.{◌≡◌, ◌≤◌, true, ◌&&◌, List, [], ◌∷◌, length, take, vec_items, nat_lt, refl}
use Rattle.std.proofs.Common.{ap, ◌∙◌, arith}
use Rattle.std.proofs.lemmas.List.{length-map, length-take-le}
use Rattle.book.specs.Entries.{ascending}
use Rattle.monoid.specs.declared.Monoid as Monoid
use Rattle.monoid.specs.declared.semigroup.Semigroup as Semigroup
use Rattle.row.specs.declared.entry.Entry.{Entry}
use Rattle.row.specs.declared.row.Row.{Row}
use Rattle.row.specs.Slots.{pair, pairs, stored}
use Rattle.row.specs.Rows.{row_entries, row_capacity}

-- the order goes by the keys alone
pub same_order : {P V W : Type 0} (f : P → V) (g : P → W) (es : List (Entry P)) → ascending (pairs f es) ≡ ascending (pairs g es)
same_order f g [] = refl
same_order f g (e ∷ []) = refl
same_order f g (e ∷ x ∷ es) = ap (λ b. nat_lt e.key x.key && b) (same_order f g (x ∷ es))

module _ {M P V : Type 0} {m : Monoid.Ghosts M P} {s : Semigroup.Ghosts M} (reads : P → V) (r : Row M P m s) where
  pub count_is : length (row_entries reads r) ≡ r.count
  count_is =
      let within = r.within in
      let long = r.memory.ok.0 in
      length-map (take r.count (vec_items r.memory)) (pair reads) ∙ length-take-le r.count (vec_items r.memory) (omega arith)

  pub is_bounded : length (row_entries reads r) ≤ row_capacity r
  is_bounded = let within = r.within in let small = r.small in omega (arith, count_is)

  pub is_small : row_capacity r ≤ 2048
  is_small = omega arith

  pub is_rising : ascending (row_entries reads r) ≡ true
  is_rising = same_order reads stored (take r.count (vec_items r.memory)) ∙ r.rising
