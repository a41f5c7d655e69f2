-- Which indices a tree has.
use Rattle.std.proofs.Common.{ℕ, ◌≢◌, eqb, List, [], ◌∷◌, ◌++◌, map, sym, ap, ◌∙◌, subst}
use Rattle.std.specs.List.{AllByRecursion as All}
use Rattle.std.proofs.ByRecursion.{All-append}
use Rattle.std.proofs.lemmas.List.{map-append}
use Rattle.std.proofs.lemmas.Bool.{cond_both}
use Rattle.book.specs.Entries.{removed}
use Rattle.avl.specs.Tree.{cells, index_of, Distinct}
use Rattle.avl.specs.Laws.{InsertAddsItsIndex, RemoveFreesTheIndexFound, IndicesStayDistinct}
use Rattle.avl.proofs.Lists.{all_front, all_back, put_in, taken_out}
use Rattle.avl.proofs.Cells.{cells_with, cells_without}
use Rattle.avl.proofs.Views.{lookup_cells}

distinct_with : (n : ℕ) (xs ys : List ℕ) → Distinct (xs ++ ys) → All (λ i. n ≢ i) (xs ++ ys) → Distinct (xs ++ (n ∷ ys))
distinct_with n [] ys d h = (h, d)
distinct_with n (x ∷ xs) ys d h =
    let Q : ℕ → Type 0 = λ y. x ≢ y in
    (All-append Q xs (n ∷ ys) (all_front Q xs ys d.0) (λ e. h.0 (sym e), all_back Q xs ys d.0), distinct_with n xs ys d.1 h.1)

distinct_without : (n : ℕ) (xs ys : List ℕ) → Distinct (xs ++ (n ∷ ys)) → Distinct (xs ++ ys) × All (λ i. n ≢ i) (xs ++ ys)
distinct_without n [] ys d = (d.1, d.0)
distinct_without n (x ∷ xs) ys d =
    let Q : ℕ → Type 0 = λ y. x ≢ y in
    let z = distinct_without n xs ys d.1 in
    let back = all_back Q xs (n ∷ ys) d.0 in
    ((All-append Q xs ys (all_front Q xs (n ∷ ys) d.0) back.1, z.0), (λ e. back.0 (sym e), z.1))

module _ {P : Type 0} where
  pub index_goes_in : InsertAddsItsIndex P
  index_goes_in n x y t o =
      let z = put_in x (n, y) (cells t) in (
        map index_of z.front,
        map index_of z.back,
        ap (map index_of) z.was ∙ map-append index_of z.front z.back,
        ap (map index_of) (cells_with n x y t o ∙ z.now) ∙ map-append index_of z.front ((x, (n, y)) ∷ z.back),
      )

  pub index_comes_out : RemoveFreesTheIndexFound P
  index_comes_out x i v t o f =
      let z = taken_out x (i, v) (cells t) (sym (lookup_cells x t o) ∙ f) in (
        map index_of z.front,
        map index_of z.back,
        ap (map index_of) z.was ∙ map-append index_of z.front ((x, (i, v)) ∷ z.back),
        ap (map index_of) (cells_without x t o ∙ z.now) ∙ map-append index_of z.front z.back,
      )

  index_stays_out : (Q : ℕ → Type 0) (x : ℕ) (cs : List (ℕ × (ℕ × P))) → All Q (map index_of cs) → All Q (map index_of (removed x cs))
  index_stays_out Q x [] h = tt
  index_stays_out Q x (c ∷ cs) h = cond_both (eqb c.0 x) _ _ (λ l. All Q (map index_of l)) (λ _. h.1) (λ _. (h.0, index_stays_out Q x cs h.1))

  pub indices_stay_distinct : IndicesStayDistinct P
  indices_stay_distinct = record {
    insert = λ n x y t o d h.
        let z = index_goes_in n x y t o in
        subst Distinct (sym z.3) (distinct_with n z.0 z.1 (subst Distinct z.2 d) (subst (All (λ i. n ≢ i)) z.2 h));
    remove = λ x i v t o f d.
        let z = index_comes_out x i v t o f in
        let w = distinct_without i z.0 z.1 (subst Distinct z.2 d) in
        (subst Distinct (sym z.3) w.0, subst (All (λ j. i ≢ j)) (sym z.3) w.1);
    insert_elsewhere = λ n x j y t o e h.
        let z = index_goes_in n x y t o in
        let Q : ℕ → Type 0 = λ i. j ≢ i in
        let a = subst (All Q) z.2 h in
        subst (All Q) (sym z.3) (All-append Q z.0 (n ∷ z.1) (all_front Q z.0 z.1 a) (e, all_back Q z.0 z.1 a));
    remove_elsewhere = λ x j t o h. subst (All (λ i. j ≢ i)) (sym (ap (map index_of) (cells_without x t o))) (index_stays_out (λ i. j ≢ i) x (cells t) h);
  }
