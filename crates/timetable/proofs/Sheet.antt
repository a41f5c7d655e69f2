-- The blocks can be put into the sheet's order.
use Rattle.std.proofs.Common.{◌≡◌, ℕ, ◌<◌, ◌≤◌, Bool, true, false, ◌&&◌, eqb, List, [], ◌∷◌, count_by, sym, ◌∙◌, arith}
use Rattle.std.proofs.ByRecursion.{All-weaker}
use Rattle.std.proofs.lemmas.Bool.Decides.{nat_tests}
use Rattle.run.specs.declared.Run.{Run}
use Rattle.timetable.specs.Fifo.{Block, Opens, Boxed, printed_before, SheetOrder}
use Rattle.timetable.specs.Laws.{FifoCanBeDone}
use Rattle.timetable.proofs.Members.{by_block}
use Rattle.timetable.proofs.Ordering.{Strict, put_in_order}
use Rattle.timetable.proofs.Build.{all_built}
use Rattle.timetable.proofs.Labels.{box_at_most_once}

abbrev same_box : Block → Block → Bool
same_box b c = eqb c.vault b.vault && eqb c.number b.number

after_trans : (b c d : Block) → printed_before b c ≡ true → printed_before c d ≡ true → printed_before b d ≡ true
after_trans b c d h k = grind (arith, nat_tests)

after_self : (b : Block) → same_box b b ≡ true
after_self b = grind (arith, nat_tests)

after_other : (b c : Block) → printed_before b c ≡ false → same_box b c ≡ false → printed_before c b ≡ true
after_other b c h k = grind (arith, nat_tests)

sheet : (B : List Block) → Strict printed_before B → SheetOrder B
sheet [] s = tt
sheet (b ∷ B) s = (s.0, sheet B s.1)

pub fifo_can_be_done : FifoCanBeDone
fifo_can_be_done T need needs apart forward =
    let f = all_built T need needs apart forward in
    let B = f.0 in
    let numbered : (b : Block) → Boxed T need b → 0 < b.number = λ b h. from_1 b.vault b.number b.runs h.opens in
    let g = put_in_order printed_before after_trans same_box after_self after_other (Boxed T need) B f.1.boxed (All-weaker (Boxed T need) (λ b. count_by (same_box b) B ≤ 1) (λ b h. box_at_most_once T need B apart f.1 b.vault b.number (numbered b h)) B f.1.boxed) in
    (g.0, record { boxed = g.1.each; same = λ p. by_block p g.0 ∙ g.1.sums (λ b. count_by p b.runs) ∙ sym (by_block p B) ∙ f.1.same p }, sheet g.0 g.1.order)
  where
    from_1 : (v i : ℕ) (c : List Run) → Opens T need v i c → 0 < i
    from_1 v i [] o = absurd o
    from_1 v i (r ∷ rs) o = let e = o.1 in omega arith
