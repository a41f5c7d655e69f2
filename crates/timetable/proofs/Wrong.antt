-- Each wrong wording fails at a small timetable.
use Rattle.std.proofs.Common.{◌≡◌, ℕ, ◌<◌, true, List, [], ◌∷◌, length, count_by, refl, ap, arith}
use Rattle.std.proofs.lemmas.Int.{ints}
use Rattle.std.proofs.lemmas.Bool.Decides.{nat_tests}
use Rattle.std.proofs.lemmas.List.{nil_from_length}
use Rattle.run.specs.declared.Run.{Run}
use Rattle.timetable.specs.Levels.{need_of}
use Rattle.timetable.specs.Ways.{runs_of, Way, Apart}
use Rattle.timetable.specs.Fifo.{Origin, box, brought_by, Block, chains_of, Fifo}
use Rattle.timetable.specs.Table.{run_of, run_1, run_2, run_3, run_4, run_5, five, blocks_of_five, block, never_together, unlinked}
use Rattle.timetable.specs.Wrong.{BeforeBelow, MoreThanTheNeed, BlocksAreStrictChains, BelowFindsABox, LaterArrivalInTime, DeparturesFirstBound, AnyMinuteIsCritical, DoneWithoutTime, EachBoxWithoutNumbers, FixedInAnyOrder, FewerSteps, OutTogetherIsEnough, AddedRunRaises, WrongWordings}
use Rattle.timetable.proofs.OneNeed.{need_is}
use Rattle.timetable.proofs.Fifo.{fifo_sends_the_need}
use Rattle.timetable.proofs.Totals.{least, fifo_uses}
use Rattle.timetable.proofs.Table.{worked_table}

way_of_five : Way five (chains_of blocks_of_five)
way_of_five = (fifo_sends_the_need five (need_of five) blocks_of_five (need_is five) worked_table.numbers_apart worked_table.blocks).0

-- first in, first out sends exactly 2 out of vault 0
more : MoreThanTheNeed → ⊥
more h = omega (arith, h five (chains_of blocks_of_five) way_of_five 0 2 (need_is five 0))

-- run 3 starts in the minute in which run 2 arrives
strict : BlocksAreStrictChains → ⊥
strict h =
    let c = h five (need_of five) blocks_of_five (need_is five) worked_table.numbers_apart worked_table.all_take_time worked_table.blocks in
    let l = c.1.0.1 in
    omega arith

-- run 2, departure 2 of vault 0, would want arrival 0
below : BelowFindsABox → ⊥
below h = go f.0 f.1
  where
    f : (o : Origin) × BeforeBelow five (need_of five) run_2 o
    f = h five (need_of five) (need_is five) worked_table.numbers_apart worked_table.all_take_time run_2 (1, omega arith, λ d. refl)

    go : (o : Origin) → BeforeBelow five (need_of five) run_2 o → ⊥
    go (box v i) b = low v i b.0 b.1 b.2
      where
        low : (v i : ℕ) → v ≡ 0 → i ≡ 2 → i < need_of five v → ⊥
        low v i e k l = omega (arith, ap (need_of five) e)
    go (brought_by r) b = let e = b.3 in omega arith

-- run 5, departure 3 of vault 0, leaves in minute 200, and run 4, its second arrival, comes in minute 230
later : LaterArrivalInTime → ⊥
later h = omega (arith, h five (need_of five) (need_is five) worked_table.numbers_apart worked_table.all_take_time run_4 run_5 (3, omega arith, λ d. refl) (4, omega arith, λ d. refl) refl refl)

-- vault 1 in minute 150, where run 2 arrives and run 3 leaves
first : DeparturesFirstBound → ⊥
first h = omega (arith, ints, h five (chains_of blocks_of_five) way_of_five 1 150)

-- vault 0 is at its need in minutes 120 and 150
any : AnyMinuteIsCritical → ⊥
any h = let e : ◌≡◌ {A = ℕ} 120 150 = h five 0 2 120 150 (need_is five 0) (omega arith) refl refl in omega arith

-- a run from vault 0 to vault 0 that takes no time would wait for the box that it brings itself
still : List Run
still = run_of 1 0 0 5 5 0 ∷ []

no_time : DoneWithoutTime → ⊥
unfolding still
no_time h =
    let apart : Apart still = λ k. grind (arith, nat_tests) in
    let f = h still (need_of still) (need_is still) apart in
    let none : length f.0 ≡ 0 = fifo_uses still 1 (need_of still) f.0 (need_is still) apart ((omega arith, omega arith), tt) f.1 in
    let e : f.0 ≡ [] = nil_from_length f.0 none in
    omega (arith, f.1.same (λ _. true), ap (λ B. count_by (λ _. true) (runs_of (chains_of B))) e)

-- two runs alike in all parts are both departure 1
twins : List Run
twins = run_of 1 0 1 100 110 0 ∷ run_of 1 0 1 100 110 0 ∷ []

twin_blocks : List Block
twin_blocks = block 0 1 (run_of 1 0 1 100 110 0 ∷ []) ∷ block 0 1 (run_of 1 0 1 100 110 0 ∷ []) ∷ []

one_number : EachBoxWithoutNumbers → ⊥
unfolding twins twin_blocks
one_number h =
    let f : Fifo twins (need_of twins) twin_blocks = record { boxed = (record { opens = (refl, refl, omega arith); linked = tt }, (record { opens = (refl, refl, omega arith); linked = tt }, tt)); same = λ p. omega arith } in
    let e : ◌≡◌ {A = ℕ} 0 1 = h twins (need_of twins) twin_blocks (need_is twins) f 0 2 (omega arith) (omega arith) in
    omega arith

-- the two blocks of the five runs, listed the other way round
turned : List Block
turned = block 0 2 (run_2 ∷ run_3 ∷ run_5 ∷ []) ∷ block 0 1 (run_1 ∷ run_4 ∷ []) ∷ []

head_number : List Block → ℕ
head_number [] = 0
head_number (b ∷ B) = b.number

any_order : FixedInAnyOrder → ⊥
unfolding turned head_number
any_order h =
    let boxes = worked_table.blocks.boxed in
    let f : Fifo five (need_of five) turned = record { boxed = (boxes.1.0, (boxes.0, tt)); same = λ p. omega arith } in
    let e : ◌≡◌ {A = ℕ} 1 2 = ap head_number (h five (need_of five) blocks_of_five turned worked_table.numbers_apart worked_table.blocks f) in
    omega arith

-- one run alone
alone : List Run
alone = run_1 ∷ []

fewer : FewerSteps → ⊥
unfolding alone
fewer h =
    let b : Block = block 0 1 (run_1 ∷ []) in
    let f : Fifo alone (need_of alone) (b ∷ []) = record { boxed = (record { opens = (refl, refl, omega arith); linked = tt }, tt); same = λ p. omega arith } in
    let apart : Apart alone = λ k. grind (arith, nat_tests) in
    omega (arith, h alone (need_of alone) (b ∷ []) apart f b (0, omega arith, λ d. refl))

-- two runs that are never out together need two boxes
together : OutTogetherIsEnough → ⊥
together h =
    let f = h never_together 1 (λ k. grind (arith, nat_tests)) (omega arith, (omega arith, tt)) (λ t. grind (arith, nat_tests)) in
    let few = f.2 in
    omega (arith, least never_together 4 f.0 f.1)

-- a run that links two others
raises : AddedRunRaises → ⊥
raises h = omega (arith, h unlinked (run_of 3 0 1 10 15 0) 4)

pub wrong_wordings : WrongWordings
wrong_wordings = record {
  more_than_the_need = more;
  strict_chains = strict;
  below_the_need = below;
  later_arrival = later;
  departures_first = first;
  any_minute = any;
  no_time = no_time;
  one_number = one_number;
  any_order = any_order;
  fewer_steps_than_runs = fewer;
  out_together = together;
  only_raises = raises;
}
