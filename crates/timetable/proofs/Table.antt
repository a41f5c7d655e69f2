-- The worked table, by computation.
use Rattle.std.proofs.Common.{refl, arith}
use Rattle.std.proofs.lemmas.Bool.Decides.{nat_tests}
use Rattle.timetable.specs.Levels.{need_of}
use Rattle.timetable.specs.Ways.{Apart}
use Rattle.timetable.specs.Fifo.{box, brought_by, Before, Fifo}
use Rattle.timetable.specs.Table.{run_1, run_2, run_3, run_4, run_5, five, without_2, blocks_of_five, blocks_without_2, WorkedTable}
use Rattle.timetable.proofs.OneNeed.{need_is, critical_by}
use Rattle.timetable.proofs.Links.{after_none}

apart_five : Apart five
apart_five k = grind (arith, nat_tests)

b1 : Before five (need_of five) run_1 (box 0 1)
b1 = (refl, refl, omega arith)

b2 : Before five (need_of five) run_2 (box 0 2)
b2 = (refl, refl, omega arith)

b3 : Before five (need_of five) run_3 (brought_by run_2)
b3 = ((1, omega arith, λ d. refl), refl, omega arith, refl)

b4 : Before five (need_of five) run_4 (brought_by run_1)
b4 = ((0, omega arith, λ d. refl), refl, omega arith, refl)

b5 : Before five (need_of five) run_5 (brought_by run_3)
b5 = ((2, omega arith, λ d. refl), refl, omega arith, refl)

fifo_of_five : Fifo five (need_of five) blocks_of_five
fifo_of_five = record { boxed = (record { opens = b1; linked = (b4, tt) }, (record { opens = b2; linked = (b3, (b5, tt)) }, tt)); same = λ test. omega arith }

fifo_without_2 : Fifo without_2 (need_of without_2) blocks_without_2
fifo_without_2 = record {
  boxed = (
    record { opens = (refl, refl, omega arith); linked = (((0, omega arith, λ d. refl), refl, omega arith, refl), tt) },
    (record { opens = (refl, refl, omega arith); linked = (((1, omega arith, λ d. refl), refl, omega arith, refl), tt) }, tt),
  );
  same = λ test. omega arith;
}

pub worked_table : WorkedTable
worked_table = record {
  numbers_apart = apart_five;
  all_take_time = (omega arith, (omega arith, (omega arith, (omega arith, (omega arith, tt)))));
  level_of_1_at_150 = refl;
  level_of_1_at_160 = refl;
  level_of_1_at_170 = refl;
  levels_of_0 = refl;
  levels_of_1 = refl;
  need_of_0 = record { figure = need_is five 0; minute = (omega arith, critical_by five 0 2 120 (need_is five 0) (omega arith) refl refl) };
  need_of_1 = record { figure = need_is five 1; minute = refl };
  total_of_five = refl;
  before_1 = b1;
  before_2 = b2;
  before_3 = b3;
  before_4 = b4;
  before_5 = b5;
  after_1 = ((3, omega arith, λ d. refl), record { there = refl; turn = refl });
  after_2 = ((2, omega arith, λ d. refl), record { there = refl; turn = refl });
  after_3 = ((4, omega arith, λ d. refl), record { there = refl; turn = refl });
  after_4 = after_none five (need_of five) apart_five run_4 (omega arith);
  after_5 = after_none five (need_of five) apart_five run_5 (omega arith);
  blocks = fifo_of_five;
  blocks_in_order = ((refl, tt), (tt, tt));
  fittings_of_box_1 = refl;
  fittings_of_box_2 = refl;
  leaving_0 = refl;
  coming_to_0 = refl;
  leaving_none = refl;
  without_2_levels_of_0 = refl;
  without_2_levels_of_1 = refl;
  without_2_need_of_0 = record { figure = need_is without_2 0; minute = (omega arith, critical_by without_2 0 1 100 (need_is without_2 0) (omega arith) refl refl) };
  without_2_need_of_1 = record { figure = need_is without_2 1; minute = (omega arith, critical_by without_2 1 1 150 (need_is without_2 1) (omega arith) refl refl) };
  without_2_total = refl;
  without_2_blocks = fifo_without_2;
  without_2_blocks_in_order = ((refl, tt), (tt, tt));
  never_together_total = refl;
  unlinked_total = refl;
  linked_by_a_third_total = refl;
}
