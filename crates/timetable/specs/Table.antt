-- The worked table: five runs, computed against the definitions.
use Rattle.std.specs.Prelude.{◌≡◌, ℕ, List, [], ◌∷◌, map, ℤ, pos, neg_ℤ, Some, None}
use Rattle.run.specs.declared.Run.{Run}
use Rattle.timetable.specs.Levels.{level, NeedAnswer, need_of, total}
use Rattle.timetable.specs.Ways.{Apart, Forward}
use Rattle.timetable.specs.Fifo.{box, brought_by, Before, After, Block, Fifo, SheetOrder}
use Rattle.timetable.specs.Fittings.{fittings_of, fittings_leaving, fittings_coming}

-- a run by its parts: run number, from-vault, to-vault, start, end, fittings
abbrev pub run_of : ℕ → ℕ → ℕ → ℕ → ℕ → ℕ → Run
run_of n v w s e f = record { number = n; from = v; to = w; start = s; end = e; fittings = f }

abbrev pub run_1 : Run
run_1 = run_of 1 0 1 100 160 1

abbrev pub run_2 : Run
run_2 = run_of 2 0 1 120 150 2

abbrev pub run_3 : Run
run_3 = run_of 3 1 0 150 200 4

abbrev pub run_4 : Run
run_4 = run_of 4 1 0 170 230 1

abbrev pub run_5 : Run
run_5 = run_of 5 0 0 200 260 8

-- the five runs, and the same with run 2 cancelled
abbrev pub five : List Run
five = run_1 ∷ run_2 ∷ run_3 ∷ run_4 ∷ run_5 ∷ []

abbrev pub without_2 : List Run
without_2 = run_1 ∷ run_3 ∷ run_4 ∷ run_5 ∷ []

-- the levels of v at the minutes in which something happens
abbrev pub levels : List Run → ℕ → List ℤ
levels T v = map (level T v) (100 ∷ 120 ∷ 150 ∷ 160 ∷ 170 ∷ 200 ∷ 230 ∷ 260 ∷ [])

-- two runs that are never out together
abbrev pub never_together : List Run
never_together = run_of 1 0 1 100 110 0 ∷ run_of 2 2 3 200 210 0 ∷ []

-- two runs, and a third that links them
abbrev pub unlinked : List Run
unlinked = run_of 1 2 0 0 5 0 ∷ run_of 2 1 3 20 30 0 ∷ []

abbrev pub linked_by_a_third : List Run
linked_by_a_third = run_of 1 2 0 0 5 0 ∷ run_of 2 1 3 20 30 0 ∷ run_of 3 0 1 10 15 0 ∷ []

abbrev pub block : ℕ → ℕ → List Run → Block
block v i rs = record { vault = v; number = i; runs = rs }

-- the blocks of the five runs, and with run 2 cancelled
abbrev pub blocks_of_five : List Block
blocks_of_five = block 0 1 (run_1 ∷ run_4 ∷ []) ∷ block 0 2 (run_2 ∷ run_3 ∷ run_5 ∷ []) ∷ []

abbrev pub blocks_without_2 : List Block
blocks_without_2 = block 0 1 (run_1 ∷ run_4 ∷ []) ∷ block 1 1 (run_3 ∷ run_5 ∷ []) ∷ []

pub record WorkedTable : Type 0 where
  -- the five runs keep the rules of a timetable
  pub numbers_apart : Apart five
  pub all_take_time : Forward five
  -- vault 1's levels at 150, 160 and 170 are 0, -1 and 0
  pub level_of_1_at_150 : level five 1 150 ≡ pos 0
  pub level_of_1_at_160 : level five 1 160 ≡ neg_ℤ (pos 1)
  pub level_of_1_at_170 : level five 1 170 ≡ pos 0
  -- all levels of both vaults
  pub levels_of_0 : levels five 0 ≡ pos 1 ∷ pos 2 ∷ pos 2 ∷ pos 2 ∷ pos 2 ∷ pos 2 ∷ pos 1 ∷ pos 0 ∷ []
  pub levels_of_1 : levels five 1 ≡ pos 0 ∷ pos 0 ∷ pos 0 ∷ neg_ℤ (pos 1) ∷ pos 0 ∷ pos 0 ∷ pos 0 ∷ pos 0 ∷ []
  -- vault 0 needs 2, first at 120; vault 1 needs 0, at no minute; 2 in total
  pub need_of_0 : NeedAnswer five 0 (2, Some 120)
  pub need_of_1 : NeedAnswer five 1 (0, None)
  pub total_of_five : total five 2 ≡ 2
  -- links
  pub before_1 : Before five (need_of five) run_1 (box 0 1)
  pub before_2 : Before five (need_of five) run_2 (box 0 2)
  pub before_3 : Before five (need_of five) run_3 (brought_by run_2)
  pub before_4 : Before five (need_of five) run_4 (brought_by run_1)
  pub before_5 : Before five (need_of five) run_5 (brought_by run_3)
  pub after_1 : After five (need_of five) run_1 (Some run_4)
  pub after_2 : After five (need_of five) run_2 (Some run_3)
  pub after_3 : After five (need_of five) run_3 (Some run_5)
  pub after_4 : After five (need_of five) run_4 None
  pub after_5 : After five (need_of five) run_5 None
  -- blocks: box 0.1 works runs 1, 4 and box 0.2 works runs 2, 3, 5, with fittings 1 and 14
  pub blocks : Fifo five (need_of five) blocks_of_five
  pub blocks_in_order : SheetOrder blocks_of_five
  pub fittings_of_box_1 : fittings_of (run_1 ∷ run_4 ∷ []) ≡ 1
  pub fittings_of_box_2 : fittings_of (run_2 ∷ run_3 ∷ run_5 ∷ []) ≡ 14
  -- fittings leaving vault 0 from 100 to 120 are 3, and coming to it from 200 to 230 are 5; with no such run, 0
  pub leaving_0 : fittings_leaving five 0 100 120 ≡ 3
  pub coming_to_0 : fittings_coming five 0 200 230 ≡ 5
  pub leaving_none : fittings_leaving five 0 201 300 ≡ 0
  -- with run 2 cancelled the answers are (1, 100) and (1, 150), and boxes 0.1 and 1.1 work runs 1, 4 and 3, 5
  pub without_2_levels_of_0 : levels without_2 0 ≡ pos 1 ∷ pos 1 ∷ pos 1 ∷ pos 1 ∷ pos 1 ∷ pos 1 ∷ pos 0 ∷ neg_ℤ (pos 1) ∷ []
  pub without_2_levels_of_1 : levels without_2 1 ≡ pos 0 ∷ pos 0 ∷ pos 1 ∷ pos 0 ∷ pos 1 ∷ pos 1 ∷ pos 1 ∷ pos 1 ∷ []
  pub without_2_need_of_0 : NeedAnswer without_2 0 (1, Some 100)
  pub without_2_need_of_1 : NeedAnswer without_2 1 (1, Some 150)
  pub without_2_total : total without_2 2 ≡ 2
  pub without_2_blocks : Fifo without_2 (need_of without_2) blocks_without_2
  pub without_2_blocks_in_order : SheetOrder blocks_without_2
  -- runs 0 to 1 from 100 to 110 and 2 to 3 from 200 to 210 are never out together, and need 2 in total
  pub never_together_total : total never_together 4 ≡ 2
  -- runs 2 to 0 from 0 to 5 and 1 to 3 from 20 to 30 need 2 in total, and with 0 to 1 from 10 to 15 added only 1
  pub unlinked_total : total unlinked 4 ≡ 2
  pub linked_by_a_third_total : total linked_by_a_third 4 ≡ 1
