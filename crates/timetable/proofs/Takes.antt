-- Before and after are two readings of one relation.
use Rattle.std.proofs.Common.{ℕ, List, arith}
use Rattle.std.specs.List.{ContainsAt as Has}
use Rattle.run.specs.declared.Run.{Run}
use Rattle.timetable.specs.Fifo.{brought_by, Before, Takes}

pub takes_of : (T : List Run) (need : ℕ → ℕ) (r s : Run) → Before T need s (brought_by r) → Takes T need r s
takes_of T need r s h =
    let late = h.2 in
    let e = h.3 in
    record { there = h.1; turn = omega arith }

pub before_of : (T : List Run) (need : ℕ → ℕ) (r s : Run) → Has T r → Takes T need r s → Before T need s (brought_by r)
before_of T need r s i h =
    let e = h.turn in
    (i, h.there, omega arith, omega arith)
