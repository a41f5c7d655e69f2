-- The times that a run may have.
use Rattle.std.specs.Prelude.{ℕ, ◌<◌, ◌≤◌, cond, ◌||◌, Some, None, Ok, Err, Option, Result, nat_lt}
use Rattle.fault.specs.declared.PlanFault.{PlanFault}
use Rattle.fault.specs.declared.PlanFault.TheVariants.{Minute, EndNotAfterStart}

-- minutes are checked before their order
abbrev pub times_fault : (start end : ℕ) → Option PlanFault
times_fault start end =
    cond (nat_lt 16777215 start || nat_lt 16777215 end) (Some Minute) (cond (nat_lt start end) None (Some EndNotAfterStart))

abbrev pub refusing : Option PlanFault → Result (Unit {0}) PlanFault
refusing None = Ok tt
refusing (Some fault) = Err fault

abbrev pub times_checked : (start end : ℕ) → Result (Unit {0}) PlanFault
times_checked start end = refusing (times_fault start end)

-- both are minutes, and the end is later
abbrev pub LawfulTimes : (start end : ℕ) → Type 0
LawfulTimes start end = (start ≤ 16777215) × (end ≤ 16777215) × (start < end)
