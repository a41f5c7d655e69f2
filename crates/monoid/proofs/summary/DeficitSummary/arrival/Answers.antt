use Rattle.std.proofs.Common.{arith}
use Rattle.std.proofs.lemmas.Int.{ints}
use Rattle.monoid.proofs.summary.DeficitSummary.arrival.Goals as goal

pub invariant_of-result : goal.invariant_of-result
invariant_of-result c =
    record { few = omega arith; low = omega (arith, ints); under = omega (arith, ints); high = omega arith; near = omega arith; flat = λ e. omega arith; full = λ e. absurd (omega arith) }
