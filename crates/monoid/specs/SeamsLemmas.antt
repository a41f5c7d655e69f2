-- The law of the join of stretches.
use Rattle.std.specs.Prelude.{◌≡◌, Bool, ◌&&◌}
use Rattle.std.proofs.Common.{ap, arith}
use Rattle.std.proofs.lemmas.Bool.Decides.{nat_tests}
use Rattle.monoid.specs.declared.seam.Stretch.{Stretch}
use Rattle.monoid.specs.Seams.{meets, end_to_end}

-- a and b meet in p, b and c in q
regrouped : (a b c p q : Bool) → ((a && (b && p)) && (c && q)) ≡ (a && ((b && (c && q)) && p))
regrouped a b c p q = grind (arith, nat_tests)

pub assoc : (a b c : Stretch) → end_to_end (end_to_end a b) c ≡ end_to_end a (end_to_end b c)
assoc a b c = ap (λ t. record { first = a.first; last = c.last; sound = t }) (regrouped a.sound b.sound c.sound (meets a b) (meets b c))
