-- The laws of unions of bits.
use Rattle.std.specs.Prelude.{◌≡◌, ℕ, bit_or, refl}
use Rattle.std.proofs.Common.{ap, arith}
use Rattle.std.specs.Int.Bits.{or_zero_l, or_zero_r}
use Rattle.std.proofs.lemmas.Nat.Bits.{bit_at_or, same_from_bits}
use Rattle.monoid.specs.declared.fittings.Fittings.{Fittings}
use Rattle.monoid.specs.Sets.{set_of, union}

or_assoc : (a b c : ℕ) → bit_or (bit_or a b) c ≡ bit_or a (bit_or b c)
or_assoc a b c =
    same_from_bits (bit_or (bit_or a b) c) (bit_or a (bit_or b c))
    (λ i. omega (arith, bit_at_or (bit_or a b) c i, bit_at_or a b i, bit_at_or a (bit_or b c) i, bit_at_or b c i))

pub left : (x : Fittings) → union (set_of 0) x ≡ x
left x = ap set_of (or_zero_l x.0)

pub right : (x : Fittings) → union x (set_of 0) ≡ x
right x = ap set_of (or_zero_r x.0)

pub assoc : (x y z : Fittings) → union (union x y) z ≡ union x (union y z)
assoc x y z = ap set_of (or_assoc x.0 y.0 z.0)

pub back : (x : Fittings) → set_of x.0 ≡ x
back x = refl
