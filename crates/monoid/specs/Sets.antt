-- Sets of fittings, as numbers.
use Rattle.std.specs.Prelude.{◌≡◌, ℕ, bit_or}
use Rattle.std.specs.Int.{bit_at}
use Rattle.monoid.specs.declared.fittings.Fittings.{Fittings}

abbrev pub set_of : ℕ → Fittings
set_of n = record { 0 = n }

abbrev pub union : Fittings → Fittings → Fittings
union x y = set_of (bit_or x.0 y.0)

-- bit i of n is set
abbrev pub Bit : ℕ → ℕ → Type 0
Bit i n = bit_at n i ≡ 1
