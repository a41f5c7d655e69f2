-- The fold of a list of values.
use Rattle.std.specs.Prelude.{List, fold}

-- joined from left to right, starting from the unit
abbrev pub total : {M : Type 0} → M → (M → M → M) → List M → M
total unit join values = fold join unit values
