-- A join with a unit put to it.
use Rattle.std.specs.Prelude.{Some, None, Option}

-- `None` is the unit
abbrev pub with_unit : {S : Type 0} → (S → S → S) → Option S → Option S → Option S
with_unit join None y = y
with_unit join (Some a) None = Some a
with_unit join (Some a) (Some b) = Some (join a b)
