-- The laws of a join with a unit put to it.
use Rattle.std.specs.Prelude.{◌≡◌, Some, None, Option, refl}
use Rattle.std.proofs.Common.{ap}
use Rattle.monoid.specs.Semigroups.{with_unit}

module _ {S : Type 0} (join : S → S → S) where
  pub left : (x : Option S) → with_unit join None x ≡ x
  left x = refl

  pub right : (x : Option S) → with_unit join x None ≡ x
  right None = refl
  right (Some a) = refl

  pub assoc : ((a b c : S) → join (join a b) c ≡ join a (join b c)) → (x y z : Option S) → with_unit join (with_unit join x y) z ≡ with_unit join x (with_unit join y z)
  assoc law None y z = refl
  assoc law (Some a) None z = refl
  assoc law (Some a) (Some b) None = refl
  assoc law (Some a) (Some b) (Some c) = ap Some (law a b c)

-- a value is its own record
pub back : {S : Type 0} (x : Option S) → x ≡ x
back x = refl
