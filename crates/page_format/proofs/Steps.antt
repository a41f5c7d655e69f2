-- What a step of the reading says of the steps that it is made of.
use Rattle.std.proofs.Common.{◌≡◌, ◌⊎◌, Some, None, Ok, Err, Option, Result, refl, ap, inl, inr}
use Rattle.fault.specs.declared.PageFault.{PageFault}
use Rattle.fault.specs.declared.Located.{Located}
use Rattle.page_format.specs.Reading.{unless, after}

-- a check and what follows it: both pass, or one of them has the fault
pub unless_ok : {A : Type 0} (o : Option PageFault) (place : PageFault → Located) (go : Result A Located) (v : A) → unless o (λ f. Err (place f)) go ≡ Ok v → (o ≡ None) × (go ≡ Ok v)
unless_ok (Some f) place go v h = cc
unless_ok None place go v h = (refl, h)

pub unless_err : {A : Type 0} (o : Option PageFault) (place : PageFault → Located) (go : Result A Located) (e : Located) → unless o (λ f. Err (place f)) go ≡ Err e → ((f : PageFault) × (place f ≡ e)) ⊎ ((o ≡ None) × (go ≡ Err e))
unless_err (Some f) place go e h = inl (f, cc)
unless_err None place go e h = inr (refl, h)

-- two steps in a row
pub after_to : {A B : Type 0} (r : Result A Located) (go : A → Result B Located) (a : A) → r ≡ Ok a → after r go ≡ go a
after_to r go a h = ap (λ v. after v go) h

pub after_ok : {A B : Type 0} (r : Result A Located) (go : A → Result B Located) (v : B) → after r go ≡ Ok v → (a : A) × (r ≡ Ok a) × (go a ≡ Ok v)
after_ok (Ok a) go v h = (a, refl, h)
after_ok (Err e) go v h = cc

pub after_err : {A B : Type 0} (r : Result A Located) (go : A → Result B Located) (e : Located) → after r go ≡ Err e → (r ≡ Err e) ⊎ ((a : A) × (r ≡ Ok a) × (go a ≡ Err e))
after_err (Ok a) go e h = inr (a, refl, h)
after_err (Err d) go e h = inl (cc)
