-- Seams: their join, and the runs they come from.
use Rattle.std.specs.Prelude.{◌≡◌, ℕ, ◌≤◌, Bool, true, ◌&&◌, List, [], ◌∷◌, Some, Option, ◌==◌, nat_le}
use Rattle.monoid.specs.declared.seam.Stop.{Stop}
use Rattle.monoid.specs.declared.seam.Stretch.{Stretch}
use Rattle.monoid.specs.Semigroups.{with_unit}

abbrev pub stop : ℕ → ℕ → Stop
stop v t = record { vault = v; minute = t }

-- the second stretch begins in the vault where the first ends, and not before that end
abbrev pub meets : Stretch → Stretch → Bool
meets a b = a.last.vault == b.first.vault && nat_le a.last.minute b.first.minute

-- two stretches as one
abbrev pub end_to_end : Stretch → Stretch → Stretch
end_to_end a b = record { first = a.first; last = b.last; sound = a.sound && (b.sound && meets a b) }

-- no run, or the stretch of some
abbrev pub Seam : Type 0
Seam = Option Stretch

abbrev pub seamed : Seam → Seam → Seam
seamed = with_unit end_to_end

-- the seam of one run
abbrev pub of_run : ℕ → ℕ → ℕ → ℕ → Seam
of_run from start to end = Some (record { first = stop from start; last = stop to end; sound = true })

-- what a seam takes of a run
pub record Leg : Type 0 where
  pub from : ℕ
  pub start : ℕ
  pub to : ℕ
  pub end : ℕ

abbrev pub of_leg : Leg → Seam
of_leg r = of_run r.from r.start r.to r.end

-- s starts in the vault where r ended, and not before that end
pub record Follows (r s : Leg) : Type 0 where
  pub there : r.to ≡ s.from
  pub in_time : r.end ≤ s.start

-- each next run follows the one before
abbrev pub Chain : Leg → List Leg → Type 0
Chain r [] = Unit {0}
Chain r (s ∷ rest) = Follows r s × Chain s rest

abbrev pub last_of : Leg → List Leg → Leg
last_of r [] = r
last_of r (s ∷ rest) = last_of s rest

-- what the seam of some runs tells, of which there is a first
pub record Sews (r : Leg) (rest : List Leg) (x : Stretch) : Type 0 where
  pub first : x.first ≡ stop r.from r.start
  pub last : x.last ≡ stop (last_of r rest).to (last_of r rest).end
  pub sound : (x.sound ≡ true → Chain r rest) × (Chain r rest → x.sound ≡ true)
