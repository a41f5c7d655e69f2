-- The seam of a list of runs.
use Rattle.std.specs.Prelude.{◌≡◌, List, [], ◌∷◌, map, Some, None}
use Rattle.monoid.specs.declared.seam.Stretch.{Stretch}
use Rattle.monoid.specs.Folds.{total}
use Rattle.monoid.specs.Seams.{Seam, stop, seamed, of_run}
use Rattle.run.specs.declared.Run.{Run}
use Rattle.run.specs.Minutes.{arrival_minute}
use Rattle.timetable.specs.Links.{First}

-- a run's seam: from-vault, start, to-vault, arrival minute
abbrev pub seam_of_run : Run → Seam
seam_of_run r = of_run r.from r.start r.to (arrival_minute r)

abbrev pub seam_of : List Run → Seam
seam_of runs = total None seamed (map seam_of_run runs)

-- r is the last of the list
abbrev pub Last : Run → List Run → Type 0
Last r [] = ⊥
Last r (x ∷ []) = x ≡ r
Last r (x ∷ y ∷ zs) = Last r (y ∷ zs)

-- x is the seam of the runs: it has the first one's from-vault and start, and the last one's to-vault and arrival minute
pub record Sewn (runs : List Run) (x : Stretch) : Type 0 where
  pub fold : seam_of runs ≡ Some x
  pub first : (r : Run) → First r runs → x.first ≡ stop r.from r.start
  pub last : (r : Run) → Last r runs → x.last ≡ stop r.to (arrival_minute r)
