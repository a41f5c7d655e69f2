-- The fold of runs.
use Rattle.std.proofs.Common.{◌≡◌, Bool, true, ◌&&◌, eqb, leb, List, [], ◌∷◌, map, Some, None, sym, refl, ap, ◌∙◌}
use Rattle.std.proofs.lemmas.Bool.{and_parts, and_from, eqb-true, leb-true, eq-eqb, le-leb}
use Rattle.monoid.specs.declared.seam.Stop.{Stop}
use Rattle.monoid.specs.declared.seam.Stretch.{Stretch}
use Rattle.monoid.specs.Folds.{total}
use Rattle.monoid.specs.Seams.{stop, end_to_end, Seam, seamed, Leg, of_leg, Sews}
use Rattle.monoid.specs.Laws.{RunsSeamed}
use Rattle.monoid.specs.FoldsLemmas.{total_cons}
use Rattle.monoid.specs.SemigroupsLemmas as Semigroups
use Rattle.monoid.specs.SeamsLemmas.{assoc}

abbrev seam_of : List Leg → Seam
seam_of legs = total None seamed (map of_leg legs)

sewn : (r : Leg) (rest : List Leg) → (x : Stretch) × (seam_of (r ∷ rest) ≡ Some x) × Sews r rest x
sewn r [] = (record { first = stop r.from r.start; last = stop r.to r.end; sound = true }, refl, record { first = refl; last = refl; sound = (λ _. tt, λ _. refl) })
sewn r (s ∷ rest) =
    let more = sewn s rest in
    let x = more.0 in
    let h = more.2 in
    let meet : Bool = eqb r.to x.first.vault in
    let timely : Bool = leb r.end x.first.minute in
    let from : x.first.vault ≡ s.from = ap (λ (p : Stop). p.vault) h.first in
    let start : x.first.minute ≡ s.start = ap (λ (p : Stop). p.minute) h.first in (
      record { first = stop r.from r.start; last = x.last; sound = x.sound && (meet && timely) },
      total_cons None seamed (Semigroups.left end_to_end) (Semigroups.right end_to_end) (Semigroups.assoc end_to_end assoc) (of_leg r) (map of_leg (s ∷ rest)) ∙ ap (seamed (of_leg r)) more.1,
      record {
        first = refl;
        last = h.last;
        sound = (
          λ e.
              let p = and_parts x.sound (meet && timely) e in
              let q = and_parts meet timely p.1 in
              (record { there = eqb-true r.to x.first.vault q.0 ∙ from; in_time = rw start at (leb-true r.end x.first.minute q.1) }, h.sound.0 p.0),
          λ c. and_from x.sound (meet && timely) (h.sound.1 c.1) (and_from meet timely (eq-eqb r.to x.first.vault (c.0.there ∙ sym from)) (le-leb r.end x.first.minute (rw start c.0.in_time))),
        );
      },
    )

pub runs_seamed : RunsSeamed
runs_seamed = record { nothing = refl; runs = sewn }
