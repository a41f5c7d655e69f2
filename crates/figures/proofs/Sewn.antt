-- The seams of chains, and of first in, first out blocks.
use Rattle.std.proofs.Common.{◌≡◌, true, List, [], ◌∷◌, map, None, sym, refl, ap, ◌∙◌}
use Rattle.monoid.specs.declared.seam.Stretch.{Stretch}
use Rattle.monoid.specs.Folds.{total}
use Rattle.monoid.specs.Seams.{stop, seamed, Leg, of_leg, last_of}
use Rattle.monoid.specs.Seams.{Chain as LegsChain}
use Rattle.monoid.proofs.Seams.{runs_seamed}
use Rattle.run.specs.declared.Run.{Run}
use Rattle.run.specs.Minutes.{arrival_minute}
use Rattle.timetable.specs.Ways.{Chain}
use Rattle.timetable.proofs.Fifo.{blocks_are_chains}
use Rattle.figures.specs.Seams.{seam_of_run, Last, Sewn}
use Rattle.figures.specs.Laws.{SeamsTellChains, BlocksAreSound}

abbrev leg : Run → Leg
leg r = record { from = r.from; start = r.start; to = r.to; end = arrival_minute r }

legs_seams : (rs : List Run) → map of_leg (map leg rs) ≡ map seam_of_run rs
legs_seams [] = refl
legs_seams (r ∷ rs) = ap (λ xs. seam_of_run r ∷ xs) (legs_seams rs)

legs_chain : (r : Run) (rs : List Run) → LegsChain (leg r) (map leg rs) → Chain (r ∷ rs)
legs_chain r [] c = tt
legs_chain r (s ∷ rs) c = (record { there = c.0.there; in_time = c.0.in_time }, legs_chain s rs c.1)

chain_legs : (r : Run) (rs : List Run) → Chain (r ∷ rs) → LegsChain (leg r) (map leg rs)
chain_legs r [] c = tt
chain_legs r (s ∷ rs) c = (record { there = c.0.there; in_time = c.0.in_time }, chain_legs s rs c.1)

last_is : (r : Run) (rs : List Run) (s : Run) → Last s (r ∷ rs) → last_of (leg r) (map leg rs) ≡ leg s
last_is r [] s e = ap leg e
last_is r (x ∷ rs) s e = last_is x rs s e

pub seams_tell_chains : SeamsTellChains
seams_tell_chains r rs =
    let t = runs_seamed.runs (leg r) (map leg rs) in
    let x = t.0 in
    let s = t.2 in (
      x,
      record {
        fold = ap (total None seamed) (sym (legs_seams (r ∷ rs))) ∙ t.1;
        first = λ q e. s.first ∙ ap (λ (y : Run). stop y.from y.start) e;
        last = λ q e. s.last ∙ ap (λ (y : Leg). stop y.to y.end) (last_is r rs q e);
      },
      (λ e. legs_chain r rs (s.sound.0 e), λ c. s.sound.1 (chain_legs r rs c)),
    )

sound_chain : (rs : List Run) → Chain rs → (x : Stretch) × Sewn rs x × (x.sound ≡ true)
sound_chain [] c = absurd c
sound_chain (r ∷ rs) c = let t = seams_tell_chains r rs in (t.0, t.1, t.2.1 c)

pub blocks_are_sound : BlocksAreSound
blocks_are_sound T need B needs apart fifo b h = sound_chain b.runs (blocks_are_chains T need B needs apart fifo b h)
