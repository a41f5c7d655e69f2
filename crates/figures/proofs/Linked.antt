-- Links, read off the departures and the arrivals of a timetable.
use Rattle.std.proofs.Common.{◌≡◌, ℕ, ◌+◌, ◌-◌, ◌<◌, ◌≤◌, eqb, ◌⊎◌, List, Some, None, count_by, sym, refl, ap, inl, inr, arith}
use Rattle.std.specs.List.{ContainsAt as Has}
use Rattle.std.proofs.lemmas.Bool.{cases_lt}
use Rattle.monoid.specs.declared.fittings.Fittings.{Fittings}
use Rattle.run.specs.declared.Run.{Run}
use Rattle.run.specs.Keys.{departure_key, arrival_key}
use Rattle.timetable.specs.Levels.{Needs}
use Rattle.timetable.specs.Fifo.{departure_number, arrival_number, Origin, box, brought_by, Before, After}
use Rattle.timetable.proofs.Links.{one_before}
use Rattle.figures.specs.Listed.{ListsDepartures, ListsArrivals, departure_entry, arrival_entry, Keyed}
use Rattle.figures.specs.Reading.{number_read, stop_read, before_read, after_read}
use Rattle.figures.specs.Laws.{StopAt, LinksAreRead}
use Rattle.figures.proofs.Places.{numbers_are_read, stops_are_read}

module _ (T : List Run) (need : ℕ → ℕ) (outs ins : List (ℕ × Fittings)) (keyed : Keyed T) (needs : Needs T need) (left : ListsDepartures T outs) (came : ListsArrivals T ins) (r : Run) (in_t : Has T r) where
  out_number : number_read outs r.from (departure_key r) ≡ departure_number T r
  out_number = numbers_are_read.departures T outs keyed left r in_t

  in_number : number_read ins r.to (arrival_key r) ≡ arrival_number T r
  in_number = numbers_are_read.arrivals T ins keyed came r in_t

  run_in : need r.from < number_read outs r.from (departure_key r) → (s : Run) × Before T need r (brought_by s) × (before_read outs ins (need r.from) r ≡ Some (arrival_entry s))
  run_in past = go (one_before T need needs keyed.apart r in_t).0
    where
      i : ℕ
      i = number_read outs r.from (departure_key r) - need r.from

      at : StopAt T (λ s. s.to) (arrival_number T) arrival_entry r.from i (stop_read ins r.from i)
      at = stops_are_read.arrivals T ins keyed came r.from i (omega arith)

      go : (o : Origin) × Before T need r o → (s : Run) × Before T need r (brought_by s) × (before_read outs ins (need r.from) r ≡ Some (arrival_entry s))
      go (box v n, b) =
          let is = b.1 in
          let low = b.2 in
          absurd (omega (arith, out_number, ap need b.0))
      go (brought_by s, b) =
          let number = b.3 in
          (s, b, at.found s b.0 b.1 (omega (arith, out_number)))

  abbrev turn : ℕ
  turn = need r.to + number_read ins r.to (arrival_key r)

  at_turn : StopAt T (λ s. s.from) (departure_number T) departure_entry r.to turn (stop_read outs r.to turn)
  at_turn = stops_are_read.departures T outs keyed left r.to turn (omega arith)

  next : (s : Run) → After T need r (Some s) → after_read outs ins (need r.to) r ≡ Some (departure_entry s)
  next s a = at_turn.found s a.0 (sym a.1.there) (omega (arith, a.1.turn, in_number, ap need a.1.there))

  last : After T need r None → (e : ℕ × Fittings) → after_read outs ins (need r.to) r ≡ Some e → (s : Run) × Has T s × (departure_entry s ≡ e) × (s.from ≡ r.to → ⊥)
  last none e read = go (cases_lt (count_by (λ s. eqb s.from r.to) T) turn)
    where
      go : (count_by (λ s. eqb s.from r.to) T < turn) ⊎ (turn ≤ count_by (λ s. eqb s.from r.to) T) → (s : Run) × Has T s × (departure_entry s ≡ e) × (s.from ≡ r.to → ⊥)
      go (inl beyond) = at_turn.beyond beyond e read
      go (inr within) =
          let f = at_turn.there within in
          let number = f.3 in
          absurd (none f.0 f.1 (record { there = sym f.2; turn = omega (arith, in_number, ap need f.2) }))

pub links_are_read : LinksAreRead
links_are_read T need outs ins keyed needs left came r m = (
  record { box_out = λ low. (refl, out_number T need outs ins keyed needs left came r m, low); run_in = run_in T need outs ins keyed needs left came r m },
  record { next = next T need outs ins keyed needs left came r m; last = last T need outs ins keyed needs left came r m },
)
