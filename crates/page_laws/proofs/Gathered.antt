-- What a reader hands out, asked for its records to the end.
use Rattle.std.proofs.Common.{◌≡◌, ℕ, zero, suc, ◌+◌, ◌-◌, ◌<◌, ◌≤◌, ◌⊎◌, List, length, drop, Some, None, Ok, Option, refl, inl, inr, arith}
use Rattle.std.proofs.lemmas.List.{drop-drop}
use Rattle.std.proofs.lemmas.Bool.{le-leb, cases_lt}
use Rattle.fault.specs.declared.PageFault.{PageFault}
use Rattle.fault.specs.declared.Section.{Section}
use Rattle.page_format.specs.Grammar.{limit, width}
use Rattle.page_format.specs.Reading.{record_fault, record_size, count_fault, items}
use Rattle.page_format.proofs.Sections.{count_none, section_parts}
use Rattle.page_records.specs.declared.cursor.Cursor.{Cursor}
use Rattle.page_laws.specs.Laws.{ReadersHandOut}
use Rattle.page_records.specs.Steps.{moved, rest_of}
use Rattle.page_laws.specs.Walked.{gathered}
use Rattle.page_records.proofs.Walks.{count, next_none, next_stop, next_some}

-- n calls of `next` hand out all that is left of a sound section, if that is at most n records
abbrev HandsOut : (x : Section) → List ℕ → ℕ → Cursor → Type 0
HandsOut x p n c =
    (e : ℕ) → count_fault x (drop c.start p) ≡ None → c.read ≤ count x p c → count x p c ≤ c.read + n → rest_of x p c ≡ Ok e → gathered x p n c ≡ items x (count x p c - c.read) (drop c.at p)

-- one call more
hands_one : (x : Section) (p : List ℕ) (n : ℕ) (c : Cursor) → ((size : ℕ) → HandsOut x p n (moved c size)) → HandsOut x p (suc n) c
unfolding gathered
hands_one x p n c more e h l m q = left (cases_lt c.read (count x p c))
  where
    sound : c.read < count x p c → (o : Option PageFault) → record_fault x (drop c.at p) ≡ o → gathered x p (suc n) c ≡ items x (count x p c - c.read) (drop c.at p)
    sound k None r =
        let w = next_some x p c h k r in
        let z : count x p c - c.read ≡ suc (count x p c - (c.read + 1)) = omega arith in
        let i = more (record_size x (drop c.at p)) e h (omega arith) (omega arith) (rw w.1 q) in
        rw (w.0, z, drop-drop (record_size x (drop c.at p)) c.at p, i)
    sound k (Some f) r = let w = next_stop x p c f h k r in cc

    left : (c.read < count x p c) ⊎ (count x p c ≤ c.read) → gathered x p (suc n) c ≡ items x (count x p c - c.read) (drop c.at p)
    left (inl k) = sound k (record_fault x (drop c.at p)) refl
    left (inr k) =
        let w = next_none x p c h k in
        let z : count x p c - c.read ≡ 0 = omega arith in
        rw (w.0, z)

hands_out : (x : Section) (p : List ℕ) (n : ℕ) (c : Cursor) → HandsOut x p n c
unfolding gathered
hands_out x p zero c e h l m q = let z : count x p c - c.read ≡ 0 = omega arith in rw z
hands_out x p (suc n) c e h l m q = hands_one x p n c (λ size. hands_out x p n (moved c size)) e h l m q

-- a reader at the opening of a sound section hands out all that the section says
pub readers_hand_out : ReadersHandOut
readers_hand_out x p start end h =
    let s = section_parts x p start end h in
    let k = count_none x (drop start p) s.0 in
    let first : Cursor = record { start = start; read = 0; at = start + width x } in
    let z : count x p first - 0 ≡ count x p first = omega arith in
    rw (le-leb (width x) (length (drop start p)) k.0, ← z) (hands_out x p (limit x) first end s.0 (omega arith) (omega arith) h)
