-- Readers that are asked for their records to the end.
use Rattle.std.proofs.Common.{◌≡◌, ℕ, zero, suc, ◌+◌, ◌-◌, ◌<◌, ◌≤◌, ◌⊎◌, List, length, drop, Some, None, Ok, Err, Option, Result, refl, inl, inr, arith, lit≤}
use Rattle.std.proofs.lemmas.Bool.{le-leb, cases_lt}
use Rattle.fault.specs.declared.PageFault.{PageFault}
use Rattle.fault.specs.declared.Section.{Section}
use Rattle.fault.specs.declared.Section.TheVariants.{Names, Runs, Edits}
use Rattle.fault.specs.declared.Located.{Located}
use Rattle.page_format.specs.Grammar.{limit, width}
use Rattle.page_format.specs.Reading.{after, at_end, record_fault, record_size, count_fault, count_of, section_end, reading}
use Rattle.page_format.proofs.Sections.{count_none}
use Rattle.page_records.specs.declared.cursor.Cursor.{Cursor}
use Rattle.page_records.proofs.Walks.{count, next_fault, next_none, next_stop, next_some}
use Rattle.page_laws.specs.Laws.{ReadersAgree, NextKeeps}
use Rattle.page_records.specs.Steps.{moved, opening, rest_of}
use Rattle.page_laws.specs.Walked.{walked, to_end, walked_page}
use Rattle.page.specs.Wholes.{tallied}
use Rattle.page.proofs.Tallies.{length_items}

-- reading a record does not change what the step will say
pub next_keeps : NextKeeps
next_keeps x p c size e = counted (count_fault x (drop c.start p)) refl
  where
    sound : count_fault x (drop c.start p) ≡ None → c.read < count x p c → (o : Option PageFault) → record_fault x (drop c.at p) ≡ o → rest_of x p (moved c size) ≡ rest_of x p c
    sound h l None r =
        let w = next_some x p c h l r in
        let k : record_size x (drop c.at p) ≡ size = cc in
        rw k at w.1
    sound h l (Some f) r = let w = next_stop x p c f h l r in cc

    left : count_fault x (drop c.start p) ≡ None → (c.read < count x p c) ⊎ (count x p c ≤ c.read) → rest_of x p (moved c size) ≡ rest_of x p c
    left h (inl l) = sound h l (record_fault x (drop c.at p)) refl
    left h (inr l) = let w = next_none x p c h l in cc

    counted : (o : Option PageFault) → count_fault x (drop c.start p) ≡ o → rest_of x p (moved c size) ≡ rest_of x p c
    counted None h = left h (cases_lt c.read (count x p c))
    counted (Some f) h = let w = next_fault x p c f h in cc

-- the cursor past the last record of the section that has its count at `start`
abbrev ended : Section → List ℕ → (start end : ℕ) → Cursor
ended x p start end = record { start = start; read = count_of x (drop start p); at = end }

-- n calls of `next` come to where the section ends, or to its first fault, if at most n records are left
abbrev EndsIn : Section → List ℕ → ℕ → Cursor → Type 0
EndsIn x p n c =
    count_fault x (drop c.start p) ≡ None → c.read ≤ count x p c → count x p c ≤ c.read + n → walked x p n c ≡ after (rest_of x p c) (λ e. Ok (ended x p c.start e))

-- one call more: the next record is sound, or has a fault, or there is none
ends_one : (x : Section) (p : List ℕ) (n : ℕ) (c : Cursor) → ((size : ℕ) → EndsIn x p n (moved c size)) → EndsIn x p (suc n) c
unfolding walked
ends_one x p n c more h l m = left (cases_lt c.read (count x p c))
  where
    sound : c.read < count x p c → (o : Option PageFault) → record_fault x (drop c.at p) ≡ o → walked x p (suc n) c ≡ after (rest_of x p c) (λ e. Ok (ended x p c.start e))
    sound k None r =
        let w = next_some x p c h k r in
        rw (w.0, ← w.1) (more (record_size x (drop c.at p)) h (omega arith) (omega arith))
    sound k (Some f) r = let w = next_stop x p c f h k r in rw (w.0, w.1)

    left : (c.read < count x p c) ⊎ (count x p c ≤ c.read) → walked x p (suc n) c ≡ after (rest_of x p c) (λ e. Ok (ended x p c.start e))
    left (inl k) = sound k (record_fault x (drop c.at p)) refl
    left (inr k) =
        let w = next_none x p c h k in
        let e : count x p c ≡ c.read = omega arith in
        rw (w.0, w.1, e)

ends_in : (x : Section) (p : List ℕ) (n : ℕ) (c : Cursor) → EndsIn x p n c
unfolding walked
ends_in x p zero c h l m =
    let w = next_none x p c h (omega arith) in
    let e : count x p c ≡ c.read = omega arith in
    rw (w.1, e)
ends_in x p (suc n) c h l m = ends_one x p n c (λ size. ends_in x p n (moved c size)) h l m

-- a section may have a record, so that `next` is called at least once
limit_some : (x : Section) → 1 ≤ limit x
limit_some Names = lit≤ tt
limit_some Runs = lit≤ tt
limit_some Edits = lit≤ tt

-- a reader that is asked for all records of a section comes to its end, or tells its first fault
to_end_lem : (x : Section) (p : List ℕ) (start : ℕ) → to_end x p start ≡ after (section_end x p start) (λ e. Ok (ended x p start e))
unfolding to_end walked
to_end_lem x p start = counted (count_fault x (drop start p)) refl
  where
    counted : (o : Option PageFault) → count_fault x (drop start p) ≡ o → walked x p (limit x) (opening x p start) ≡ after (section_end x p start) (λ e. Ok (ended x p start e))
    counted None h =
        let k = count_none x (drop start p) h in
        let first : Cursor = record { start = start; read = 0; at = start + width x } in
        rw (le-leb (width x) (length (drop start p)) k.0) (ends_in x p (limit x) first h (omega arith) (omega arith))
    counted (Some f) h =
        let s = limit_some x in
        let m : limit x ≡ suc (limit x - 1) = omega arith in
        let w = next_fault x p (opening x p start) f h in
        rw (h, m, w.0)

-- readers that are asked for every record of a page tell what its reading tells
pub readers_agree : ReadersAgree
readers_agree p = names (section_end Names p 0) refl
  where
    end : (a b c : ℕ) → section_end Names p 0 ≡ Ok a → section_end Runs p a ≡ Ok b → section_end Edits p b ≡ Ok c → (r : Result ℕ Located) → at_end p c ≡ r → walked_page p ≡ tallied (reading p)
    end a b c n r t (Ok e) h =
        let i = length_items Names (count_of Names (drop 0 p)) (drop (0 + width Names) p) in
        let j = length_items Runs (count_of Runs (drop a p)) (drop (a + width Runs) p) in
        let k = length_items Edits (count_of Edits (drop b p)) (drop (b + width Edits) p) in
        rw (to_end_lem Names p 0, n, to_end_lem Runs p a, r, to_end_lem Edits p b, t, h, i, j, k)
    end a b c n r t (Err f) h = rw (to_end_lem Names p 0, n, to_end_lem Runs p a, r, to_end_lem Edits p b, t, h)

    edits : (a b : ℕ) → section_end Names p 0 ≡ Ok a → section_end Runs p a ≡ Ok b → (r : Result ℕ Located) → section_end Edits p b ≡ r → walked_page p ≡ tallied (reading p)
    edits a b n r (Ok c) h = end a b c n r h (at_end p c) refl
    edits a b n r (Err f) h = rw (to_end_lem Names p 0, n, to_end_lem Runs p a, r, to_end_lem Edits p b, h)

    runs : (a : ℕ) → section_end Names p 0 ≡ Ok a → (r : Result ℕ Located) → section_end Runs p a ≡ r → walked_page p ≡ tallied (reading p)
    runs a n (Ok b) h = edits a b n h (section_end Edits p b) refl
    runs a n (Err f) h = rw (to_end_lem Names p 0, n, to_end_lem Runs p a, h)

    names : (r : Result ℕ Located) → section_end Names p 0 ≡ r → walked_page p ≡ tallied (reading p)
    names (Ok a) h = runs a h (section_end Runs p a) refl
    names (Err f) h = rw (to_end_lem Names p 0, h)
