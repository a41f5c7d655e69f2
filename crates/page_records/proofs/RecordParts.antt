-- What the size of the next record tells, and the parts of the page that the readers hand out.
use Rattle.std.proofs.Common.{◌≡◌, ℕ, suc, ◌+◌, ◌-◌, ◌<◌, ◌≤◌, cond, leb, List, length, get_or, take, drop, Some, None, Ok, Err, sym, refl, ap, ◌∙◌, inl, inr, add-zero, arith, lit≤, length-drop, Bor}
use Rattle.std.proofs.lemmas.List.{drop-drop, get_or-drop}
use Rattle.std.proofs.lemmas.Bool.{cases_lt, lt-leb}
use Rattle.std.proofs.lemmas.Bool.Decides.{nat_tests}
use Rattle.fault.specs.declared.Section.{Section}
use Rattle.fault.specs.declared.Section.TheVariants.{Names, Runs, Edits}
use Rattle.fault.specs.Places.{located}
use Rattle.page_format.specs.Reading.{kind_size, record_fault, record_size, count_fault, unless}
use Rattle.page_format.proofs.Steps.{unless_ok}
use Rattle.page_format.proofs.Records.{fault_none_size}
use Rattle.page_format.proofs.Sections.{count_none}
use Rattle.page_records.specs.declared.cursor.Cursor.{Cursor}
use Rattle.page_records.specs.declared.record.Record.{Record}
use Rattle.page_records.specs.Records.{Holds, of_kind}
use Rattle.page_records.specs.Steps.{next_size}
use Rattle.page_records.proofs.Walks.{count, limit_le, next_none}

two_bytes : (x : Section) (s : List ℕ) → record_fault x s ≡ None → 2 ≤ record_size x s
two_bytes Names s h = grind (arith, nat_tests)
two_bytes Runs s h = lit≤ tt
two_bytes Edits s h = grind (arith, nat_tests)

-- the next record has 2 bytes at least, lies on the page, and is not past the greatest count
pub next_fits : (x : Section) (p : List ℕ) (c : Cursor) (n : ℕ) → next_size x p c ≡ Ok (Some n) → (2 ≤ n) × (c.at + n ≤ length p) × (c.read < 2048)
next_fits x p c n h =
    let rest = unless (record_fault x (drop c.at p)) (λ f. Err (located f x (suc c.read) c.at)) (Ok (Some (record_size x (drop c.at p)))) in
    let q = unless_ok (count_fault x (drop c.start p)) (λ f. located f x 0 c.start) (cond (leb (count x p c) c.read) (Ok None) rest) (Some n) h in
    elim (cases_lt c.read (count x p c)) [
      | inl l ↦
          let t = unless_ok (record_fault x (drop c.at p)) (λ f. located f x (suc c.read) c.at) (Ok (Some (record_size x (drop c.at p)))) (Some n) (rw (lt-leb (count x p c) c.read l) at q.1) in
          let s = fault_none_size x (drop c.at p) t.0 in
          let k = count_none x (drop c.start p) q.0 in
          let m = limit_le x in
          let b = two_bytes x (drop c.at p) t.0 in
          let d = length-drop c.at p in
          let e : record_size x (drop c.at p) ≡ n = cc in
          (omega arith, omega arith, omega arith)
      | inr l ↦ let w = next_none x p c q.0 l in cc
    ]

-- the part of a record past its first byte
pub past_first : (p : List ℕ) (at n k : ℕ) → n ≡ 1 + k → take ((at + n) - (at + 1)) (drop (at + 1) p) ≡ take k (drop 1 (drop at p))
past_first p at n k e =
    let m : (at + n) - (at + 1) ≡ k = omega arith in
    rw (m, drop-drop 1 at p)

-- the part that is a whole record
pub whole_part : (p : List ℕ) (at n k : ℕ) → n ≡ k → take ((at + n) - at) (drop at p) ≡ take k (drop at p)
whole_part p at n k e = let m : (at + n) - at ≡ k = omega arith in rw m

-- an edit of a sound kind holds its part
pub holds_kind : (s : List ℕ) (k : ℕ) (part : Bor (List ℕ)) → get_or s 0 0 ≡ k → 1 ≤ kind_size k → part.now ≡ take (kind_size k) (drop 1 s) → Holds Edits s (of_kind k part)
holds_kind s k part e h q = grind (arith, nat_tests)

-- so does the record that is made of the page's bytes past the kind
pub holds_edit : (p : List ℕ) (at n : ℕ) (part : Bor (List ℕ)) (r : Record) → n ≡ 1 + kind_size (get_or (drop at p) 0 0) → 2 ≤ n → part.now ≡ take ((at + n) - (at + 1)) (drop (at + 1) p) → r ≡ of_kind (get_or p at 0) part → Holds Edits (drop at p) r
holds_edit p at n part r e h q i =
    let g : get_or p at 0 ≡ get_or (drop at p) 0 0 = ap (λ (j : ℕ). get_or p j 0) (sym (add-zero at)) ∙ sym (get_or-drop at p 0 0) in
    rw (i, g) (holds_kind (drop at p) (get_or (drop at p) 0 0) part refl (omega arith) (q ∙ past_first p at n (kind_size (get_or (drop at p) 0 0)) e))
