-- How a call of `next` and the walk over what is left of a section go together.
use Rattle.std.proofs.Common.{◌≡◌, ℕ, suc, ◌+◌, ◌-◌, ◌<◌, ◌≤◌, List, drop, Some, None, Ok, Err, Option, refl, ◌∙◌, add-one, arith, lit≤}
use Rattle.std.proofs.lemmas.List.{drop-drop}
use Rattle.std.proofs.lemmas.Bool.{le-leb, lt-leb}
use Rattle.fault.specs.declared.Located.{Located}
use Rattle.fault.specs.declared.PageFault.{PageFault}
use Rattle.fault.specs.declared.Section.{Section}
use Rattle.fault.specs.declared.Section.TheVariants.{Names, Runs, Edits}
use Rattle.fault.specs.Places.{located}
use Rattle.page_format.specs.Grammar.{limit}
use Rattle.page_format.specs.Reading.{walk, record_fault, record_size, count_fault, count_of, section_rest}
use Rattle.page_format.proofs.Steps.{unless_ok}
use Rattle.page_records.specs.declared.cursor.Cursor.{Cursor}
use Rattle.page_records.specs.declared.record.Record.{Record}
use Rattle.page_records.specs.Takes.{Took}
use Rattle.page_records.specs.Steps.{sized, counted_at, ended_at, next_size, moved, rest_of}

-- how many records the cursor's section has
abbrev pub count : Section → List ℕ → Cursor → ℕ
count x p c = count_of x (drop c.start p)

-- the four ways of a call of `next`, with what the step says there: the count has a fault
pub next_fault : (x : Section) (p : List ℕ) (c : Cursor) (f : PageFault) → count_fault x (drop c.start p) ≡ Some f → (next_size x p c ≡ Err (located f x 0 c.start)) × (rest_of x p c ≡ Err (located f x 0 c.start))
next_fault x p c f h = (rw h, rw h)

-- all records are read
pub next_none : (x : Section) (p : List ℕ) (c : Cursor) → count_fault x (drop c.start p) ≡ None → count x p c ≤ c.read → (next_size x p c ≡ Ok None) × (rest_of x p c ≡ Ok c.at)
next_none x p c h l =
    let m : count x p c - c.read ≡ 0 = omega arith in
    (rw (h, le-leb (count x p c) c.read l), rw (h, m))

-- the next record has a fault
pub next_stop : (x : Section) (p : List ℕ) (c : Cursor) (f : PageFault) → count_fault x (drop c.start p) ≡ None → c.read < count x p c → record_fault x (drop c.at p) ≡ Some f → (next_size x p c ≡ Err (located f x (suc c.read) c.at)) × (rest_of x p c ≡ Err (located f x (suc c.read) c.at))
next_stop x p c f h l r =
    let m : count x p c - c.read ≡ suc (count x p c - (c.read + 1)) = omega arith in
    (rw (h, lt-leb (count x p c) c.read l, r), rw (h, m, r))

-- the next record is sound
pub next_some : (x : Section) (p : List ℕ) (c : Cursor) → count_fault x (drop c.start p) ≡ None → c.read < count x p c → record_fault x (drop c.at p) ≡ None → (next_size x p c ≡ Ok (Some (record_size x (drop c.at p)))) × (rest_of x p (moved c (record_size x (drop c.at p))) ≡ rest_of x p c)
next_some x p c h l r =
    let n = record_size x (drop c.at p) in
    let m : count x p c - c.read ≡ suc (count x p c - (c.read + 1)) = omega arith in
    (rw (h, lt-leb (count x p c) c.read l, r), rw (h, m, r, drop-drop n c.at p, add-one c.read))

-- a count that is told has no fault
counted_ok : (x : Section) (p : List ℕ) (start n : ℕ) → counted_at x p start ≡ Ok n → (count_fault x (drop start p) ≡ None) × (count_of x (drop start p) ≡ n)
counted_ok x p start n h = let q = unless_ok (count_fault x (drop start p)) (λ f. located f x 0 start) (Ok (count_of x (drop start p))) n h in (q.0, cc)

-- where the count is sound, what is left of the section is a walk
pub rest_from_count : (x : Section) (p : List ℕ) (start count read at : ℕ) → counted_at x p start ≡ Ok count → section_rest x p start read at ≡ walk x (count - read) (suc read) at (drop at p)
rest_from_count x p start count read at e = let q = counted_ok x p start count e in rw (q.0, q.1)

-- what a size says of the record
pub sized_ok : (x : Section) (s : List ℕ) (n : ℕ) → sized x s ≡ Ok n → (record_fault x s ≡ None) × (record_size x s ≡ n)
sized_ok x s n e = known (record_fault x s) refl
  where
    known : (o : Option PageFault) → record_fault x s ≡ o → (record_fault x s ≡ None) × (record_size x s ≡ n)
    known None eo = (eo, cc)
    known (Some f) eo = cc

-- past a sound record the walk goes on at the next one
pub walk_more : (x : Section) (p : List ℕ) (count k at e : ℕ) → k < count → ended_at x p (k + 1) at ≡ Ok e → walk x (count - k) (suc k) at (drop at p) ≡ walk x (count - (k + 1)) (suc (k + 1)) e (drop e p)
walk_more x p count k at e h q =
    let m : count - k ≡ suc (count - (k + 1)) = omega arith in
    let s = unless_ok (record_fault x (drop at p)) (λ f. located f x (k + 1) at) (Ok (at + record_size x (drop at p))) e q in
    let n : at + record_size x (drop at p) ≡ e = cc in
    rw (m, s.0, drop-drop (record_size x (drop at p)) at p, n, add-one k)

-- and at a faulty one it stops there
pub walk_stop : (x : Section) (p : List ℕ) (count k at : ℕ) (f : Located) → k < count → ended_at x p (k + 1) at ≡ Err f → walk x (count - k) (suc k) at (drop at p) ≡ Err f
walk_stop x p count k at f h q = known (record_fault x (drop at p)) refl
  where
    m : count - k ≡ suc (count - (k + 1))
    m = omega arith

    known : (o : Option PageFault) → record_fault x (drop at p) ≡ o → walk x (count - k) (suc k) at (drop at p) ≡ Err f
    known None eo = cc
    known (Some g) eo = cc (m, add-one k)

-- no section may have more records than the edits
pub limit_le : (x : Section) → limit x ≤ 2048
limit_le Names = lit≤ tt
limit_le Runs = lit≤ tt
limit_le Edits = lit≤ tt

-- a record that is taken leaves what the walk over the rest comes to
pub rest_more : (x : Section) (p : List ℕ) (c d : Cursor) (n : ℕ) (r : Record) → counted_at x p c.start ≡ Ok n → c.read < n → Took x p c d (Ok r) → rest_of x p d ≡ rest_of x p c
rest_more x p c d n r h l t =
    let q = counted_ok x p c.start n h in
    let e = unless_ok (record_fault x (drop c.at p)) (λ f. located f x (suc c.read) c.at) (Ok (c.at + record_size x (drop c.at p))) d.at t.0 in
    rw t.1 (next_some x p c q.0 (omega arith) e.0).1

-- and one that has a fault ends that walk
pub rest_stop : (x : Section) (p : List ℕ) (c : Cursor) (n : ℕ) (e : Located) → counted_at x p c.start ≡ Ok n → c.read < n → ended_at x p (suc c.read) c.at ≡ Err e → rest_of x p c ≡ Err e
rest_stop x p c n e h l t = known (record_fault x (drop c.at p)) refl
  where
    known : (o : Option PageFault) → record_fault x (drop c.at p) ≡ o → rest_of x p c ≡ Err e
    known None r = cc
    known (Some f) r = let q = counted_ok x p c.start n h in (next_stop x p c f q.0 (omega arith) r).1 ∙ cc
