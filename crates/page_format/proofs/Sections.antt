-- A section: its count, and its records.
use Rattle.std.proofs.Common.{◌≡◌, ℕ, ◌+◌, ◌-◌, ◌<◌, ◌≤◌, List, ◌++◌, length, take, drop, None, Ok, Err, sym, refl, ap, ◌∙◌, inl, inr, append_assoc, arith, length-append, length-drop, take-add}
use native.Mathlib.Nat.{sub-zero}
use Rattle.std.specs.List.{flat_map, AllByRecursion}
use Rattle.std.proofs.lemmas.List.{drop_at, drop-drop}
use Rattle.std.proofs.ByRecursion.{All-drop}
use Rattle.std.proofs.lemmas.Bool.{le-ltb, ltb-false}
use Rattle.fault.specs.declared.Section.{Section}
use Rattle.fault.specs.declared.Section.TheVariants.{Names, Runs, Edits}
use Rattle.fault.specs.declared.Located.{Located}
use Rattle.page_format.specs.Grammar.{Item, Lawful, item_bytes, limit, width, count_bytes, section_bytes}
use Rattle.fault.specs.Places.{located}
use Rattle.page_format.specs.Reading.{count_of, count_fault, walk, section_end, section_items}
use Rattle.page_format.specs.Laws.{Bytes}
use Rattle.page_format.proofs.Digits.{two_back, firsts_take, two_at_is}
use Rattle.page_format.proofs.Records.{cond_none}
use Rattle.page_format.proofs.Steps.{unless_ok, unless_err}
use Rattle.page_format.proofs.Walks.{walk_written, walk_within, walk_fault, walk_read}

-- the bytes of a count: how many they are, and the count that they give back
count_width : (x : Section) (n : ℕ) → length (count_bytes x n) ≡ width x
count_width Names n = refl
count_width Runs n = refl
count_width Edits n = refl

count_back : (x : Section) (n : ℕ) (rest : List ℕ) → count_of x (count_bytes x n ++ rest) ≡ n
count_back Names n rest = refl
count_back Runs n rest = two_back n
count_back Edits n rest = two_back n

count_same : (x : Section) (s : List ℕ) → Bytes s → width x ≤ length s → count_bytes x (count_of x s) ≡ take (width x) s
count_same Names s h l = firsts_take 1 s l
count_same Runs s h l = two_at_is s 0 h ∙ firsts_take 2 s l
count_same Edits s h l = two_at_is s 0 h ∙ firsts_take 2 s l

-- a count has no fault just where it is whole and within the limit
count_whole : (x : Section) (s : List ℕ) → width x ≤ length s → count_of x s ≤ limit x → count_fault x s ≡ None
count_whole x s h l = rw (le-ltb (length s) (width x) h, le-ltb (limit x) (count_of x s) l)

pub count_none : (x : Section) (s : List ℕ) → count_fault x s ≡ None → (width x ≤ length s) × (count_of x s ≤ limit x)
count_none x s h =
    let p = cond_none _ _ _ h in
    let q = cond_none _ _ _ p.1 in
    (ltb-false (length s) (width x) p.0, ltb-false (limit x) (count_of x s) q.0)

pub width_some : (x : Section) → 1 ≤ width x
width_some Names = omega arith
width_some Runs = omega arith
width_some Edits = omega arith

-- a section that is written anywhere in a page is read back
pub section_written : (x : Section) (is : List (Item x)) (p pre rest : List ℕ) (start : ℕ) → p ≡ pre ++ (section_bytes x is ++ rest) → length pre ≡ start → length is ≤ limit x → AllByRecursion (Lawful x) is → (section_end x p start ≡ Ok (start + length (section_bytes x is))) × (section_items x p start ≡ is)
section_written x is p pre rest start e l m h =
    let n = length is in
    let c = count_bytes x n in
    let j = flat_map (item_bytes x) is in
    let w = count_width x n in
    let d : drop start p ≡ c ++ (j ++ rest) = rw (e, drop_at pre ((c ++ j) ++ rest) start l) (append_assoc c j rest) in
    let g : drop (start + width x) p ≡ j ++ rest = rw (← drop-drop (width x) start p, d) (drop_at c (j ++ rest) (width x) w) in
    let b = count_back x n (j ++ rest) in
    let u : width x ≤ length (c ++ (j ++ rest)) = simp length-append (omega arith) in
    let f = count_whole x (c ++ (j ++ rest)) u (omega arith) in
    let r = walk_written x is rest 1 (start + width x) h in
    let z : start + width x + length j ≡ start + length (c ++ j) = omega (arith, length-append c j) in
    (rw (d, g, f, b, sub-zero n, r.0, z), rw (d, g, b, r.1))

-- a section's count has no fault, and its records follow it
pub section_parts : (x : Section) (p : List ℕ) (start e : ℕ) → section_end x p start ≡ Ok e → (count_fault x (drop start p) ≡ None) × (walk x (count_of x (drop start p)) 1 (start + width x) (drop (start + width x) p) ≡ Ok e)
section_parts x p start e h =
    let n = count_of x (drop start p) in
    let q = unless_ok (count_fault x (drop start p)) (λ f. located f x 0 start) (walk x (n - 0) 1 (start + width x) (drop (start + width x) p)) e h in
    (q.0, rw sub-zero at q.1)

-- a section that is read ends within the page
pub section_within : (x : Section) (p : List ℕ) (start e : ℕ) → section_end x p start ≡ Ok e → (start + width x ≤ e) × (e ≤ length p)
section_within x p start e h =
    let q = section_parts x p start e h in
    let c = count_none x (drop start p) q.0 in
    let w = width_some x in
    let r = walk_within x (count_of x (drop start p)) 1 (start + width x) (drop (start + width x) p) e q.1 in
    let l = length-drop start p in
    let m = length-drop (start + width x) p in
    (omega arith, omega arith)

-- a fault of a section lies within the page, or at its end
pub section_fault : (x : Section) (p : List ℕ) (start : ℕ) (f : Located) → start ≤ length p → section_end x p start ≡ Err f → (start ≤ f.place.byte) × (f.place.byte ≤ length p)
section_fault x p start f s h =
    let n = count_of x (drop start p) in
    elim (unless_err (count_fault x (drop start p)) (λ g. located g x 0 start) (walk x (n - 0) 1 (start + width x) (drop (start + width x) p)) f h) [
      | inl q ↦
          let e : start ≡ f.place.byte = ap (λ (l : Located). l.place.byte) q.1 in (omega arith, omega arith)
      | inr q ↦
          let c = count_none x (drop start p) q.0 in
          let w = width_some x in
          let r = walk_fault x (n - 0) 1 (start + width x) (drop (start + width x) p) f q.1 in
          let l = length-drop start p in
          let m = length-drop (start + width x) p in
          (omega arith, omega arith)
    ]

-- a section that is read is lawful, and has the bytes that were read
pub section_read_lem : (x : Section) (p : List ℕ) (start e : ℕ) → Bytes p → section_end x p start ≡ Ok e → (length (section_items x p start) ≤ limit x) × AllByRecursion (Lawful x) (section_items x p start) × (section_bytes x (section_items x p start) ≡ take (e - start) (drop start p))
section_read_lem x p start e h t =
    let s = drop start p in
    let k = start + width x in
    let n = count_of x s in
    let q = section_parts x p start e t in
    let c = count_none x s q.0 in
    let i = section_within x p start e t in
    let r = walk_read x n 1 k (drop k p) e (All-drop (λ b. b < 256) k p h) q.1 in
    let b = count_same x s (All-drop (λ b. b < 256) start p h) c.0 in
    let d : drop (width x) s ≡ drop k p = drop-drop (width x) start p in
    let z : width x + (e - k) ≡ e - start = omega arith in
    let a : take (width x) s ++ take (e - k) (drop (width x) s) ≡ take (width x + (e - k)) s = sym (take-add (width x) (e - k) s) in
    (omega arith, r.0, rw (r.1, b, r.2, ← d, a, z))
