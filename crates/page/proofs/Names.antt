-- The names of a page, one after another.
use Rattle.std.proofs.Common.{◌≡◌, ℕ, suc, ◌+◌, ◌-◌, ◌<◌, ◌≤◌, List, [], length, get_or, take, drop, Ok, sym, refl, ap, ◌∙◌, add-zero, add-one, arith, rules, length-append, length-drop}
use Rattle.std.specs.List.{flat_map}
use Rattle.std.proofs.lemmas.List.{drop-drop, take_more, flat_map_more, get_or-drop, length-take-le}
use Rattle.fault.specs.declared.Section.TheVariants.{Names}
use Rattle.page_format.specs.Grammar.{name_bytes}
use Rattle.page_format.specs.Reading.{walk, count_of, items, name_of, section_end, section_items}
use Rattle.page_format.proofs.Records.{fault_none_size}
use Rattle.page_format.proofs.Walks.{walk_first}
use Rattle.page.specs.Wholes.{section_read, Span}
use Rattle.page.proofs.Tallies.{length_items}

-- of n sound names i have been passed, and the next one begins at the byte `at`
pub record Reached (p : List ℕ) (n i at : ℕ) : Type 0 where
  pub sound : (end : ℕ) × (section_end Names p 0 ≡ Ok end)
  pub count : count_of Names p ≡ n
  pub walk : (end : ℕ) × (walk Names (count_of Names p - i) (suc i) at (drop at p) ≡ Ok end)
  pub left : drop i (section_items Names p 0) ≡ items Names (count_of Names p - i) (drop at p)
  pub place : at ≡ 1 + length (flat_map name_bytes (take i (section_items Names p 0)))

first_byte : (p : List ℕ) (at : ℕ) → get_or (drop at p) 0 0 ≡ get_or p at 0
first_byte p at = get_or-drop at p 0 0 ∙ ap (λ (j : ℕ). get_or p j 0) (add-zero at)

-- at first no name has been passed
pub reached_first : (p : List ℕ) (n e : ℕ) → section_end Names p 0 ≡ Ok e → count_of Names p ≡ n → Reached p n 0 1
reached_first p n e h c = search rules

-- the next name is sound
pub reached_here : (p : List ℕ) (n i at : ℕ) → i < n → Reached p n i at → at + 1 + get_or p at 0 ≤ length p
reached_here p n i at h r =
    let m : count_of Names p - i ≡ suc (count_of Names p - (i + 1)) = omega (arith, r.count) in
    let w = walk_first Names (count_of Names p - (i + 1)) (suc i) at (drop at p) r.walk.0 (rw m at r.walk.1) in
    let f = fault_none_size Names (drop at p) w.0 in
    let l = length-drop at p in
    let g = first_byte p at in
    omega arith

-- the same, with the count as the code has it
pub reached_within : (p : List ℕ) (count e i at : ℕ) → section_read Names p 0 ≡ Ok (count, e) → i < count → Reached p count i at → at + 1 + get_or p at 0 ≤ length p
reached_within p count e i at s h r = reached_here p count i at h r

-- it is the i-th name
pub reached_name : (p : List ℕ) (n i at : ℕ) → i < n → Reached p n i at → get_or (section_items Names p 0) i [] ≡ name_of (drop at p)
reached_name p n i at h r =
    let m : count_of Names p - i ≡ suc (count_of Names p - (i + 1)) = omega arith in
    let e : drop i (section_items Names p 0) ≡ items Names (suc (count_of Names p - (i + 1))) (drop at p) = rw m at r.left in
    let g = get_or-drop i (section_items Names p 0) 0 [] in
    let z : i + 0 ≡ i = add-zero i in
    let k : get_or (drop i (section_items Names p 0)) 0 [] ≡ name_of (drop at p) = rw e refl in
    rw z at (sym g) ∙ k

pub length_name : (p : List ℕ) (n i at : ℕ) → i < n → Reached p n i at → length (name_of (drop at p)) ≡ get_or p at 0
length_name p n i at h r =
    let f = reached_here p n i at h r in
    let l = length-drop at p in
    let k = length-drop 1 (drop at p) in
    let g = first_byte p at in
    length-take-le (get_or (drop at p) 0 0) (drop 1 (drop at p)) (omega arith) ∙ g

-- past it comes the next
pub reached_more : (p : List ℕ) (n i at : ℕ) → i < n → Reached p n i at → Reached p n (i + 1) (at + (1 + get_or p at 0))
reached_more p n i at h r =
    let names = section_items Names p 0 in
    let m : count_of Names p - i ≡ suc (count_of Names p - (i + 1)) = omega (arith, r.count) in
    let w = walk_first Names (count_of Names p - (i + 1)) (suc i) at (drop at p) r.walk.0 (rw m at r.walk.1) in
    let g = first_byte p at in
    let d : drop (1 + get_or (drop at p) 0 0) (drop at p) ≡ drop (at + (1 + get_or p at 0)) p = drop-drop (1 + get_or (drop at p) 0 0) at p ∙ ap (λ (j : ℕ). drop (at + (1 + j)) p) g in
    let e : drop i names ≡ items Names (suc (count_of Names p - (i + 1))) (drop at p) = rw m at r.left in
    let z = length_items Names (count_of Names p) (drop 1 p) in
    let t = take_more names i [] (omega arith) in
    let j = flat_map_more name_bytes [] (take i names) (get_or names i []) in
    let a = length-append (flat_map name_bytes (take i names)) (name_bytes (get_or names i [])) in
    let b : length (get_or names i []) ≡ get_or p at 0 = ap length (reached_name p n i at h r) ∙ length_name p n i at h r in
    let o = ap (λ ns. length (flat_map name_bytes ns)) t in
    let u = ap length j in
    let q = r.place in
    let a1 : suc (i + 1) ≡ suc (suc i) = ap suc (add-one i) in
    record {
      sound = r.sound;
      count = r.count;
      walk = (r.walk.0, rw (a1, ← d, ← g) w.1);
      left = sym (drop-drop 1 i names) ∙ (ap (drop 1) e ∙ ap (items Names (count_of Names p - (i + 1))) d);
      place = omega arith;
    }

-- it lies on the page, behind the byte of its length
pub reached_span : (p : List ℕ) (n k at : ℕ) → k < n → Reached p n k at → Span p k (at + 1) (get_or p at 0)
reached_span p n k at h r =
    let f = reached_here p n k at h r in
    let l = length-drop (at + 1) p in
    let t = length-take-le (get_or p at 0) (drop (at + 1) p) (omega arith) in
    let d = drop-drop 1 at p in
    let g = first_byte p at in
    let i : name_of (drop at p) ≡ take (get_or p at 0) (drop (at + 1) p) = rw (d, g) refl in
    let q = r.place in
    record {
      within = f;
      name = record { sound = r.sound; below = rw r.count h; name = sym i ∙ sym (reached_name p n k at h r); begins = omega arith; lies = ap (λ (j : ℕ). take j (drop (at + 1) p)) (sym t) };
    }

-- the same, with the count as the code has it
pub span_at : (p : List ℕ) (count e k at : ℕ) → section_read Names p 0 ≡ Ok (count, e) → k < count → Reached p count k at → Span p k (at + 1) (get_or p at 0)
span_at p count e k at s h r = reached_span p count k at h r
