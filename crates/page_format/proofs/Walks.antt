-- The records of a section, one after another.
use Rattle.std.proofs.Common.{◌≡◌, ℕ, zero, suc, ◌+◌, ◌-◌, ◌<◌, ◌≤◌, List, [], ◌∷◌, ◌++◌, length, take, drop, None, Ok, Err, sym, refl, ap, inl, inr, append_assoc, add-zero, arith, length-append, length-drop, take-add}
use Rattle.std.specs.List.{flat_map, AllByRecursion}
use Rattle.std.proofs.lemmas.List.{drop_at}
use Rattle.std.proofs.ByRecursion.{All-drop}
use Rattle.fault.specs.declared.Section.{Section}
use Rattle.fault.specs.declared.Located.{Located}
use Rattle.page_format.specs.Grammar.{Item, Lawful, item_bytes}
use Rattle.fault.specs.Places.{located}
use Rattle.page_format.specs.Reading.{record_fault, record_size, walk, items}
use Rattle.page_format.specs.Laws.{Bytes}
use Rattle.page_format.proofs.Records.{fault_none_size, record_written, record_read}
use Rattle.page_format.proofs.Steps.{unless_ok, unless_err}

-- lawful records that are written one after another are read back, whatever follows them
pub walk_written : (x : Section) (is : List (Item x)) (rest : List ℕ) (k at : ℕ) → AllByRecursion (Lawful x) is → (walk x (length is) k at (flat_map (item_bytes x) is ++ rest) ≡ Ok (at + length (flat_map (item_bytes x) is))) × (items x (length is) (flat_map (item_bytes x) is ++ rest) ≡ is)
walk_written x [] rest k at h = (ap (λ n. Ok n) (sym (add-zero at)), refl)
walk_written x (i ∷ is) rest k at h =
    let b = item_bytes x i in
    let j = flat_map (item_bytes x) is in
    let w = record_written x i (j ++ rest) h.0 in
    let d : drop (length b) (b ++ (j ++ rest)) ≡ j ++ rest = drop_at b (j ++ rest) (length b) refl in
    let r = walk_written x is rest (suc k) (at + length b) h.1 in
    let e : at + length b + length j ≡ at + length (b ++ j) = omega (arith, length-append b j) in
    (rw (append_assoc b j rest, w.0, w.1, d, r.0, e), rw (append_assoc b j rest, w.2, w.1, d, r.1))

-- the first record has no fault, and the others follow it
pub walk_first : (x : Section) (n k at : ℕ) (s : List ℕ) (e : ℕ) → walk x (suc n) k at s ≡ Ok e → (record_fault x s ≡ None) × (walk x n (suc k) (at + record_size x s) (drop (record_size x s) s) ≡ Ok e)
walk_first x n k at s e h =
    unless_ok (record_fault x s) (λ f. located f x k at) (walk x n (suc k) (at + record_size x s) (drop (record_size x s) s)) e h

-- records that are read end within what there is
pub walk_within : (x : Section) (n k at : ℕ) (s : List ℕ) (e : ℕ) → walk x n k at s ≡ Ok e → (at ≤ e) × (e ≤ at + length s)
walk_within x zero k at s e h = let p : at ≡ e = cc in (omega arith, omega arith)
walk_within x (suc n) k at s e h =
    let m = record_size x s in
    let p = walk_first x n k at s e h in
    let f = fault_none_size x s p.0 in
    let r = walk_within x n (suc k) (at + m) (drop m s) e p.1 in
    let l = length-drop m s in
    (omega arith, omega arith)

-- a fault among records lies within what there is, or at its end
pub walk_fault : (x : Section) (n k at : ℕ) (s : List ℕ) (f : Located) → walk x n k at s ≡ Err f → (at ≤ f.place.byte) × (f.place.byte ≤ at + length s)
walk_fault x zero k at s f h = cc
walk_fault x (suc n) k at s f h =
    let m = record_size x s in
    elim (unless_err (record_fault x s) (λ g. located g x k at) (walk x n (suc k) (at + m) (drop m s)) f h) [
      | inl p ↦
          let e : at ≡ f.place.byte = ap (λ (l : Located). l.place.byte) p.1 in (omega arith, omega arith)
      | inr p ↦
          let g = fault_none_size x s p.0 in
          let r = walk_fault x n (suc k) (at + m) (drop m s) f p.1 in
          let l = length-drop m s in
          (omega arith, omega arith)
    ]

-- records that are read are lawful, and are those that have the bytes that were read
pub walk_read : (x : Section) (n k at : ℕ) (s : List ℕ) (e : ℕ) → Bytes s → walk x n k at s ≡ Ok e → AllByRecursion (Lawful x) (items x n s) × (length (items x n s) ≡ n) × (flat_map (item_bytes x) (items x n s) ≡ take (e - at) s)
walk_read x zero k at s e h w = let p : at ≡ e = cc in let z : e - at ≡ 0 = omega arith in (tt, refl, rw z)
walk_read x (suc n) k at s e h w =
    let m = record_size x s in
    let p = walk_first x n k at s e w in
    let f = fault_none_size x s p.0 in
    let q = record_read x s h p.0 in
    let r = walk_read x n (suc k) (at + m) (drop m s) e (All-drop (λ b. b < 256) m s h) p.1 in
    let i = walk_within x n (suc k) (at + m) (drop m s) e p.1 in
    let z : m + (e - (at + m)) ≡ e - at = omega arith in
    ((q.0, r.0), ap suc r.1, rw (q.1, r.2, ← take-add m (e - (at + m)) s, z))
