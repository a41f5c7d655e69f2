-- One record: what is written is read back, and what is read is what was written.
use Rattle.std.proofs.Common.{◌≡◌, ℕ, suc, ◌+◌, ◌≤◌, Bool, true, false, cond, ◌&&◌, eqb, ltb, leb, ◌⊎◌, List, [], ◌∷◌, ◌++◌, length, take, Some, None, Decides, Option, refl, ap, ◌∙◌, inl, inr, one-add, arith, length-append}
use Rattle.std.specs.List.{AllByRecursion}
use Rattle.std.proofs.lemmas.List.{take_at, length-take-le}
use Rattle.std.proofs.lemmas.Bool.{leb-true, le-leb, le-ltb, ltb-false, eqb-false, ne_eqb, or_parts}
use Rattle.std.proofs.lemmas.Bool.Decides.{Decides-and, nat_tests}
use Rattle.std.proofs.ByRecursion.{Decides-by_and}
use Rattle.fault.specs.declared.PageFault.{PageFault}
use Rattle.fault.specs.declared.Section.{Section}
use Rattle.fault.specs.declared.Section.TheVariants.{Names, Runs, Edits}
use Rattle.run.specs.declared.Run.{Run}
use Rattle.page_format.specs.declared.Retime.{Retime}
use Rattle.page_format.specs.declared.Edit.TheVariants as edit
use Rattle.page_format.specs.Grammar.{two, Item, Letter, AddFits, RetimeFits, Lawful, add_bytes, retime_bytes, item_bytes}
use Rattle.page_format.specs.Reading.{lettered, kind_size, name_fault, add_fault, edit_fault, add_of, retime_of, record_fault, record_size, record_item}
use Rattle.page_format.specs.Laws.{Bytes}
use Rattle.page_format.proofs.Digits.{two_back, four_back, firsts_take, byte_at, two_at_fits, two_at_is, four_at_fits, four_at_is}

-- a chain of checks gives no fault where each check passes
pub cond_none : (b : Bool) (f : PageFault) (o : Option PageFault) → cond b (Some f) o ≡ None → (b ≡ false) × (o ≡ None)
cond_none true f o h = cc
cond_none false f o h = (refl, h)

cond_last : (b : Bool) (f : PageFault) → cond b None (Some f) ≡ None → b ≡ true
cond_last true f h = refl
cond_last false f h = cc

-- the test of letters says that all are letters
letter : (b : ℕ) → Decides (leb 33 b && leb b 126) (Letter b)
letter b = Decides-and (leb 33 b) (leb b 126) (leb-true 33 b, le-leb 33 b) (leb-true b 126, le-leb b 126)

letters : (s : List ℕ) → Decides (lettered s) (AllByRecursion Letter s)
letters s = Decides-by_and (λ b. leb 33 b && leb b 126) Letter lettered letter refl (λ _ _. refl) s

-- the tests of a name without fault, and what they say
name_tests : (b : ℕ) (t : List ℕ) → name_fault (b ∷ t) ≡ None → (eqb b 0 ≡ false) × (ltb 24 b ≡ false) × (ltb (suc (length t)) (1 + b) ≡ false) × (lettered (take b t) ≡ true)
name_tests b t h =
    let p = cond_none _ _ _ h in
    let q = cond_none _ _ _ p.1 in
    let o = or_parts _ _ q.0 in
    let r = cond_none _ _ _ q.1 in
    (o.0, o.1, r.0, cond_last _ _ r.1)

name_none : (b : ℕ) (t : List ℕ) → name_fault (b ∷ t) ≡ None → (1 ≤ b) × (b ≤ 24) × (b ≤ length t) × AllByRecursion Letter (take b t)
name_none b t h =
    let p = name_tests b t h in
    let u = ltb-false 24 b p.1 in
    let v = ltb-false (suc (length t)) (1 + b) p.2 in
    let w = eqb-false b 0 p.0 in
    (grind arith, u, omega arith, (letters (take b t)).0 p.3)

-- an edit without fault is of a kind that there is, and is whole
kinds : (k : ℕ) → eqb (kind_size k) 0 ≡ false → (k ≡ 1) ⊎ ((k ≡ 2) ⊎ (k ≡ 3))
kinds k h = grind (arith, nat_tests)

edit_tests : (k : ℕ) (t : List ℕ) → edit_fault (k ∷ t) ≡ None → (eqb (kind_size k) 0 ≡ false) × (ltb (suc (length t)) (1 + kind_size k) ≡ false)
edit_tests k t h =
    let p = cond_none _ _ _ h in
    let q = cond_none _ _ _ p.1 in
    (q.0, (cond_none _ _ _ q.1).0)

edit_none : (k : ℕ) (t : List ℕ) → edit_fault (k ∷ t) ≡ None → ((k ≡ 1) ⊎ ((k ≡ 2) ⊎ (k ≡ 3))) × (kind_size k ≤ length t)
edit_none k t h =
    let p = edit_tests k t h in
    let v = ltb-false (suc (length t)) (1 + kind_size k) p.1 in
    (kinds k p.0, omega arith)

-- a record without fault has a byte at least, and ends within what there is
pub fault_none_size : (x : Section) (s : List ℕ) → record_fault x s ≡ None → (1 ≤ record_size x s) × (record_size x s ≤ length s)
fault_none_size Names [] h = cc
fault_none_size Names (b ∷ t) h = let p = name_none b t h in (omega arith, omega arith)
fault_none_size Runs s h = (omega arith, ltb-false (length s) 14 (cond_none _ _ _ h).0)
fault_none_size Edits [] h = cc
fault_none_size Edits (k ∷ t) h = let p = (edit_none k t h).1 in (omega arith, omega arith)

-- the fields come back from their bytes
add_back : (a : Run) (rest : List ℕ) → add_of (add_bytes a ++ rest) ≡ a
add_back a rest = rw (two_back a.number, four_back a.start, four_back a.end, two_back a.fittings)

retime_back : (t : Retime) (rest : List ℕ) → retime_of (retime_bytes t ++ rest) ≡ t
retime_back t rest = rw (two_back t.run, four_back t.start, four_back t.end)

-- a record that is written and then read: no fault, as many bytes, and what it says
abbrev pub Written : (x : Section) → Item x → List ℕ → Type 0
Written x i rest =
    (record_fault x (item_bytes x i ++ rest) ≡ None) × (record_size x (item_bytes x i ++ rest) ≡ length (item_bytes x i)) × (record_item x (item_bytes x i ++ rest) ≡ i)

name_written : (name rest : List ℕ) → Lawful Names name → Written Names name rest
name_written name rest h =
    let n = length name in
    let m = suc (length (name ++ rest)) in
    let room : 1 + n ≤ m = simp length-append (omega arith) in
    let e0 : eqb m 0 ≡ false = ne_eqb m 0 (λ e. omega arith) in
    let e1 : eqb n 0 ≡ false = ne_eqb n 0 (λ e. omega arith) in
    let e2 : ltb 24 n ≡ false = le-ltb 24 n h.1 in
    let e3 : ltb m (1 + n) ≡ false = le-ltb m (1 + n) room in
    let e4 : take n (name ++ rest) ≡ name = take_at name rest n refl in
    let e5 : lettered name ≡ true = (letters name).1 h.2 in
    (rw (e0, e1, e2, e3, e4, e5), one-add n, e4)

-- enough bytes of a known kind have no fault
add_whole : (s : List ℕ) → 14 ≤ length s → add_fault s ≡ None
add_whole s h = rw (le-ltb (length s) 14 h)

edit_whole : (k : ℕ) (t : List ℕ) → eqb (kind_size k) 0 ≡ false → kind_size k ≤ length t → edit_fault (k ∷ t) ≡ None
edit_whole k t e h =
    let e0 : eqb (suc (length t)) 0 ≡ false = ne_eqb (suc (length t)) 0 (λ e. omega arith) in
    let e1 : ltb (suc (length t)) (1 + kind_size k) ≡ false = le-ltb (suc (length t)) (1 + kind_size k) (omega arith) in
    rw (e0, e, e1)

-- every lawful record is read back, whatever follows it
pub record_written : (x : Section) (i : Item x) (rest : List ℕ) → Lawful x i → Written x i rest
record_written Names name rest h = name_written name rest h
record_written Runs a rest h = (add_whole (add_bytes a ++ rest) (omega arith), refl, add_back a rest)
record_written Edits (edit.Add a) rest h =
    (edit_whole 1 (add_bytes a ++ rest) refl (omega arith), refl, ap (λ v. edit.Add v) (add_back a rest))
record_written Edits (edit.Cancel run) rest h = (edit_whole 2 (two run ++ rest) refl (omega arith), refl, ap (λ v. edit.Cancel v) (two_back run))
record_written Edits (edit.Retime t) rest h =
    (edit_whole 3 (retime_bytes t ++ rest) refl (omega arith), refl, ap (λ v. edit.Retime v) (retime_back t rest))

-- fields that are read fit their bytes, and have the bytes that were read
add_fits : (s : List ℕ) → Bytes s → AddFits (add_of s)
add_fits s h =
    record { number = two_at_fits s 0 h; from = byte_at s 2 h; to = byte_at s 3 h; start = four_at_fits s 4 h; end = four_at_fits s 8 h; fittings = two_at_fits s 12 h }

add_same : (s : List ℕ) → Bytes s → 14 ≤ length s → add_bytes (add_of s) ≡ take 14 s
add_same s h l =
    let r = two_at_is s 0 h in
    let t = four_at_is s 4 h in
    let e = four_at_is s 8 h in
    let f = two_at_is s 12 h in
    let g = firsts_take 14 s l in
    cc

retime_fits : (s : List ℕ) → Bytes s → RetimeFits (retime_of s)
retime_fits s h = record { run = two_at_fits s 0 h; start = four_at_fits s 2 h; end = four_at_fits s 6 h }

retime_same : (s : List ℕ) → Bytes s → 10 ≤ length s → retime_bytes (retime_of s) ≡ take 10 s
retime_same s h l =
    let r = two_at_is s 0 h in
    let t = four_at_is s 2 h in
    let e = four_at_is s 6 h in
    let g = firsts_take 10 s l in
    cc

-- a record that is read and then written: what it says is lawful, and has the bytes that were read
abbrev pub Read : Section → List ℕ → Type 0
Read x s = Lawful x (record_item x s) × (item_bytes x (record_item x s) ≡ take (record_size x s) s)

name_read : (b : ℕ) (t : List ℕ) → name_fault (b ∷ t) ≡ None → Read Names (b ∷ t)
name_read b t h =
    let p = name_none b t h in
    let e = length-take-le b t p.2 in
    ((omega arith, omega arith, p.3), rw (e, one-add b))

edit_read : (k : ℕ) (t : List ℕ) → Bytes t → (k ≡ 1) ⊎ ((k ≡ 2) ⊎ (k ≡ 3)) → kind_size k ≤ length t → Read Edits (k ∷ t)
edit_read k t h (inl e) = rw e (λ l. (add_fits t h, ap (λ v. 1 ∷ v) (add_same t h l)))
edit_read k t h (inr (inl e)) = rw e (λ l. (two_at_fits t 0 h, ap (λ v. 2 ∷ v) (two_at_is t 0 h ∙ firsts_take 2 t l)))
edit_read k t h (inr (inr e)) = rw e (λ l. (retime_fits t h, ap (λ v. 3 ∷ v) (retime_same t h l)))

-- every record without fault is written back
pub record_read : (x : Section) (s : List ℕ) → Bytes s → record_fault x s ≡ None → Read x s
record_read Names [] h f = cc
record_read Names (b ∷ t) h f = name_read b t f
record_read Runs s h f = (add_fits s h, add_same s h (fault_none_size Runs s f).1)
record_read Edits [] h f = cc
record_read Edits (k ∷ t) h f = let p = edit_none k t f in edit_read k t h.1 p.0 p.1
