-- A whole page: the four laws.
use Rattle.std.proofs.Common.{◌≡◌, ℕ, ◌+◌, ◌-◌, ◌≤◌, Bool, true, false, cond, ltb, List, [], ◌++◌, length, take, drop, Ok, Err, Result, sym, refl, ap, ◌∙◌, subst, inl, inr, append_assoc, append-nil, zero-add, arith, length-append, length-drop}
use Rattle.std.proofs.lemmas.List.{drop-drop, take_all, take-append-drop}
use Rattle.std.proofs.lemmas.Bool.{le-ltb, ltb-false}
use Rattle.fault.specs.declared.PageFault.TheVariants.{Excess}
use Rattle.fault.specs.declared.Section.TheVariants.{Names, Runs, Edits}
use Rattle.fault.specs.declared.Located.{Located}
use Rattle.page_format.specs.Grammar.{Content, LawfulPage, section_bytes, page_bytes}
use Rattle.fault.specs.Places.{located}
use Rattle.page_format.specs.Reading.{after, section_end, section_items, at_end, reading}
use Rattle.page_format.specs.Laws.{ReadsBack, WritesBack, OneReading, PlacesWithin}
use Rattle.page_format.proofs.Steps.{after_to, after_ok, after_err}
use Rattle.page_format.proofs.Sections.{section_written, section_within, section_fault, section_read_lem}

-- nothing follows the last edit, or the fault lies before the page's end
at_end_whole : (p : List ℕ) (at : ℕ) → length p ≤ at → at_end p at ≡ Ok at
at_end_whole p at h = rw (le-ltb at (length p) h)

at_end_ok : (p : List ℕ) (at e : ℕ) → at_end p at ≡ Ok e → length p ≤ at
at_end_ok p at e h = go (ltb at (length p)) refl
  where
    go : (b : Bool) → ltb at (length p) ≡ b → length p ≤ at
    go true t = cc
    go false t = ltb-false at (length p) t

at_end_err : (p : List ℕ) (at : ℕ) (e : Located) → at ≤ length p → at_end p at ≡ Err e → e.place.byte ≤ length p
at_end_err p at e l h = go (ltb at (length p)) h
  where
    go : (b : Bool) → ◌≡◌ {A = Result ℕ Located} (cond b (Err (located Excess Edits 0 at)) (Ok at)) (Err e) → e.place.byte ≤ length p
    go true t = let q : located Excess Edits 0 at ≡ e = cc in let r : at ≡ e.place.byte = ap (λ (x : Located). x.place.byte) q in omega arith
    go false t = cc

-- what a page says whose sections begin at 0, a and b
abbrev pub said : List ℕ → (a b : ℕ) → Content
said p a b = record { names = section_items Names p 0; runs = section_items Runs p a; edits = section_items Edits p b }

-- the reading, from each section on
abbrev from_end : List ℕ → (a b c : ℕ) → Result Content Located
from_end p a b c = after (at_end p c) (λ _. Ok (said p a b))

abbrev from_edits : List ℕ → (a b : ℕ) → Result Content Located
from_edits p a b = after (section_end Edits p b) (from_end p a b)

abbrev from_runs : List ℕ → ℕ → Result Content Located
from_runs p a = after (section_end Runs p a) (from_edits p a)

-- a page that is read: where its sections end, that nothing follows them, and what it says
pub record Whole (p : List ℕ) (c : Content) : Type 0 where
  pub runs_at : ℕ
  pub edits_at : ℕ
  pub end_at : ℕ
  pub names : section_end Names p 0 ≡ Ok runs_at
  pub runs : section_end Runs p runs_at ≡ Ok edits_at
  pub edits : section_end Edits p edits_at ≡ Ok end_at
  pub all : length p ≤ end_at
  pub says : said p runs_at edits_at ≡ c

-- such a page is read, and what is read is such a page
pub reading_to : (p : List ℕ) (c : Content) → Whole p c → reading p ≡ Ok c
reading_to p c w =
    let a = w.runs_at in
    let b = w.edits_at in
    let e = w.end_at in
    let x = after_to (section_end Names p 0) (from_runs p) a w.names in
    let y = after_to (section_end Runs p a) (from_edits p a) b w.runs in
    let z = after_to (section_end Edits p b) (from_end p a b) e w.edits in
    let l = after_to (at_end p e) (λ _. Ok (said p a b)) e (at_end_whole p e w.all) in
    x ∙ (y ∙ (z ∙ (l ∙ ap (λ v. Ok v) w.says)))

pub reading_whole : (p : List ℕ) (c : Content) → reading p ≡ Ok c → Whole p c
reading_whole p c h = names (after_ok (section_end Names p 0) (from_runs p) c h)
  where
    end : (a b e : ℕ) → section_end Names p 0 ≡ Ok a → section_end Runs p a ≡ Ok b → section_end Edits p b ≡ Ok e → ((d : ℕ) × (at_end p e ≡ Ok d) × (◌≡◌ {A = Result Content Located} (Ok (said p a b)) (Ok c))) → Whole p c
    end a b e n r t w =
        record { runs_at = a; edits_at = b; end_at = e; names = n; runs = r; edits = t; all = at_end_ok p e w.0 w.1; says = let z = w.2 in cc }

    edits : (a b : ℕ) → section_end Names p 0 ≡ Ok a → section_end Runs p a ≡ Ok b → ((e : ℕ) × (section_end Edits p b ≡ Ok e) × (from_end p a b e ≡ Ok c)) → Whole p c
    edits a b n r w = end a b w.0 n r w.1 (after_ok (at_end p w.0) (λ _. Ok (said p a b)) c w.2)

    runs : (a : ℕ) → section_end Names p 0 ≡ Ok a → ((b : ℕ) × (section_end Runs p a ≡ Ok b) × (from_edits p a b ≡ Ok c)) → Whole p c
    runs a n w = edits a w.0 n w.1 (after_ok (section_end Edits p w.0) (from_end p a w.0) c w.2)

    names : ((a : ℕ) × (section_end Names p 0 ≡ Ok a) × (from_runs p a ≡ Ok c)) → Whole p c
    names w = runs w.0 w.1 (after_ok (section_end Runs p w.0) (from_edits p w.0) c w.2)

-- what a page says, by its sections
said_is : (p : List ℕ) (a b : ℕ) (c : Content) → section_items Names p 0 ≡ c.names → section_items Runs p a ≡ c.runs → section_items Edits p b ≡ c.edits → said p a b ≡ c
said_is p a b c x y z = rw (x, y, z)

-- encode then read gives the page back
pub reads_back : ReadsBack
reads_back c h =
    let n = section_bytes Names c.names in
    let r = section_bytes Runs c.runs in
    let e = section_bytes Edits c.edits in
    let p = n ++ (r ++ e) in
    let a = length n in
    let b = length n + length r in
    let x = section_written Names c.names p [] (r ++ e) 0 refl refl h.names.0 h.names.1 in
    let y = section_written Runs c.runs p n e a refl refl h.runs.0 h.runs.1 in
    let q : p ≡ (n ++ r) ++ (e ++ []) = sym (append_assoc n r (e ++ []) ∙ ap (λ v. n ++ (r ++ v)) (append-nil e)) in
    let z = section_written Edits c.edits p (n ++ r) [] b q (length-append n r) h.edits.0 h.edits.1 in
    let l = length-append n (r ++ e) in
    let m = length-append r e in
    let first : section_end Names p 0 ≡ Ok a = x.0 ∙ ap (λ v. Ok v) (zero-add a) in
    let says = said_is p a b c x.1 y.1 z.1 in
    let w : Whole p c = record { runs_at = a; edits_at = b; end_at = b + length e; names = first; runs = y.0; edits = z.0; all = omega arith; says = says } in
    reading_to p c w

-- a part of a list and what follows it
part_rest : (a b : ℕ) (p : List ℕ) → a ≤ b → take (b - a) (drop a p) ++ drop b p ≡ drop a p
part_rest a b p h =
    let e : a + (b - a) ≡ b = omega arith in
    let d : drop (b - a) (drop a p) ≡ drop b p = drop-drop (b - a) a p ∙ ap (λ v. drop v p) e in
    rw (← d) (take-append-drop (b - a) (drop a p))

-- a list is its three parts, cut at a and at b
three_parts : (p n r e : List ℕ) (a b : ℕ) → a ≤ b → n ≡ take (a - 0) (drop 0 p) → r ≡ take (b - a) (drop a p) → e ≡ drop b p → n ++ (r ++ e) ≡ p
three_parts p n r e a b h x y z = rw (x, y, z, part_rest a b p h) (part_rest 0 a p (omega arith))

-- what is read whole encodes to the same bytes
pub writes_back : WritesBack
writes_back p c h t =
    let w = reading_whole p c t in
    subst (λ (v : Content). LawfulPage v × (page_bytes v ≡ p)) w.says (back w.runs_at w.edits_at w.end_at w.names w.runs w.edits w.all)
  where
    back : (a b e : ℕ) → section_end Names p 0 ≡ Ok a → section_end Runs p a ≡ Ok b → section_end Edits p b ≡ Ok e → length p ≤ e → LawfulPage (said p a b) × (page_bytes (said p a b) ≡ p)
    back a b e n r t l =
        let x = section_read_lem Names p 0 a h n in
        let y = section_read_lem Runs p a b h r in
        let z = section_read_lem Edits p b e h t in
        let i = section_within Runs p a b r in
        let m = length-drop b p in
        let j : take (e - b) (drop b p) ≡ drop b p = take_all (e - b) (drop b p) (omega arith) in
        let page : page_bytes (said p a b) ≡ p = three_parts p _ _ _ a b (omega arith) x.2 y.2 (z.2 ∙ j) in
        (record { names = (x.0, x.1); runs = (y.0, y.1); edits = (z.0, z.1) }, page)

-- no two pages have the same bytes
pub one_reading : OneReading
one_reading c d h k e =
    let x = reads_back c h in
    let y = reads_back d k in
    let z = ap reading e in
    cc

-- a fault lies within the page, or at its end
pub places_within : PlacesWithin
places_within p e h =
    elim (after_err (section_end Names p 0) (from_runs p) e h) [
      | inl t ↦ (section_fault Names p 0 e (omega arith) t).1
      | inr t ↦ runs t.0 (section_within Names p 0 t.0 t.1).1 t.2
    ]
  where
    end : (a b c : ℕ) → c ≤ length p → from_end p a b c ≡ Err e → e.place.byte ≤ length p
    end a b c l h =
        elim (after_err (at_end p c) (λ _. Ok (said p a b)) e h) [
          | inl t ↦ at_end_err p c e l t
          | inr t ↦ let z : ◌≡◌ {A = ℕ} 0 1 = cc t.2 in absurd (omega arith)
        ]

    edits : (a b : ℕ) → b ≤ length p → from_edits p a b ≡ Err e → e.place.byte ≤ length p
    edits a b l h =
        elim (after_err (section_end Edits p b) (from_end p a b) e h) [
          | inl t ↦ (section_fault Edits p b e l t).1
          | inr t ↦ end a b t.0 (section_within Edits p b t.0 t.1).1 t.2
        ]

    runs : (a : ℕ) → a ≤ length p → from_runs p a ≡ Err e → e.place.byte ≤ length p
    runs a l h =
        elim (after_err (section_end Runs p a) (from_edits p a) e h) [
          | inl t ↦ (section_fault Runs p a e l t).1
          | inr t ↦ edits a t.0 (section_within Runs p a t.0 t.1).1 t.2
        ]
