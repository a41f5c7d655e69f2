-- A page whose sections are sound is read whole.
use Rattle.std.proofs.Common.{◌≡◌, ℕ, zero, suc, ◌+◌, List, length, drop, Ok, refl, ap, ◌∙◌}
use Rattle.fault.specs.declared.Section.{Section}
use Rattle.fault.specs.declared.Section.TheVariants.{Names, Runs, Edits}
use Rattle.page_format.specs.Grammar.{width}
use Rattle.page_format.specs.Reading.{at_end, section_end, section_items, items, reading, count_of, record_size}
use Rattle.page_format.proofs.Steps.{after_ok}
use Rattle.page.specs.Wholes.{section_read, tallied}

pub section_ok : (x : Section) (p : List ℕ) (start n e : ℕ) → section_read x p start ≡ Ok (n, e) → (section_end x p start ≡ Ok e) × (count_of x (drop start p) ≡ n)
section_ok x p start n e h =
    let q = after_ok (section_end x p start) (λ i. Ok (count_of x (drop start p), i)) (n, e) h in
    let z : ◌≡◌ {A = ℕ × ℕ} (count_of x (drop start p), q.0) (n, e) = cc in
    (q.1 ∙ ap Ok (ap (λ (j : ℕ × ℕ). j.1) z), ap (λ (j : ℕ × ℕ). j.0) z)

pub length_items : (x : Section) (n : ℕ) (s : List ℕ) → length (items x n s) ≡ n
length_items x zero s = refl
length_items x (suc n) s = ap suc (length_items x n (drop (record_size x s) s))

-- the whole page, where its three sections are sound and nothing follows
pub reading_whole : (p : List ℕ) (a b c d : ℕ) → section_end Names p 0 ≡ Ok a → section_end Runs p a ≡ Ok b → section_end Edits p b ≡ Ok c → at_end p c ≡ Ok d → reading p ≡ Ok (record { names = section_items Names p 0; runs = section_items Runs p a; edits = section_items Edits p b })
reading_whole p a b c d ea eb ec ed = rw (ea, eb, ec, ed) refl

pub tallied_whole : (p : List ℕ) (n a m b l c d : ℕ) → section_read Names p 0 ≡ Ok (n, a) → section_read Runs p a ≡ Ok (m, b) → section_read Edits p b ≡ Ok (l, c) → at_end p c ≡ Ok d → tallied (reading p) ≡ Ok (record { names = n; runs = m; edits = l })
tallied_whole p n a m b l c d ea eb ec ed =
    let fa = section_ok Names p 0 n a ea in
    let fb = section_ok Runs p a m b eb in
    let fc = section_ok Edits p b l c ec in
    let r = reading_whole p a b c d fa.0 fb.0 fc.0 ed in
    let ln = length_items Names (count_of Names (drop 0 p)) (drop (0 + width Names) p) ∙ fa.1 in
    let lm = length_items Runs (count_of Runs (drop a p)) (drop (a + width Runs) p) ∙ fb.1 in
    let ll = length_items Edits (count_of Edits (drop b p)) (drop (b + width Edits) p) ∙ fc.1 in
    rw (r, ln, lm, ll) refl
