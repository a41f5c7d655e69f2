-- A record that a reader hands out says what the grammar reads at its place.
use Rattle.std.proofs.Common.{◌≡◌, ℕ, ◌≤◌, List, length, get_or, take, drop, Some, None, ap, arith, length-drop}
use Rattle.fault.specs.declared.Section.TheVariants.{Names, Runs, Edits}
use Rattle.page_format.specs.Reading.{add_of, record_fault, record_item, kind_size}
use Rattle.page_format.proofs.Digits.{firsts_take}
use Rattle.page_format.proofs.Records.{fault_none_size}
use Rattle.page_records.specs.declared.record.Record.{Record}
use Rattle.page_records.specs.declared.record.Record.TheVariants as case
use Rattle.page_laws.specs.Laws.{RecordsSay}
use Rattle.page_records.specs.Records.{Holds, whole, name_in, add_in, edit_in}

-- fields that are read from their part of the page are those that are read from the page
add_said : (s part : List ℕ) → 14 ≤ length s → part ≡ take 14 s → whole part 14 (add_of part) ≡ Some (add_of s)
add_said s part l q = rw (q, ← firsts_take 14 s l)

name_says : (s : List ℕ) (r : Record) → record_fault Names s ≡ None → Holds Names s r → name_in r ≡ Some (record_item Names s)
name_says s (case.Name part) f h = ap (λ (n : List ℕ). Some n) h
name_says s (case.Add part) f h = absurd h
name_says s (case.Cancel part) f h = absurd h
name_says s (case.Retime part) f h = absurd h

add_says : (s : List ℕ) (r : Record) → record_fault Runs s ≡ None → Holds Runs s r → add_in r ≡ Some (record_item Runs s)
add_says s (case.Name part) f h = absurd h
add_says s (case.Add part) f h = add_said s part.now (fault_none_size Runs s f).1 h
add_says s (case.Cancel part) f h = absurd h
add_says s (case.Retime part) f h = absurd h

-- an edit of a kind has the bytes of that kind
room : (s : List ℕ) (k : ℕ) → record_fault Edits s ≡ None → get_or s 0 0 ≡ k → kind_size k ≤ length (drop 1 s)
room s k f e =
    let g = (fault_none_size Edits s f).1 in
    let l = length-drop 1 s in
    let i = ap kind_size e in
    omega arith

edit_says : (s : List ℕ) (r : Record) → record_fault Edits s ≡ None → Holds Edits s r → edit_in r ≡ Some (record_item Edits s)
edit_says s (case.Name part) f h = absurd h
edit_says s (case.Add part) f h = rw (h.1, ← firsts_take 14 (drop 1 s) (room s 1 f h.0), h.0)
edit_says s (case.Cancel part) f h = rw (h.1, ← firsts_take 2 (drop 1 s) (room s 2 f h.0), h.0)
edit_says s (case.Retime part) f h = rw (h.1, ← firsts_take 10 (drop 1 s) (room s 3 f h.0), h.0)

pub records_say : RecordsSay
records_say = record { names = name_says; runs = add_says; edits = edit_says }
