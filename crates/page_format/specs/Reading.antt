-- How bytes are read as a page: record by record, up to the first fault.
--
-- `s` is always what the page holds from some byte on, and `at` is that byte.
use Rattle.std.specs.Prelude.{ℕ, zero, suc, ◌+◌, ◌-◌, ◌*◌, Bool, true, cond, ◌&&◌, ◌||◌, List, [], ◌∷◌, length, take, drop, Some, None, Ok, Err, Option, Result, ◌==◌, nat_le, nat_lt, slice_index}
use Rattle.fault.specs.Places.{located}
use Rattle.fault.specs.declared.PageFault.{PageFault}
use Rattle.fault.specs.declared.PageFault.TheVariants.{Short, CountAboveLimit, BadName, EditKind, Excess}
use Rattle.fault.specs.declared.Section.{Section}
use Rattle.fault.specs.declared.Section.TheVariants.{Names, Runs, Edits}
use Rattle.fault.specs.declared.Located.{Located}
use Rattle.run.specs.declared.Run.{Run}
use Rattle.page_format.specs.declared.Retime.{Retime}
use Rattle.page_format.specs.declared.Edit.{Edit}
use Rattle.page_format.specs.declared.Edit.TheVariants as edit
use Rattle.page_format.specs.declared.Counts.{Counts}
use Rattle.page_format.specs.Grammar.{Item, Content, limit, width}

-- the number in two bytes, and in four, that begins at place i
abbrev pub two_at : List ℕ → ℕ → ℕ
two_at s i = slice_index s i * 256 + slice_index s (i + 1)

abbrev pub four_at : List ℕ → ℕ → ℕ
four_at s i = slice_index s i * 16777216 + slice_index s (i + 1) * 65536 + slice_index s (i + 2) * 256 + slice_index s (i + 3)

-- every byte is one that a name may have
abbrev pub lettered : List ℕ → Bool
lettered [] = true
lettered (b ∷ s) = (nat_le 33 b && nat_le b 126) && lettered s

-- how many bytes follow the byte of an edit's kind; 0 where there is no such kind
abbrev pub kind_size : ℕ → ℕ
kind_size k = cond (k == 1) 14 (cond (k == 2) 2 (cond (k == 3) 10 0))

-- the fault of a record that begins with these bytes, by the first check that fails
abbrev pub name_fault : List ℕ → Option PageFault
name_fault s =
    cond (length s == 0) (Some Short)
    (cond (slice_index s 0 == 0 || nat_lt 24 (slice_index s 0)) (Some BadName)
    (cond (nat_lt (length s) (1 + slice_index s 0)) (Some Short)
    (cond (lettered (take (slice_index s 0) (drop 1 s))) None (Some BadName))))

abbrev pub add_fault : List ℕ → Option PageFault
add_fault s = cond (nat_lt (length s) 14) (Some Short) None

abbrev pub edit_fault : List ℕ → Option PageFault
edit_fault s =
    cond (length s == 0) (Some Short)
    (cond (kind_size (slice_index s 0) == 0) (Some EditKind)
    (cond (nat_lt (length s) (1 + kind_size (slice_index s 0))) (Some Short) None))

abbrev pub record_fault : Section → List ℕ → Option PageFault
record_fault Names s = name_fault s
record_fault Runs s = add_fault s
record_fault Edits s = edit_fault s

-- how many bytes the record has, and what it says, where it has no fault
abbrev pub record_size : Section → List ℕ → ℕ
record_size Names s = 1 + slice_index s 0
record_size Runs s = 14
record_size Edits s = 1 + kind_size (slice_index s 0)

abbrev pub name_of : List ℕ → List ℕ
name_of s = take (slice_index s 0) (drop 1 s)

abbrev pub add_of : List ℕ → Run
add_of s = record { number = two_at s 0; from = slice_index s 2; to = slice_index s 3; start = four_at s 4; end = four_at s 8; fittings = two_at s 12 }

abbrev pub retime_of : List ℕ → Retime
retime_of s = record { run = two_at s 0; start = four_at s 2; end = four_at s 6 }

abbrev pub edit_of : List ℕ → Edit
edit_of s =
    cond (slice_index s 0 == 1) (edit.Add (add_of (drop 1 s)))
    (cond (slice_index s 0 == 2) (edit.Cancel (two_at (drop 1 s) 0)) (edit.Retime (retime_of (drop 1 s))))

abbrev pub record_item : (x : Section) → List ℕ → Item x
record_item Names s = name_of s
record_item Runs s = add_of s
record_item Edits s = edit_of s

-- the count that a section begins with, and its fault
abbrev pub count_of : Section → List ℕ → ℕ
count_of Names s = slice_index s 0
count_of Runs s = two_at s 0
count_of Edits s = two_at s 0

abbrev pub count_fault : Section → List ℕ → Option PageFault
count_fault x s = cond (nat_lt (length s) (width x)) (Some Short) (cond (nat_lt (limit x) (count_of x s)) (Some CountAboveLimit) None)

-- go on where there is no fault
abbrev pub unless : {R : Type 0} → Option PageFault → (PageFault → R) → R → R
unless (Some f) stop go = stop f
unless None stop go = go

-- go on with what was read
abbrev pub after : {A B : Type 0} → Result A Located → (A → Result B Located) → Result B Located
after (Ok a) go = go a
after (Err e) go = Err e

-- where n records end of which the first is the section's k-th, or the first fault among them
abbrev pub walk : Section → (n k at : ℕ) → List ℕ → Result ℕ Located
walk x zero k at s = Ok at
walk x (suc n) k at s = unless (record_fault x s) (λ f. Err (located f x k at)) (walk x n (suc k) (at + record_size x s) (drop (record_size x s) s))

-- what n records say
abbrev pub items : (x : Section) → ℕ → List ℕ → List (Item x)
items x zero s = []
items x (suc n) s = record_item x s ∷ items x n (drop (record_size x s) s)

-- where the section ends whose count stands at `start`, of which `read` records are known to end at `at`; or its first fault
abbrev pub section_rest : Section → List ℕ → (start read at : ℕ) → Result ℕ Located
section_rest x p start read at =
    unless (count_fault x (drop start p)) (λ f. Err (located f x 0 start)) (walk x (count_of x (drop start p) - read) (suc read) at (drop at p))

abbrev pub section_end : Section → List ℕ → ℕ → Result ℕ Located
section_end x p start = section_rest x p start 0 (start + width x)

abbrev pub section_items : (x : Section) → List ℕ → ℕ → List (Item x)
section_items x p start = items x (count_of x (drop start p)) (drop (start + width x) p)

-- the step past the edits: nothing may follow the last one
abbrev pub at_end : List ℕ → ℕ → Result ℕ Located
at_end p at = cond (nat_lt at (length p)) (Err (located Excess Edits 0 at)) (Ok at)

-- what the whole page says, or its first fault
abbrev pub reading : List ℕ → Result Content Located
reading p =
    after (section_end Names p 0) (λ a.
    after (section_end Runs p a) (λ b.
    after (section_end Edits p b) (λ c.
    after (at_end p c) (λ _.
    Ok (record { names = section_items Names p 0; runs = section_items Runs p a; edits = section_items Edits p b })))))

abbrev pub counts_of : Content → Counts
counts_of c = record { names = length c.names; runs = length c.runs; edits = length c.edits }
