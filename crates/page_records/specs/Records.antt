-- What a record holds of the page, and what it says.
use Rattle.std.specs.Prelude.{◌≡◌, ℕ, cond, List, length, take, drop, Some, None, Option, ◌==◌, slice_index}
use Rattle.std.specs.Borrow.{Bor}
use Rattle.fault.specs.declared.Section.{Section}
use Rattle.fault.specs.declared.Section.TheVariants.{Names, Runs, Edits}
use Rattle.run.specs.declared.Run.{Run}
use Rattle.page_format.specs.declared.Edit.{Edit}
use Rattle.page_format.specs.declared.Edit.TheVariants as edit
use Rattle.page_format.specs.Reading.{two_at, add_of, retime_of}
use Rattle.page_records.specs.declared.record.Record.{Record}
use Rattle.page_records.specs.declared.record.Record.TheVariants as case

-- the record is of the section, and holds its part of what the page has from its first byte on
abbrev pub Holds : Section → List ℕ → Record → Type 0
Holds Names s (case.Name part) = part.now ≡ take (slice_index s 0) (drop 1 s)
Holds Names s (case.Add part) = ⊥
Holds Names s (case.Cancel part) = ⊥
Holds Names s (case.Retime part) = ⊥
Holds Runs s (case.Name part) = ⊥
Holds Runs s (case.Add part) = part.now ≡ take 14 s
Holds Runs s (case.Cancel part) = ⊥
Holds Runs s (case.Retime part) = ⊥
Holds Edits s (case.Name part) = ⊥
Holds Edits s (case.Add part) = (slice_index s 0 ≡ 1) × (part.now ≡ take 14 (drop 1 s))
Holds Edits s (case.Cancel part) = (slice_index s 0 ≡ 2) × (part.now ≡ take 2 (drop 1 s))
Holds Edits s (case.Retime part) = (slice_index s 0 ≡ 3) × (part.now ≡ take 10 (drop 1 s))

-- what is said, where the part has its size
abbrev pub whole : {X : Type 0} → List ℕ → ℕ → X → Option X
whole part n x = cond (length part == n) (Some x) None

abbrev pub name_in : Record → Option (List ℕ)
name_in (case.Name part) = Some part.now
name_in (case.Add part) = None
name_in (case.Cancel part) = None
name_in (case.Retime part) = None

abbrev pub add_in : Record → Option Run
add_in (case.Name part) = None
add_in (case.Add part) = whole part.now 14 (add_of part.now)
add_in (case.Cancel part) = None
add_in (case.Retime part) = None

abbrev pub edit_in : Record → Option Edit
edit_in (case.Name part) = None
edit_in (case.Add part) = whole part.now 14 (edit.Add (add_of part.now))
edit_in (case.Cancel part) = whole part.now 2 (edit.Cancel (two_at part.now 0))
edit_in (case.Retime part) = whole part.now 10 (edit.Retime (retime_of part.now))

-- the record of an edit of kind 1, 2 or 3
abbrev pub of_kind : ℕ → Bor (List ℕ) → Record
of_kind k part = cond (k == 1) (case.Add part) (cond (k == 2) (case.Cancel part) (case.Retime part))
