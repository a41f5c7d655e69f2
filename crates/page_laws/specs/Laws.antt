-- What the readers have to do with the reading of a whole page, and with the grammar.
use Rattle.std.specs.Prelude.{◌≡◌, ℕ, List, Some, None, Ok}
use Rattle.fault.specs.declared.Section.{Section}
use Rattle.fault.specs.declared.Section.TheVariants.{Names, Runs, Edits}
use Rattle.page_format.specs.Grammar.{limit}
use Rattle.page_format.specs.Reading.{record_fault, record_item, reading, section_end, section_items}
use Rattle.page_records.specs.declared.cursor.Cursor.{Cursor}
use Rattle.page_records.specs.declared.record.Record.{Record}
use Rattle.page_records.specs.Records.{Holds, name_in, add_in, edit_in}
use Rattle.page_records.specs.Steps.{next_size, moved, opening, rest_of}
use Rattle.page_laws.specs.Walked.{gathered, walked_page}
use Rattle.page.specs.Wholes.{tallied}

-- readers that are asked for every record tell the counts that `check` tells, or the same first fault
abbrev pub ReadersAgree : Type 0
ReadersAgree = (p : List ℕ) → walked_page p ≡ tallied (reading p)

-- reading a record does not change what the step will say
abbrev pub NextKeeps : Type 0
NextKeeps = (x : Section) (p : List ℕ) (c : Cursor) (size : ℕ) → next_size x p c ≡ Ok (Some size) → rest_of x p (moved c size) ≡ rest_of x p c

-- the record of a section, where there is no fault, says what the grammar reads there
pub record RecordsSay : Type 0 where
  pub names : (s : List ℕ) (r : Record) → record_fault Names s ≡ None → Holds Names s r → name_in r ≡ Some (record_item Names s)
  pub runs : (s : List ℕ) (r : Record) → record_fault Runs s ≡ None → Holds Runs s r → add_in r ≡ Some (record_item Runs s)
  pub edits : (s : List ℕ) (r : Record) → record_fault Edits s ≡ None → Holds Edits s r → edit_in r ≡ Some (record_item Edits s)

-- a reader that is asked for all records of a sound section hands out what the section says, in order
abbrev pub ReadersHandOut : Type 0
ReadersHandOut = (x : Section) (p : List ℕ) (start end : ℕ) → section_end x p start ≡ Ok end → gathered x p (limit x) (opening x p start) ≡ section_items x p start
