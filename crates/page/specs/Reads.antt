-- What the calls of a reader answer, and where they leave it.
use Rattle.std.specs.Prelude.{◌≡◌, ℕ, List, Ok, Result}
use Rattle.fault.specs.declared.Section.{Section}
use Rattle.fault.specs.declared.Section.TheVariants.{Edits}
use Rattle.fault.specs.declared.Located.{Located}
use Rattle.page_format.specs.Reading.{after, at_end}
use Rattle.page_records.specs.declared.cursor.Cursor.{Cursor}
use Rattle.page_records.specs.Steps.{opening, rest_of}

-- a reader at c, whose section x was sound to its end, went on to d at the opening of the section y
pub record Opened (x y : Section) (p : List ℕ) (c d : Cursor) : Type 0 where
  pub end : rest_of x p c ≡ Ok d.start
  pub begin : d ≡ opening y p d.start

-- where the edits end that are left, which has to be where the page ends; or the first fault
abbrev pub edits_end : List ℕ → Cursor → Result ℕ Located
edits_end p c = after (rest_of Edits p c) (at_end p)
