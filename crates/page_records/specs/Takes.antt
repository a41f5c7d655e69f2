-- What stands at a cursor.
use Rattle.std.specs.Prelude.{◌≡◌, ℕ, suc, List, drop, Some, None, Ok, Err, Option, Result}
use Rattle.fault.specs.declared.PageFault.{PageFault}
use Rattle.fault.specs.declared.Section.{Section}
use Rattle.fault.specs.declared.Located.{Located}
use Rattle.page_format.specs.Reading.{record_size}
use Rattle.page_records.specs.declared.cursor.Cursor.{Cursor}
use Rattle.page_records.specs.declared.record.Record.{Record}
use Rattle.page_records.specs.Records.{Holds}
use Rattle.page_records.specs.Steps.{sized, ended_at, next_size, moved}

-- the record that begins with these bytes and its size, or its fault
abbrev pub First : Section → List ℕ → Result (Record × ℕ) PageFault → Type 0
First x s (Err e) = sized x s ≡ Err e
First x s (Ok t) = (sized x s ≡ Ok t.1) × Holds x s t.0

-- the record at the cursor c was taken, which leaves d past it; or its fault was told, which leaves c
abbrev pub Took : Section → List ℕ → (c d : Cursor) → Result Record Located → Type 0
Took x p c d (Err e) = (ended_at x p (suc c.read) c.at ≡ Err e) × (d ≡ c)
Took x p c d (Ok r) =
    (ended_at x p (suc c.read) c.at ≡ Ok d.at) × (d ≡ moved c (record_size x (drop c.at p))) × Holds x (drop c.at p) r

-- a reader at c that was asked for its next record answered r and is at d
abbrev pub Next : Section → List ℕ → (c d : Cursor) → Result (Option Record) Located → Type 0
Next x p c d (Err e) = (next_size x p c ≡ Err e) × (d ≡ c)
Next x p c d (Ok None) = (next_size x p c ≡ Ok None) × (d ≡ c)
Next x p c d (Ok (Some r)) =
    (next_size x p c ≡ Ok (Some (record_size x (drop c.at p)))) × (d ≡ moved c (record_size x (drop c.at p))) × Holds x (drop c.at p) r
