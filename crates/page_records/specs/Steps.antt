-- A reader's single steps.
use Rattle.std.specs.Prelude.{ℕ, suc, ◌+◌, cond, List, length, drop, Some, None, Ok, Err, Option, Result, nat_le}
use Rattle.fault.specs.declared.PageFault.{PageFault}
use Rattle.fault.specs.declared.Section.{Section}
use Rattle.fault.specs.declared.Located.{Located}
use Rattle.page_format.specs.Grammar.{width}
use Rattle.fault.specs.Places.{located}
use Rattle.page_format.specs.Reading.{record_fault, record_size, count_fault, count_of, unless, section_rest}
use Rattle.page_records.specs.declared.cursor.Cursor.{Cursor}

-- the size of the record that begins with these bytes, or its fault
abbrev pub sized : Section → List ℕ → Result ℕ PageFault
sized x s = unless (record_fault x s) Err (Ok (record_size x s))

-- the count that begins with these bytes, or its fault
abbrev pub counted : Section → List ℕ → Result ℕ PageFault
counted x s = unless (count_fault x s) Err (Ok (count_of x s))

-- the count that stands at a byte, or its fault with its place
abbrev pub counted_at : Section → List ℕ → ℕ → Result ℕ Located
counted_at x p start = unless (count_fault x (drop start p)) (λ f. Err (located f x 0 start)) (Ok (count_of x (drop start p)))

-- where the record ends that begins at a byte, the section's k-th, or its fault with its place
abbrev pub ended_at : Section → List ℕ → (k at : ℕ) → Result ℕ Located
ended_at x p k at = unless (record_fault x (drop at p)) (λ f. Err (located f x k at)) (Ok (at + record_size x (drop at p)))

-- the size of the next record, none after the last, or the fault
abbrev pub next_size : Section → List ℕ → Cursor → Result (Option ℕ) Located
next_size x p c =
    unless (count_fault x (drop c.start p)) (λ f. Err (located f x 0 c.start))
    (cond (nat_le (count_of x (drop c.start p)) c.read) (Ok None)
    (unless (record_fault x (drop c.at p)) (λ f. Err (located f x (suc c.read) c.at)) (Ok (Some (record_size x (drop c.at p))))))

-- the cursor of a section whose count stands at `start`: its first record begins past the count, if the page has that whole
abbrev pub opening : Section → List ℕ → ℕ → Cursor
opening x p start = record { start = start; read = 0; at = cond (nat_le (width x) (length (drop start p))) (start + width x) start }

-- the cursor past a record
abbrev pub moved : Cursor → ℕ → Cursor
moved c size = record { start = c.start; read = c.read + 1; at = c.at + size }

-- where the section ends, or its first fault from the cursor on
abbrev pub rest_of : Section → List ℕ → Cursor → Result ℕ Located
rest_of x p c = section_rest x p c.start c.read c.at
