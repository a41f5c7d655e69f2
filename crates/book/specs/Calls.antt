-- What a book's calls answer and leave, by its capacity and its entries.
use Rattle.std.specs.Prelude.{ℕ, cond, ◌||◌, List, length, Some, None, Ok, Err, Option, Result, ◌==◌}
use Rattle.fault.specs.declared.BookFault.{BookFault}
use Rattle.fault.specs.declared.BookFault.TheVariants.{KeyHeld, Full, NotHeld}
use Rattle.book.specs.Entries.{held, value_of, inserted}

-- an insert is refused where the key is held, else where the count equals the capacity
abbrev pub insert_answer : {V : Type 0} → (capacity key : ℕ) → List (ℕ × V) → Result (Unit {0}) BookFault
insert_answer capacity key es = cond (held key es) (Err KeyHeld) (cond (length es == capacity) (Err Full) (Ok tt))

-- and else the entry is in its place
abbrev pub after_insert : {V : Type 0} → (capacity key : ℕ) → V → List (ℕ × V) → List (ℕ × V)
after_insert capacity key value es = cond (held key es || length es == capacity) es (inserted key value es)

abbrev pub or_not_held : {V : Type 0} → Option V → Result V BookFault
or_not_held None = Err NotHeld
or_not_held (Some value) = Ok value

-- a removal answers the value that goes, and is refused where the key is not held
abbrev pub remove_answer : {V : Type 0} → (key : ℕ) → List (ℕ × V) → Result V BookFault
remove_answer key es = or_not_held (value_of key es)
