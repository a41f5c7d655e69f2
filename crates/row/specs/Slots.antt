-- What a row's memory means: the first `count` records are its entries.
use Rattle.std.specs.Prelude.{ℕ, min, List, map, take}
use Rattle.row.specs.declared.entry.Entry.{Entry}

-- a record as an entry, with its value read
abbrev pub pair : {P V : Type 0} → (P → V) → Entry P → ℕ × V
pair reads e = (e.key, reads e.value)

abbrev pub pairs : {P V : Type 0} → (P → V) → List (Entry P) → List (ℕ × V)
pairs reads es = map (pair reads) es

abbrev pub entries_of : {P V : Type 0} → (P → V) → List (Entry P) → ℕ → List (ℕ × V)
entries_of reads memory count = pairs reads (take count memory)

-- the values as they are stored
abbrev pub stored : {P : Type 0} → P → P
stored p = p

-- as many entries as the memory takes, at most 2,048
abbrev pub capacity_of : ℕ → ℕ
capacity_of records = min records 2048
