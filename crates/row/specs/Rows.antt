-- What a row means: a capacity and a list of entries.
use Rattle.std.specs.Prelude.{◌≡◌, ℕ, ◌<◌, ◌≤◌, false, List, vec_items, vec_len, slice_index_or}
use Rattle.book.specs.Entries.{held, count_below}
use Rattle.monoid.specs.declared.Monoid as Monoid
use Rattle.monoid.specs.declared.semigroup.Semigroup as Semigroup
use Rattle.row.specs.declared.entry.Entry.{Entry}
use Rattle.row.specs.declared.row.Row.{Row}
use Rattle.row.specs.Slots.{entries_of, capacity_of}

-- a row of the values of any monoid
module _ {M P : Type 0} {m : Monoid.Ghosts M P} {s : Semigroup.Ghosts M} where
  -- the first `count` records, with their values read
  abbrev pub row_entries : {V : Type 0} → (P → V) → Row M P m s → List (ℕ × V)
  row_entries reads r = entries_of reads (vec_items r.memory) r.count

  abbrev pub row_capacity : Row M P m s → ℕ
  row_capacity r = capacity_of (vec_len r.memory)

  -- the key stands at a place
  pub record Stands (r : Row M P m s) (key place : ℕ) : Type 0 where
    pub within : place < r.count
    pub here : (d : Entry P) → (slice_index_or (vec_items r.memory) place d).key ≡ key

  -- the key stands nowhere, and would belong at a place
  pub record Belongs {V : Type 0} (reads : P → V) (r : Row M P m s) (key place : ℕ) : Type 0 where
    pub within : place ≤ r.count
    pub there : place ≡ count_below key (row_entries reads r)
    pub absent : held key (row_entries reads r) ≡ false
