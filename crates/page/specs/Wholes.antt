-- What the calls on a whole page answer.
use Rattle.std.specs.Prelude.{◌≡◌, ℕ, ◌+◌, ◌<◌, ◌≤◌, List, [], length, take, drop, Ok, Result, ◌≢◌, slice_index_or}
use Rattle.std.specs.List.{flat_map}
use Rattle.fault.specs.declared.Section.{Section}
use Rattle.fault.specs.declared.Section.TheVariants.{Names}
use Rattle.fault.specs.declared.Located.{Located}
use Rattle.page_format.specs.declared.Counts.{Counts}
use Rattle.page_format.specs.Grammar.{Content, LawfulPage, page_bytes, name_bytes}
use Rattle.page_format.specs.Reading.{after, section_end, section_items, count_of, counts_of}

-- a section's count and where it ends, or its first fault
abbrev pub section_read : Section → List ℕ → ℕ → Result (ℕ × ℕ) Located
section_read x p start = after (section_end x p start) (λ e. Ok (count_of x (drop start p), e))

-- how many records of each section were read
abbrev pub tallied : Result Content Located → Result Counts Located
tallied r = after r (λ c. Ok (counts_of c))

-- the bytes of a lawful page with these counts
abbrev pub Encodes : List ℕ → Counts → Type 0
Encodes p n = (c : Content) × LawfulPage c × (page_bytes c ≡ p) × (n ≡ counts_of c)

-- the bytes of no lawful page, with a fault that lies within them or at their end
pub record NoPage (p : List ℕ) (e : Located) : Type 0 where
  pub none : (c : Content) → LawfulPage c → page_bytes c ≢ p
  pub within : e.place.byte ≤ length p

-- the names have a fault, or there are not more than k
abbrev pub NoName : List ℕ → ℕ → Type 0
NoName p k = (end : ℕ) → section_end Names p 0 ≡ Ok end → count_of Names p ≤ k

-- the k-th of the page's sound names, and the byte of the page where its letters begin: past the count, the names before it
-- and its own length
pub record NameAt (p : List ℕ) (k place : ℕ) (part : List ℕ) : Type 0 where
  pub sound : (end : ℕ) × (section_end Names p 0 ≡ Ok end)
  pub below : k < count_of Names p
  pub name : part ≡ slice_index_or (section_items Names p 0) k []
  pub begins : place ≡ 2 + length (flat_map name_bytes (take k (section_items Names p 0)))
  pub lies : part ≡ take (length part) (drop place p)

-- so many bytes of the page from that place on are the k-th name
pub record Span (p : List ℕ) (k place size : ℕ) : Type 0 where
  pub within : place + size ≤ length p
  pub name : NameAt p k place (take size (drop place p))
