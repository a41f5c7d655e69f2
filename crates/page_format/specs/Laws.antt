-- What the reading has to do with the grammar.
use Rattle.std.specs.Prelude.{◌≡◌, ℕ, ◌<◌, ◌≤◌, List, length, Ok, Err}
use Rattle.std.specs.List.{AllByRecursion}
use Rattle.fault.specs.declared.Located.{Located}
use Rattle.page_format.specs.Grammar.{Content, LawfulPage, page_bytes}
use Rattle.page_format.specs.Reading.{reading}

abbrev pub Bytes : List ℕ → Type 0
Bytes p = AllByRecursion (λ b. b < 256) p

-- encode then read gives the page back
abbrev pub ReadsBack : Type 0
ReadsBack = (c : Content) → LawfulPage c → reading (page_bytes c) ≡ Ok c

-- what is read whole encodes to the same bytes
abbrev pub WritesBack : Type 0
WritesBack = (p : List ℕ) (c : Content) → Bytes p → reading p ≡ Ok c → LawfulPage c × (page_bytes c ≡ p)

-- no two pages have the same bytes
abbrev pub OneReading : Type 0
OneReading = (c d : Content) → LawfulPage c → LawfulPage d → page_bytes c ≡ page_bytes d → c ≡ d

-- a fault lies within the page, or at its end
abbrev pub PlacesWithin : Type 0
PlacesWithin = (p : List ℕ) (e : Located) → reading p ≡ Err e → e.place.byte ≤ length p
