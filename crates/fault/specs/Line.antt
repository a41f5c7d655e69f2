-- The words for layers and sections, and the line that tells a fault and its place.
use Rattle.std.specs.Prelude.{ℕ, List, ◌++◌, codes, decimal}
use Rattle.fault.specs.Numbers.{page_number, section_number, layer_of}
use Rattle.fault.specs.declared.Layer.{Layer}
use Rattle.fault.specs.declared.Layer.TheVariants.{Page, Plan, Book}
use Rattle.fault.specs.declared.Section.{Section}
use Rattle.fault.specs.declared.Section.TheVariants.{Names, Runs, Edits}
use Rattle.fault.specs.declared.Located.{Located}

abbrev pub layer_word : Layer → List ℕ
layer_word Page = codes "page"
layer_word Plan = codes "plan"
layer_word Book = codes "book"

abbrev pub section_word : Section → List ℕ
section_word Names = codes "names"
section_word Runs = codes "runs"
section_word Edits = codes "edits"

-- `fault`, the layer, the number, and the place, with no line end
abbrev pub fault_line : Located → List ℕ
fault_line x =
    codes "fault " ++ (layer_word (layer_of (page_number x.fault)) ++ (codes " " ++ (decimal (page_number x.fault) ++ (codes " section " ++ (decimal (section_number x.place.section) ++ (codes " record " ++ (decimal x.place.record ++ (codes " byte " ++ decimal x.place.byte))))))))
