-- The kinds of edits.
use Rattle.std.specs.Prelude.{◌≡◌, ℕ, Result, MatchResult}
use Rattle.fault.specs.declared.PageFault.{PageFault}
use Rattle.fault.specs.declared.PageFault.TheVariants as fault
use Rattle.page_format.specs.Reading.{kind_size}
use Rattle.page_records.specs.declared.kind.EditKind.{EditKind}
use Rattle.page_records.specs.declared.kind.EditKind.TheVariants.{Add, Cancel, Retime}

-- the byte that stands for a kind
abbrev pub code_of : EditKind → ℕ
code_of Add = 1
code_of Cancel = 2
code_of Retime = 3

-- the kind that the byte stands for, or the fault where the format has no such kind
abbrev pub Decodes : ℕ → Result EditKind PageFault → Type 0
Decodes code r = MatchResult r (λ kind. code_of kind ≡ code) (λ e. (e ≡ fault.EditKind) × (kind_size code ≡ 0))
