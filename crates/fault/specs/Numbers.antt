-- The number of each fault, and the layer of each number.
use Rattle.std.specs.Prelude.{ℕ, cond, ◌&&◌, nat_le}
use Rattle.fault.specs.declared.BookFault.{BookFault}
use Rattle.fault.specs.declared.BookFault.TheVariants.{KeyHeld, Full, NotHeld}
use Rattle.fault.specs.declared.PlanFault.{PlanFault}
use Rattle.fault.specs.declared.PlanFault.TheVariants.{NameCount, VaultCount, AlreadyOpen, RunNumber, Vault, Minute, EndNotAfterStart, NotFree, NotStanding, NotLifted, BoxNumber, OutputShort, Book}
use Rattle.fault.specs.declared.PageFault.{PageFault}
use Rattle.fault.specs.declared.PageFault.TheVariants.{Short, CountAboveLimit, BadName, EditKind, Excess, Plan}
use Rattle.fault.specs.declared.Layer.{Layer}
use Rattle.fault.specs.declared.Layer.TheVariants as layer
use Rattle.fault.specs.declared.Section.{Section}
use Rattle.fault.specs.declared.Section.TheVariants.{Names, Runs, Edits}

abbrev pub book_number : BookFault → ℕ
book_number KeyHeld = 20
book_number Full = 21
book_number NotHeld = 22

abbrev pub plan_number : PlanFault → ℕ
plan_number NameCount = 6
plan_number VaultCount = 7
plan_number AlreadyOpen = 8
plan_number RunNumber = 10
plan_number Vault = 11
plan_number Minute = 12
plan_number EndNotAfterStart = 13
plan_number NotFree = 14
plan_number NotStanding = 15
plan_number NotLifted = 16
plan_number BoxNumber = 18
plan_number OutputShort = 19
plan_number (Book fault) = book_number fault

abbrev pub page_number : PageFault → ℕ
page_number Short = 1
page_number CountAboveLimit = 2
page_number BadName = 3
page_number EditKind = 4
page_number Excess = 5
page_number (Plan fault) = plan_number fault

-- pages have 1 to 5, books 20 to 22, plans every other number
abbrev pub layer_of : ℕ → Layer
layer_of n = cond (nat_le 1 n && nat_le n 5) layer.Page (cond (nat_le 20 n && nat_le n 22) layer.Book layer.Plan)

abbrev pub section_number : Section → ℕ
section_number Names = 1
section_number Runs = 2
section_number Edits = 3
