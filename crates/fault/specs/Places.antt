-- A fault and where it lies.
use Rattle.std.specs.Prelude.{ℕ}
use Rattle.fault.specs.declared.PageFault.{PageFault}
use Rattle.fault.specs.declared.Section.{Section}
use Rattle.fault.specs.declared.Located.{Located}

abbrev pub located : PageFault → Section → (number byte : ℕ) → Located
located f x number byte = record { fault = f; place = record { section = x; «record» = number; byte = byte } }
