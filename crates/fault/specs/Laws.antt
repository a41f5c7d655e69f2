-- What the numbers are for: a number names one fault, and one layer.
use Rattle.std.specs.Prelude.{◌≡◌}
use Rattle.fault.specs.Numbers.{book_number, plan_number, page_number, layer_of}
use Rattle.fault.specs.declared.BookFault.{BookFault}
use Rattle.fault.specs.declared.PlanFault.{PlanFault}
use Rattle.fault.specs.declared.PlanFault.TheVariants.{Book}
use Rattle.fault.specs.declared.PageFault.{PageFault}
use Rattle.fault.specs.declared.PageFault.TheVariants.{Plan}
use Rattle.fault.specs.declared.Layer.TheVariants as layer

abbrev pub NumbersDiffer : Type 0
NumbersDiffer = (e f : PageFault) → page_number e ≡ page_number f → e ≡ f

pub record LayersNest : Type 0 where
  pub book_in_plan : (b : BookFault) → plan_number (Book b) ≡ book_number b
  pub plan_in_page : (p : PlanFault) → page_number (Plan p) ≡ plan_number p
  pub book_layer : (b : BookFault) → layer_of (page_number (Plan (Book b))) ≡ layer.Book
