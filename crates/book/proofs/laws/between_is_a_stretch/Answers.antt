use Rattle.book.proofs.Places.{between_is, between_empty}
use Rattle.book.proofs.laws.between_is_a_stretch.Goals as goal

pub returns : goal.returns
returns g c = record { places = between_is; none = between_empty }
