use Rattle.book.proofs.Places.{place_below, value_place, held_value}
use Rattle.book.proofs.laws.places_count_keys.Goals as goal

pub returns : goal.returns
returns g c = record { of_place = place_below; of_key = value_place; held_has_value = held_value }
