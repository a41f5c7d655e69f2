use Rattle.timetable.proofs.places_are_numbers.Goals as goal
use Rattle.timetable.proofs.Numbers.{places_are_numbers}

pub returns : goal.returns
returns c = places_are_numbers
