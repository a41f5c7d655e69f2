use Rattle.timetable.proofs.numbers_are_places.Goals as goal
use Rattle.timetable.proofs.Numbers.{numbers_are_places}

pub returns : goal.returns
returns c = numbers_are_places
