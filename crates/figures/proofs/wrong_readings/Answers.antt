use Rattle.figures.proofs.wrong_readings.Goals as goal
use Rattle.figures.proofs.Wrong.{wrong_readings}

pub returns : goal.returns
returns c = wrong_readings
