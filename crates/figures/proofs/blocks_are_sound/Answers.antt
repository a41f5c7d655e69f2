use Rattle.figures.proofs.blocks_are_sound.Goals as goal
use Rattle.figures.proofs.Sewn.{blocks_are_sound}

pub returns : goal.returns
returns c = blocks_are_sound
