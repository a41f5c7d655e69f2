use Rattle.timetable.proofs.walking_gives_the_block.Goals as goal
use Rattle.timetable.proofs.Blocks.{walking_gives_the_block}

pub returns : goal.returns
returns c = walking_gives_the_block
