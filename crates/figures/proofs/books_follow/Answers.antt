use Rattle.figures.proofs.books_follow.Goals as goal
use Rattle.figures.proofs.Following.{books_follow}

pub returns : goal.returns
returns c = books_follow
