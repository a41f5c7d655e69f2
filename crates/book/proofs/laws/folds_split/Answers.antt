use Rattle.book.proofs.Splits.{folds_split}
use Rattle.book.proofs.laws.folds_split.Goals as goal

pub returns : goal.returns
returns g c = folds_split
