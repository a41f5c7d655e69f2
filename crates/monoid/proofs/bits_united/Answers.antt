use Rattle.monoid.proofs.Sets.{bits_united}
use Rattle.monoid.proofs.bits_united.Goals as goal

pub returns : goal.returns
returns c = bits_united
