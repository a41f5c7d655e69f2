use Rattle.book.proofs.Order.{same_members}
use Rattle.book.proofs.laws.members_fix_the_list.Goals as goal

pub returns : goal.returns
returns g c = same_members
