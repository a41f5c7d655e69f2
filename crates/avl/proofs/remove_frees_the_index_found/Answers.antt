use Rattle.avl.proofs.Indices.{index_comes_out}
use Rattle.avl.proofs.remove_frees_the_index_found.Goals as goal

pub returns : goal.returns
returns g c = index_comes_out
