use Rattle.avl.proofs.Indices.{index_goes_in}
use Rattle.avl.proofs.insert_adds_its_index.Goals as goal

pub returns : goal.returns
returns g c = index_goes_in
