use Rattle.store.proofs.Neighbours.{size_and_root_are_listed}
use Rattle.store.proofs.theorems.size_and_root_are_listed.Goals as goal

pub returns : goal.returns
returns c = size_and_root_are_listed
