use Rattle.store.proofs.Neighbours.{neighbours_are_listed}
use Rattle.store.proofs.theorems.neighbours_are_listed.Goals as goal

pub returns : goal.returns
returns c = neighbours_are_listed
