use Rattle.store.proofs.Formed.{kept_is_well_formed}
use Rattle.store.proofs.theorems.kept_is_well_formed.Goals as goal

pub returns : goal.returns
returns c = kept_is_well_formed
