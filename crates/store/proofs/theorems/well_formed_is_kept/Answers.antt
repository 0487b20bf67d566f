use Rattle.store.proofs.Formed.{well_formed_is_kept}
use Rattle.store.proofs.theorems.well_formed_is_kept.Goals as goal

pub returns : goal.returns
returns c = well_formed_is_kept
