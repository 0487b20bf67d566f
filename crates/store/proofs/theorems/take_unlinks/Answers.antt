use Rattle.store.proofs.Unlinking.{take_unlinks}
use Rattle.store.proofs.theorems.take_unlinks.Goals as goal

pub returns : goal.returns
returns c = take_unlinks
