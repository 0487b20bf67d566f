use Rattle.store.proofs.Relinking.{take_relinks}
use Rattle.store.proofs.theorems.take_relinks.Goals as goal

pub returns : goal.returns
returns c = take_relinks
