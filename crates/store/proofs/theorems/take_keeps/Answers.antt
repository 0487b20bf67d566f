use Rattle.store.proofs.Takes.{take_keeps}
use Rattle.store.proofs.theorems.take_keeps.Goals as goal

pub returns : goal.returns
returns c = take_keeps
