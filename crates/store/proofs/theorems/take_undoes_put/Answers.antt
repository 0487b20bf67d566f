use Rattle.store.proofs.Puts.{take_undoes_put}
use Rattle.store.proofs.theorems.take_undoes_put.Goals as goal

pub returns : goal.returns
returns c = take_undoes_put
