use Rattle.store.proofs.Takes.{take_removes_one}
use Rattle.store.proofs.theorems.take_removes_one.Goals as goal

pub returns : goal.returns
returns c = take_removes_one
