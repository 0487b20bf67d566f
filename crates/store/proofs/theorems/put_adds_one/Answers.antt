use Rattle.store.proofs.Puts.{put_adds_one}
use Rattle.store.proofs.theorems.put_adds_one.Goals as goal

pub returns : goal.returns
returns c = put_adds_one
