use Rattle.store.proofs.Puts.{put_keeps}
use Rattle.store.proofs.theorems.put_keeps.Goals as goal

pub returns : goal.returns
returns c = put_keeps
