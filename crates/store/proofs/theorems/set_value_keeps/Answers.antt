use Rattle.store.proofs.Edits.{set_value_keeps}
use Rattle.store.proofs.theorems.set_value_keeps.Goals as goal

pub returns : goal.returns
returns c = set_value_keeps
