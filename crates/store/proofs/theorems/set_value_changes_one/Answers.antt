use Rattle.store.proofs.Edits.{set_value_changes_one}
use Rattle.store.proofs.theorems.set_value_changes_one.Goals as goal

pub returns : goal.returns
returns c = set_value_changes_one
