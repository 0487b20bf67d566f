use Rattle.store.proofs.Edits.{rename_changes_one}
use Rattle.store.proofs.theorems.rename_changes_one.Goals as goal

pub returns : goal.returns
returns c = rename_changes_one
