use Rattle.store.proofs.Edits.{rename_keeps}
use Rattle.store.proofs.theorems.rename_keeps.Goals as goal

pub returns : goal.returns
returns c = rename_keeps
