use Rattle.store.proofs.Edits.{rename_reshows}
use Rattle.store.proofs.theorems.rename_reshows.Goals as goal

pub returns : goal.returns
returns c = rename_reshows
