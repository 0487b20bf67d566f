use Rattle.changes.proofs.Concluding.{one_pass}
use Rattle.changes.proofs.stages_are_one_pass.Goals as goal

pub returns : goal.returns
returns c = one_pass
