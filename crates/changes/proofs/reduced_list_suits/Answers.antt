use Rattle.changes.proofs.Concluding.{reduced_suits}
use Rattle.changes.proofs.reduced_list_suits.Goals as goal

pub returns : goal.returns
returns c = reduced_suits
