use Rattle.changes.proofs.Concluding.{reduced_own}
use Rattle.changes.proofs.reduced_list_is_its_own_reduced_list.Goals as goal

pub returns : goal.returns
returns c = reduced_own
