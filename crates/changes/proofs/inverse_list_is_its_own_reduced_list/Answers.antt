use Rattle.changes.proofs.Concluding.{inverse_own}
use Rattle.changes.proofs.inverse_list_is_its_own_reduced_list.Goals as goal

pub returns : goal.returns
returns c = inverse_own
