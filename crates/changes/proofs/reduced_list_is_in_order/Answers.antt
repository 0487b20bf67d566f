use Rattle.changes.proofs.Concluding.{reduced_ordered}
use Rattle.changes.proofs.reduced_list_is_in_order.Goals as goal

pub returns : goal.returns
returns c = reduced_ordered
