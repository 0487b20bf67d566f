use Rattle.changes.proofs.Concluding.{inverse_ordered}
use Rattle.changes.proofs.inverse_list_is_in_order.Goals as goal

pub returns : goal.returns
returns c = inverse_ordered
