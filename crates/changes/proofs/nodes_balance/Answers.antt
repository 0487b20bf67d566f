use Rattle.changes.proofs.Concluding.{nodes_balance}
use Rattle.changes.proofs.nodes_balance.Goals as goal

pub returns : goal.returns
returns c = nodes_balance
