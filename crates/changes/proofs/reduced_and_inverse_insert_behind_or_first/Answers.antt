use Rattle.changes.proofs.Concluding.{inserts_by_gap}
use Rattle.changes.proofs.reduced_and_inverse_insert_behind_or_first.Goals as goal

pub returns : goal.returns
returns c = inserts_by_gap
