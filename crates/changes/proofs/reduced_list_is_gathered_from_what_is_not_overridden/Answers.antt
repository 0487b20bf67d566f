use Rattle.changes.proofs.Concluding.{reduced_by_rules}
use Rattle.changes.proofs.reduced_list_is_gathered_from_what_is_not_overridden.Goals as goal

pub returns : goal.returns
returns c = reduced_by_rules
