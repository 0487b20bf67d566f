use Rattle.changes.proofs.Concluding.{leads_to_the_same}
use Rattle.changes.proofs.reduced_list_leads_to_the_same.Goals as goal

pub returns : goal.returns
returns c = leads_to_the_same
