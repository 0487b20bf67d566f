use Rattle.changes.proofs.Concluding.{leads_back}
use Rattle.changes.proofs.inverse_list_leads_back.Goals as goal

pub returns : goal.returns
returns c = leads_back
