use Rattle.carry.proofs.Loading.{loading_leads_to_the_document}
use Rattle.carry.proofs.theorems.loading_leads_to_the_document.Goals as goal

pub returns : goal.returns
returns c = loading_leads_to_the_document
