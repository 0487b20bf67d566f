use Rattle.changes.proofs.Concluding.{inverse_suits}
use Rattle.changes.proofs.inverse_list_suits_the_changed_document.Goals as goal

pub returns : goal.returns
returns c = inverse_suits
