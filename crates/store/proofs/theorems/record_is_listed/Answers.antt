use Rattle.store.proofs.Questions.{record_is_listed}
use Rattle.store.proofs.theorems.record_is_listed.Goals as goal

pub returns : goal.returns
returns c = record_is_listed
