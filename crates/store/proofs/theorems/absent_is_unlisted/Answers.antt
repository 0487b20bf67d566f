use Rattle.store.proofs.Questions.{absent_is_unlisted}
use Rattle.store.proofs.theorems.absent_is_unlisted.Goals as goal

pub returns : goal.returns
returns c = absent_is_unlisted
