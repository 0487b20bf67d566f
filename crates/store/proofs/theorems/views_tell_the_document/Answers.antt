use Rattle.store.proofs.Telling.{views_tell_the_document}
use Rattle.store.proofs.theorems.views_tell_the_document.Goals as goal

pub returns : goal.returns
returns c = views_tell_the_document
