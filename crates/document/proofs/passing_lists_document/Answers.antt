use Rattle.document.proofs.Passing.{passing_lists_document}
use Rattle.document.proofs.passing_lists_document.Goals as goal

pub returns : goal.returns
returns c = passing_lists_document
