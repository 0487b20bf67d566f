use Rattle.writer.proofs.Accepting.{document_written_back}
use Rattle.writer.proofs.theorems.accepted_document_is_written_back.Goals as goal

pub returns : goal.returns
returns c = document_written_back
