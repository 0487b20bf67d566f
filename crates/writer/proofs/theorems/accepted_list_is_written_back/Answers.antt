use Rattle.writer.proofs.Accepting.{list_written_back}
use Rattle.writer.proofs.theorems.accepted_list_is_written_back.Goals as goal

pub returns : goal.returns
returns c = list_written_back
