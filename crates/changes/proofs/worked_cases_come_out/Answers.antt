use Rattle.std.proofs.Common.{refl}
use Rattle.document.specs.Table.{document_of}
use Rattle.changes.specs.Stages.{apply}
use Rattle.changes.specs.Reduced.{reduced}
use Rattle.changes.specs.Inverse.{inverse}
use Rattle.changes.specs.Tests.{change_test}
use Rattle.changes.specs.Tables.{list_test}
use Rattle.changes.specs.Cases.{six}
use Rattle.changes.proofs.worked_cases_come_out.Goals as goal

pub returns : goal.returns
unfolding document_of apply reduced inverse change_test list_test six
returns c = (refl, refl)
