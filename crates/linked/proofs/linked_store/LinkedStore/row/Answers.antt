use Rattle.std.proofs.Common.{◌∙◌}
use Rattle.store.specs.Views.{view}
use Rattle.linked.specs.Document.{document}
use Rattle.linked.proofs.Holding.{looked_up, asked_row}
use Rattle.linked.proofs.linked_store.LinkedStore.row.Goals as goal

pub returns : goal.returns
returns c = c.ok_or.ensures.value ∙ asked_row _ (view (document c.args.self.now) c.args.id) (looked_up c.args.self.now c.args.id _ c.row.ensures)
