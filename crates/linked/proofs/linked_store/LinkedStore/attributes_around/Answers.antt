use Rattle.std.proofs.Common.{ap, ◌∙◌}
use Rattle.std.specs.Result.{result_unwrap_or}
use Rattle.linked.specs.Document.{document}
use Rattle.linked.proofs.Holding.{is_kept}
use Rattle.linked.proofs.Walking.{starts}
use Rattle.linked.proofs.linked_store.LinkedStore.attributes_around.Goals as goal

pub loop-next-init : goal.loop-next-init
loop-next-init c =
    starts (document c.args.self.now) c.args.parent c.args.id (is_kept c.args.self.now) c.unwrap_or-next.result
    (c.unwrap_or-next.ensures ∙ ap (λ r. result_unwrap_or r 0) c.first_attribute.ensures)
