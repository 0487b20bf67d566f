use Rattle.std.proofs.Common.{sym, ◌∙◌}
use Rattle.walk.proofs.Walking.{child_after, childless_after}
use Rattle.walk.proofs.order.after.Goals as goal

pub returns-then-child-ne0 : goal.returns-then-child-ne0
returns-then-child-ne0 g c =
    child_after (g.R.Reading.forest c.args.store.now) c.kept.ensures.shape c.args.id c.first_child-child.result c.first_child-child.ensures c.if-child-ne0.true

pub returns : goal.returns
returns g c =
    c.behind.ensures ∙ childless_after (g.R.Reading.forest c.args.store.now) c.kept.ensures.shape c.args.id (sym c.first_child-child.ensures ∙ c.if-child-ne0.false)
