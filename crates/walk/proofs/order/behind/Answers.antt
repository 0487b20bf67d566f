use Rattle.std.proofs.Common.{sym, ◌∙◌}
use Rattle.walk.proofs.Walking.{beside, climbs, ends}
use Rattle.walk.proofs.order.behind.Goals as goal

pub returns-then-at-eq0 : goal.returns-then-at-eq0
returns-then-at-eq0 g c =
    ends (g.R.Reading.forest c.args.store.now) c.kept.ensures.shape c.loop-next.at c.parent-at.result (sym c.loop-next.invariant.1 ∙ c.loop-next-test.true) c.parent-at.ensures
    c.if-at-eq0.true
    ∙ c.loop-next.invariant.0

pub loop-next-smaller : goal.loop-next-smaller
loop-next-smaller g c =
    (climbs (g.R.Reading.forest c.args.store.now) c.kept.ensures.shape c.loop-next.at c.parent-at.result (sym c.loop-next.invariant.1 ∙ c.loop-next-test.true) c.parent-at.ensures
    c.if-at-eq0.false).less

pub loop-next-preserved : goal.loop-next-preserved
loop-next-preserved g c = (
  (climbs (g.R.Reading.forest c.args.store.now) c.kept.ensures.shape c.loop-next.at c.parent-at.result (sym c.loop-next.invariant.1 ∙ c.loop-next-test.true) c.parent-at.ensures
      c.if-at-eq0.false).same
      ∙ c.loop-next.invariant.0,
  c.next_sibling-next-in-loop-next.ensures,
)

pub returns : goal.returns
returns g c =
    beside (g.R.Reading.forest c.args.store.now) c.kept.ensures.shape c.loop-next.at c.loop-next.next c.loop-next.invariant.1 c.loop-next-test.false ∙ c.loop-next.invariant.0
