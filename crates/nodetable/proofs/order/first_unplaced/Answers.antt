use Rattle.std.proofs.Common.{◌+◌, sym, ◌∙◌, arith}
use Rattle.nodetable.specs.Open.{open_in}
use Rattle.nodetable.proofs.Elements.{order_on}
use Rattle.nodetable.proofs.order.first_unplaced.Goals as goal

pub returns-then-not-pass : goal.returns-then-not-pass
returns-then-not-pass c =
    let at = c.loop-passed.standing in
    sym (order_on (open_in at.open) at.above c.args.behind_root.now c.loop-passed.passed (c.loop-passed.passed + 1) _ _ c.loop-passed-test.true (sym c.if-not-pass.ensures.passes))
    ∙ c.loop-passed.invariant.2

pub loop-passed-preserved : goal.loop-passed-preserved
loop-passed-preserved c =
    let at = c.loop-passed.standing in
    let passed = c.if-not-pass.ensures in (
      omega (arith, passed.within, c.loop-passed.invariant.0),
      passed.places ∙ c.loop-passed.invariant.1,
      sym (order_on (open_in at.open) at.above c.args.behind_root.now c.loop-passed.passed (c.loop-passed.passed + 1) _ _ c.loop-passed-test.true (sym passed.passes))
          ∙ c.loop-passed.invariant.2,
    )
