use Rattle.std.proofs.Common.{◌≡◌, ◌<◌, length, sym, ap, ◌∙◌, arith}
use Rattle.document.specs.Table.{closed_to, takes_above}
use Rattle.nodetable.specs.Open.{open_in}
use Rattle.nodetable.proofs.Elements.{child_passes, opened_below, length_opened, takes_none}
use Rattle.nodetable.proofs.order.Standing.pass_child.Goals as goal
use Rattle.nodetable.proofs.order.Standing.pass_child.Goals.{in-Element, in_default}

pub returns-clause-passes : goal.returns-clause-passes
returns-clause-passes c =
    let es = open_in c.args.self.now.open in
    let x = c.args.node.now in
    let some : 0 < length (closed_to x.parent es) = omega (arith, c.pass.ensures.around, c.if-pass-eq0.false) in
    let left = c.pass.ensures.open ∙ opened_below x.kind x.id x.parent _ es c.requires in
    let above : c.match-node.self ≡ takes_above x.kind =
    elim c.match-node.branch [
      | in-Element w ↦ w.self-is ∙ ap takes_above (sym w.in-Element.is)
      | in_default w ↦ w.self-is ∙ sym (takes_none x.kind w.in_default.not-Element)
    ]
    in
    rw (left, above) (child_passes es x some)

pub returns-clause-within : goal.returns-clause-within
returns-clause-within c =
    let es = open_in c.args.self.now.open in
    let x = c.args.node.now in
    omega (arith, ap length (c.pass.ensures.open ∙ opened_below x.kind x.id x.parent _ es c.requires), length_opened x.kind x.id x.parent es)
