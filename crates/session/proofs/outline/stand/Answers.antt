use Rattle.std.proofs.Common.{length, ap, ◌∙◌, rules, tests, arith}
use Rattle.nodetable.specs.Open.{open_in}
use Rattle.nodetable.proofs.Elements.{opened_below, length_opened}
use Rattle.session.proofs.outline.stand.Goals as goal

pub returns-in_default-clause-behind : goal.returns-in_default-clause-behind
returns-in_default-clause-behind c =
    let x = c.args.node.now in
    let left = c.pass.ensures.open ∙ opened_below x.kind x.id x.parent _ (open_in c.args.elements.now) c.requires in
    search (left, rules, tests)

pub returns-in_default-clause-within : goal.returns-in_default-clause-within
returns-in_default-clause-within c =
    let x = c.args.node.now in
    let es = open_in c.args.elements.now in
    omega (arith, ap length (c.pass.ensures.open ∙ opened_below x.kind x.id x.parent _ es c.requires), length_opened x.kind x.id x.parent es)
