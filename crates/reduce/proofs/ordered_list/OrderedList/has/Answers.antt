use Rattle.std.proofs.Common.{is_some, ap, ◌∙◌}
use Rattle.reduce.proofs.Scanning.{has_found}
use Rattle.reduce.proofs.ordered_list.OrderedList.has.Goals as goal

pub returns : goal.returns
returns c = c.is_some.ensures ∙ (ap is_some c.first.ensures ∙ has_found c.args.target c.args.code c.args.self.now.operations.now c.args.self.now.nodes.now)
