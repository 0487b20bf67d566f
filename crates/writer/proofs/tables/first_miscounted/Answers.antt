use Rattle.std.proofs.Common.{◌∙◌}
use Rattle.writer.proofs.Formed.{counted_as}
use Rattle.writer.proofs.tables.first_miscounted.Goals as goal

pub returns : goal.returns
returns c = c.scan_counts.ensures ∙ counted_as 0 c.args.operations.now c.args.nodes.now
