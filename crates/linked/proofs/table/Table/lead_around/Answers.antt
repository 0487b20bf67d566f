use Rattle.std.proofs.Common.{rules}
use Rattle.linked.specs.Rows.{with_left}
use Rattle.linked.proofs.table.Table.lead_around.Goals as goal

pub returns-clause-shows : goal.returns-clause-shows
returns-clause-shows c n look s = c.change.ensures.shows (with_left c.args.left) (λ w r e. search rules) n _ (c.lead.ensures.shows n look s)
