use Rattle.std.proofs.Common.{arith}
use Rattle.linked.proofs.Finding.{none_around}
use Rattle.linked.proofs.table.Table.link_in.Goals as goal

pub returns-clause-shows : goal.returns-clause-shows
returns-clause-shows c n look s new room =
    let w = c.args.row in
    c.enter.ensures.shows n _ (c.lead_around.ensures.shows n look s) (none_around c.args.among w.node.parent c.args.before w.node.id w.next_sibling w.node.id look w.node.id new) (omega arith)
