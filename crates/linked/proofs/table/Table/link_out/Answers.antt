use Rattle.std.proofs.Common.{ℕ, ◌-◌, subst}
use Rattle.linked.specs.Tables.{shows, led_around, without_row}
use Rattle.linked.proofs.Finding.{some_around}
use Rattle.linked.proofs.table.Table.link_out.Goals as goal

pub returns-clause-shows : goal.returns-clause-shows
returns-clause-shows c n look s there =
    let w = c.args.row in
    let x = some_around c.args.among w.node.parent c.args.before c.next_among.result w.next_sibling w.left look w.node.id w there in
    let z = c.leave.ensures.shows n _ x.0 (c.lead_around.ensures.shows n look s) x.1 in
    subst (λ (t : ℕ). shows c.leave.new.self (n - 1) (without_row w.node.id (led_around c.args.among c.args.before w t w.left look))) c.next_among.ensures z
