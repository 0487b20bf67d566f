use Rattle.std.proofs.Common.{Some, sym, ap, ◌∙◌}
use Rattle.linked.proofs.Finding.{none_shown, row_shown}
use Rattle.linked.proofs.table.Table.row.Goals as goal

pub returns-in_err-at : goal.returns-in_err-at
returns-in_err-at c n look s = c.from_residual.ensures ∙ sym (none_shown _ _ _ look s.1 c.args.id c.in_err-at.ensures)

pub returns : goal.returns
returns c n look s = ap Some c.index.ensures ∙ sym (row_shown _ _ _ look s.1 c.args.id c.in_ok-at.at _ c.in_ok-at.ensures.1)
