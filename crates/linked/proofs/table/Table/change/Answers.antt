use Rattle.std.proofs.Common.{ap, ◌∙◌}
use Rattle.linked.proofs.Finding.{none_shown, row_changed, none_changed}
use Rattle.linked.proofs.table.Table.change.Goals as goal

pub returns-in-Some-clause-shows : goal.returns-in-Some-clause-shows
returns-in-Some-clause-shows t c g computes n look s =
    (s.0, row_changed _ _ _ look s.1 c.args.id c.in-Some.at c.in-Some.ensures.1 g c.f.result c.index.result.now (computes _ _ c.f.ensures ∙ ap g c.index.ensures))

pub returns-clause-shows : goal.returns-clause-shows
returns-clause-shows t c g computes n look s = (s.0, none_changed _ _ _ look s.1 c.args.id g (none_shown _ _ _ look s.1 c.args.id c.in_default.ensures))
