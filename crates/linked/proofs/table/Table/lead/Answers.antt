use Rattle.std.proofs.Common.{rules, sym, subst}
use Rattle.std.proofs.lemmas.Bool.{cond-true, cond-false, eq-eqb, ne_eqb}
use Rattle.linked.specs.Rows.{with_first, with_next}
use Rattle.linked.specs.Tables.{shows}
use Rattle.linked.proofs.table.Table.lead.Goals as goal

pub returns-then-before-eq0-clause-shows : goal.returns-then-before-eq0-clause-shows
returns-then-before-eq0-clause-shows c n look s =
    subst (shows c.change.new.self n) (sym (cond-true _ _ _ (eq-eqb c.args.before 0 c.if-before-eq0.true))) (c.change.ensures.shows (with_first c.args.among c.args.to) (λ w r e. search rules) n look s)

pub returns-else-before-eq0-clause-shows : goal.returns-else-before-eq0-clause-shows
returns-else-before-eq0-clause-shows c n look s =
    subst (shows c.change-else-before-eq0.new.self n) (sym (cond-false _ _ _ (ne_eqb c.args.before 0 c.if-before-eq0.false)))
    (c.change-else-before-eq0.ensures.shows (with_next c.args.among c.args.to) (λ w r e. search rules) n look s)
