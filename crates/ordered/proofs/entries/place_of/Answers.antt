use Rattle.std.proofs.Common.{ap, ◌∙◌, arith}
use Rattle.std.proofs.lemmas.List.{get_or_read}
use Rattle.ordered.specs.declared.entries.RowOf.{RowOf}
use Rattle.ordered.proofs.Lookups.{none_behind}
use Rattle.ordered.proofs.entries.place_of.Goals as goal

pub returns-in_default-clause-place : goal.returns-in_default-clause-place
returns-in_default-clause-place c w up =
    let read = get_or_read c.args.table.now c.find-at.result c.in-Some.entry.now (omega arith) c.in-Some.ensures.lookup.1 in
    none_behind c.args.table.now c.args.used c.args.id c.find-at.result up (c.find-at.ensures.place w up)
    (λ d e. c.if-entry-id.false (ap (λ (x : RowOf). x.id) (read d) ∙ e))
