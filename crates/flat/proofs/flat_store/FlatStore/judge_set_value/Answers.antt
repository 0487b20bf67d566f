use Rattle.std.proofs.Common.{sym, ◌∙◌}
use Rattle.faults.specs.declared.StoreFault.TheVariants.{Unsuited}
use Rattle.store.specs.Says.{set_value_says}
use Rattle.flat.specs.Document.{document}
use Rattle.flat.proofs.OfKind.{element_eq}
use Rattle.flat.proofs.Holding.{R, X, fits, held, read_at}
use Rattle.flat.proofs.Editing.{refused, set_value_judged}
use Rattle.flat.proofs.flat_store.FlatStore.judge_set_value.Goals as goal

pub returns-then-eq : goal.returns-then-eq
returns-then-eq c =
    let me = c.args.self.now in
    let i = c.in_ok-row.row in
    let w = c.in_ok-row.ensures in
    let kind = element_eq (read_at me i c.index.result.now w.0 c.index.ensures) c.eq.ensures c.if-eq.true in
    refused me c.args.id (set_value_says (document me) c.args.id) Unsuited (sym (set_value_judged (R me) (X me) me.used (fits me) (held me) i w.0 c.args.id w.1 ∙ rw kind))

pub returns : goal.returns
returns c =
    let me = c.args.self.now in
    let i = c.in_ok-row.row in
    let w = c.in_ok-row.ensures in
    let kind = element_eq (read_at me i c.index.result.now w.0 c.index.ensures) c.eq.ensures c.if-eq.false in
    (w.0, w.1, sym (set_value_judged (R me) (X me) me.used (fits me) (held me) i w.0 c.args.id w.1 ∙ rw kind))
