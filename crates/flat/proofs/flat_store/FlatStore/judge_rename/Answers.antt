use Rattle.std.proofs.Common.{sym, ◌∙◌}
use Rattle.std.proofs.lemmas.Bool.{eq-eqb, ne_eqb}
use Rattle.faults.specs.declared.StoreFault.TheVariants.{Misformed, Unsuited}
use Rattle.store.specs.Says.{rename_says}
use Rattle.flat.specs.Document.{document}
use Rattle.flat.proofs.OfKind.{text_eq}
use Rattle.flat.proofs.Holding.{R, X, fits, held, read_at}
use Rattle.flat.proofs.Editing.{refused, rename_judged}
use Rattle.flat.proofs.flat_store.FlatStore.judge_rename.Goals as goal

pub returns-then-eq : goal.returns-then-eq
returns-then-eq c =
    let me = c.args.self.now in
    let i = c.in_ok-row.row in
    let w = c.in_ok-row.ensures in
    let kind = text_eq (read_at me i c.index.result.now w.0 c.index.ensures) c.eq.ensures c.if-eq.true in
    refused me c.args.id (rename_says (document me) c.args.id c.args.name) Unsuited
    (sym (rename_judged (R me) (X me) me.used (fits me) (held me) i w.0 c.args.id c.args.name w.1 ∙ rw kind))

pub returns-then-name-eq0 : goal.returns-then-name-eq0
returns-then-name-eq0 c =
    let me = c.args.self.now in
    let i = c.in_ok-row.row in
    let w = c.in_ok-row.ensures in
    let kind = text_eq (read_at me i c.index.result.now w.0 c.index.ensures) c.eq.ensures c.if-eq.false in
    refused me c.args.id (rename_says (document me) c.args.id c.args.name) Misformed
    (sym (rename_judged (R me) (X me) me.used (fits me) (held me) i w.0 c.args.id c.args.name w.1 ∙ rw (kind, eq-eqb c.args.name 0 c.if-name-eq0.true)))

pub returns : goal.returns
returns c =
    let me = c.args.self.now in
    let i = c.in_ok-row.row in
    let w = c.in_ok-row.ensures in
    let kind = text_eq (read_at me i c.index.result.now w.0 c.index.ensures) c.eq.ensures c.if-eq.false in
    (w.0, w.1, sym (rename_judged (R me) (X me) me.used (fits me) (held me) i w.0 c.args.id c.args.name w.1 ∙ rw (kind, ne_eqb c.args.name 0 c.if-name-eq0.false)))
