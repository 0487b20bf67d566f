use Rattle.std.proofs.Common.{sym, ap, ◌∙◌}
use Rattle.std.proofs.lemmas.Bool.{eq-eqb, ne_eqb}
use Rattle.faults.specs.declared.StoreFault.TheVariants.{Unsuited}
use Rattle.store.specs.Says.{take_says}
use Rattle.flat.specs.declared.rows.FlatRow.{FlatRow}
use Rattle.flat.specs.Means.{at}
use Rattle.flat.specs.Document.{document}
use Rattle.flat.proofs.Holding.{R, X, fits, held, read_at}
use Rattle.flat.proofs.Editing.{refused}
use Rattle.flat.proofs.Removing.{take_judged}
use Rattle.flat.proofs.flat_store.FlatStore.judge_take.Goals as goal

pub returns-then-index-ne1 : goal.returns-then-index-ne1
returns-then-index-ne1 c =
    let me = c.args.self.now in
    let i = c.in_ok-row.row in
    let w = c.in_ok-row.ensures in
    let here = ap (λ (x : FlatRow). x.size) (read_at me i c.index.result.now w.0 c.index.ensures) in
    refused me c.args.id (take_says (document me) c.args.id) Unsuited
    (sym (take_judged (R me) (X me) me.used (fits me) (held me) i w.0 c.args.id w.1 ∙ rw (ne_eqb (at (R me) i).size 1 (λ e. c.if-index-ne1.true (here ∙ e)))))

pub returns : goal.returns
returns c =
    let me = c.args.self.now in
    let i = c.in_ok-row.row in
    let w = c.in_ok-row.ensures in
    let here = ap (λ (x : FlatRow). x.size) (read_at me i c.index.result.now w.0 c.index.ensures) in
    (w.0, w.1, sym (take_judged (R me) (X me) me.used (fits me) (held me) i w.0 c.args.id w.1 ∙ rw (eq-eqb (at (R me) i).size 1 (sym here ∙ c.if-index-ne1.false))))
