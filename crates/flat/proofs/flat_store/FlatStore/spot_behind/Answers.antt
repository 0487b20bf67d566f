use Rattle.std.proofs.Common.{◌+◌, ap, ◌∙◌, sym, subst, arith}
use Rattle.std.proofs.lemmas.Bool.{both_ways}
use Rattle.document.specs.Table.{is_attribute}
use Rattle.flat.specs.declared.rows.FlatRow.{FlatRow}
use Rattle.flat.specs.Means.{at}
use Rattle.flat.specs.Spots.{Suited}
use Rattle.flat.proofs.OfKind.{attribute_ne}
use Rattle.flat.proofs.Holding.{R, X, fits, held, read_at}
use Rattle.flat.proofs.Seeking.{sought_row}
use Rattle.flat.proofs.Spotting.{behind_suited, unfit_behind}
use Rattle.flat.proofs.flat_store.FlatStore.spot_behind.Goals as goal
use Rattle.flat.proofs.flat_store.FlatStore.spot_behind.Goals.{else-here-node-via-then-here-node+else-ne, else-here-node-via-else-here-node}

pub overflow_add-result : goal.overflow_add-result
overflow_add-result c =
    let me = c.args.self.now in
    let w = sought_row me c.args.left c.row_with.result c.in_ok-row.row c.in_ok-row.ensures.value c.row_with.ensures in
    let here = ap (λ (x : FlatRow). x.size) (read_at me c.in_ok-row.row c.index.result.now w.0 c.index.ensures) in
    let s = ((held me).laid.sized c.in_ok-row.row w.0).1 in
    omega arith

pub returns-then-ne : goal.returns-then-ne
returns-then-ne c =
    let me = c.args.self.now in
    let j = c.in_ok-row.row in
    let w = sought_row me c.args.left c.row_with.result c.in_ok-row.row c.in_ok-row.ensures.value c.row_with.ensures in
    let here = read_at me j c.index.result.now w.0 c.index.ensures in
    let g = behind_suited (R me) (X me) me.used (fits me) (held me) c.args.node c.args.parent c.requires.element.0 c.requires.element.1 c.requires.element.2 c.args.left j w.0 w.1 c.requires.child.0 c.requires.child.1
    (ap (λ (x : FlatRow). x.node.parent) (sym here) ∙ c.if-here-node.true) (attribute_ne here c.ne.ensures c.if-ne.true) in
    subst (λ (r : FlatRow). Suited (R me) me.used c.args.node c.args.left (record { parent = c.args.parent; place = j + r.size })) (sym here) g

pub returns-else-here-node : goal.returns-else-here-node
returns-else-here-node c =
    let me = c.args.self.now in
    let j = c.in_ok-row.row in
    let w = sought_row me c.args.left c.row_with.result c.in_ok-row.row c.in_ok-row.ensures.value c.row_with.ensures in
    let here = read_at me j c.index.result.now w.0 c.index.ensures in
    let not_so = unfit_behind (R me) (X me) me.used (fits me) (held me) c.args.node c.args.parent c.requires.element.0 c.requires.element.1 c.requires.element.2 c.args.left j w.0 w.1 c.requires.child.0 c.requires.child.1 in
    elim c.else-here-node.branch [
      | else-here-node-via-then-here-node+else-ne u ↦ not_so (λ e f. both_ways (is_attribute (at (R me) j).node.kind) f (attribute_ne here u.ne.ensures u.if-ne.false))
      | else-here-node-via-else-here-node u ↦ not_so (λ e f. u.if-here-node.false (ap (λ (x : FlatRow). x.node.parent) here ∙ e))
    ]
