use Rattle.std.proofs.Common.{◌≡◌, ◌+◌, Ok, ap, ◌∙◌, arith}
use Rattle.flat.specs.declared.rows.FlatRow.{FlatRow}
use Rattle.flat.specs.Means.{at}
use Rattle.flat.specs.Walks.{child_at}
use Rattle.flat.proofs.OfKind.{attribute_eq}
use Rattle.flat.proofs.Holding.{R, X, fits, held, read_at, used_child}
use Rattle.flat.proofs.Answering.{next_sibling_is, no_sibling}
use Rattle.flat.proofs.flat_store.reading.FlatStoreReading.next_sibling.Goals as goal

pub returns-then-eq : goal.returns-then-eq
returns-then-eq c =
    let me = c.args.self.now in
    let i = c.in_ok-row.row in
    let w = c.in_ok-row.ensures in
    let here = read_at me i c.index.result.now w.0 c.index.ensures in
    rw w.1 at (no_sibling (R me) (X me) me.used (fits me) (held me) i w.0 (attribute_eq here c.eq.ensures c.if-eq.true))

pub overflow_add-row : goal.overflow_add-row
overflow_add-row c =
    let me = c.args.self.now in
    let w = c.in_ok-row.ensures in
    let here = read_at me c.in_ok-row.row c.index.result.now w.0 c.index.ensures in
    let s = ((held me).laid.sized c.in_ok-row.row w.0).1 in
    let e = ap (λ (x : FlatRow). x.size) here in
    omega arith

pub returns : goal.returns
returns c =
    let me = c.args.self.now in
    let i = c.in_ok-row.row in
    let w = c.in_ok-row.ensures in
    let here = read_at me i c.index.result.now w.0 c.index.ensures in
    let r = at (R me) i in
    let e : c.child_at.result ≡ child_at (R me) me.used (i + r.size) r.node.parent =
    (rw (c.in_use.ensures, here) at c.child_at.ensures) ∙ used_child me (i + r.size) r.node.parent in
    ap Ok e ∙ rw w.1 at (next_sibling_is (R me) (X me) me.used (fits me) (held me) i w.0 (attribute_eq here c.eq.ensures c.if-eq.false))
