use Rattle.std.proofs.Common.{◌≡◌, ap, take, Ok, ◌∙◌, arith}
use Rattle.store.specs.Listed.{child_row, last_where}
use Rattle.flat.specs.declared.rows.FlatRow.{FlatRow}
use Rattle.flat.specs.Means.{at, nodes}
use Rattle.flat.proofs.OfKind.{attribute_eq}
use Rattle.flat.proofs.Holding.{R, X, fits, held, read_at, used_long, used_at, used_nodes, used_laid, used_plain}
use Rattle.flat.proofs.Answering.{place_is, place_of_attribute, place_of_root}
use Rattle.flat.proofs.flat_store.reading.FlatStoreReading.place.Goals as goal
use Rattle.flat.proofs.flat_store.reading.FlatStoreReading.place.Goals.{then-row-eq0-via-then-row-eq0, then-row-eq0-via-else-row-eq0+then-eq}

pub returns-then-row-eq0 : goal.returns-then-row-eq0
returns-then-row-eq0 c =
    let me = c.args.self.now in
    let i = c.in_ok-row.row in
    let w = c.in_ok-row.ensures in
    let here = read_at me i c.index.result.now w.0 c.index.ensures in
    ap (λ (x : FlatRow). Ok (x.node.parent, 0)) here
    ∙ elim c.then-row-eq0.branch [
      | then-row-eq0-via-then-row-eq0 u ↦ rw w.1 at (place_of_root (R me) (X me) me.used (fits me) (held me) i w.0 u.if-row-eq0.true)
      | then-row-eq0-via-else-row-eq0+then-eq u ↦ rw w.1 at (place_of_attribute (R me) (X me) me.used (fits me) (held me) i w.0 (attribute_eq here u.eq.ensures u.if-eq.true))
    ]

pub left_of-requires : goal.left_of-requires
left_of-requires c =
    let me = c.args.self.now in
    let w = c.in_ok-row.ensures in
    record { within = (omega arith, rw (c.in_use.ensures, used_long me) w.0); laid = rw c.in_use.ensures (used_laid me); plain = rw c.in_use.ensures (used_plain me) }

pub returns : goal.returns
returns c =
    let me = c.args.self.now in
    let i = c.in_ok-row.row in
    let w = c.in_ok-row.ensures in
    let here = read_at me i c.index.result.now w.0 c.index.ensures in
    let e : c.left_of.result ≡ last_where (child_row (at (R me) i).node.parent) (take i (nodes (R me) me.used)) =
    rw (c.in_use.ensures, used_at me i w.0, used_nodes me) at c.left_of.ensures in
    ap (λ (x : FlatRow). Ok (x.node.parent, c.left_of.result)) here
    ∙ rw w.1 at (place_is (R me) (X me) me.used (fits me) (held me) i w.0 c.left_of.result (attribute_eq here c.eq.ensures c.if-eq.false) e)
