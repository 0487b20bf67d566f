use Rattle.std.proofs.Common.{◌≡◌, ◌+◌, Ok, ap, ◌∙◌}
use Rattle.flat.specs.Means.{at}
use Rattle.flat.specs.Walks.{attribute_at}
use Rattle.flat.proofs.OfKind.{attribute_ne}
use Rattle.flat.proofs.Holding.{R, X, fits, held, read_at, used_attribute}
use Rattle.flat.proofs.Answering.{next_attribute_is, no_next_attribute}
use Rattle.flat.proofs.flat_store.reading.FlatStoreReading.next_attribute.Goals as goal

pub returns-then-ne : goal.returns-then-ne
returns-then-ne c =
    let me = c.args.self.now in
    let i = c.in_ok-row.row in
    let w = c.in_ok-row.ensures in
    let here = read_at me i c.index.result.now w.0 c.index.ensures in
    rw w.1 at (no_next_attribute (R me) (X me) me.used (fits me) (held me) i w.0 (attribute_ne here c.ne.ensures c.if-ne.true))

pub returns : goal.returns
returns c =
    let me = c.args.self.now in
    let i = c.in_ok-row.row in
    let w = c.in_ok-row.ensures in
    let here = read_at me i c.index.result.now w.0 c.index.ensures in
    let p = (at (R me) i).node.parent in
    let e : c.attribute_at.result ≡ attribute_at (R me) me.used (i + 1) p =
    (rw (c.in_use.ensures, here) at c.attribute_at.ensures) ∙ used_attribute me (i + 1) p in
    ap Ok e ∙ rw w.1 at (next_attribute_is (R me) (X me) me.used (fits me) (held me) i w.0 (attribute_ne here c.ne.ensures c.if-ne.false))
