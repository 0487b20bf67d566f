use Rattle.std.proofs.Common.{◌≡◌, ◌+◌, Ok, ap, ◌∙◌}
use Rattle.flat.specs.Walks.{attribute_at}
use Rattle.flat.proofs.Holding.{R, X, fits, held, used_attribute}
use Rattle.flat.proofs.Answering.{first_attribute_is}
use Rattle.flat.proofs.flat_store.reading.FlatStoreReading.first_attribute.Goals as goal

pub returns : goal.returns
returns c =
    let me = c.args.self.now in
    let i = c.in_ok-row.row in
    let w = c.in_ok-row.ensures in
    let e : c.attribute_at.result ≡ attribute_at (R me) me.used (i + 1) c.args.id =
    (rw c.in_use.ensures at c.attribute_at.ensures) ∙ used_attribute me (i + 1) c.args.id in
    ap Ok e ∙ rw w.1 at (first_attribute_is (R me) (X me) me.used (fits me) (held me) i w.0)
