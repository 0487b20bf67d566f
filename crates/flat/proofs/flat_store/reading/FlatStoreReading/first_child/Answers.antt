use Rattle.std.proofs.Common.{◌≡◌, Ok, None, ap, ◌∙◌}
use Rattle.flat.specs.Walks.{child_at}
use Rattle.flat.proofs.Holding.{R, X, fits, held, used_child, used_behind}
use Rattle.flat.proofs.Answering.{first_child_is}
use Rattle.flat.proofs.flat_store.reading.FlatStoreReading.first_child.Goals as goal

pub returns : goal.returns
returns c =
    let me = c.args.self.now in
    let i = c.in_ok-row.row in
    let w = c.in_ok-row.ensures in
    let r = c.behind_attributes-place.result in
    let e : c.child_at.result ≡ child_at (R me) me.used r c.args.id =
    (rw c.in_use-rows.ensures at c.child_at.ensures) ∙ used_child me r c.args.id in
    ap Ok e
    ∙ rw w.1 at (first_child_is (R me) (X me) me.used (fits me) (held me) i w.0 r (used_behind me i r None w.0 (rw c.in_use-rows.ensures at c.behind_attributes-place.ensures)))
