use Rattle.std.proofs.Common.{Ok, ap, ◌∙◌}
use Rattle.flat.specs.declared.rows.FlatRow.{FlatRow}
use Rattle.flat.proofs.Holding.{R, X, fits, held, read_at}
use Rattle.flat.proofs.Answering.{record_is}
use Rattle.flat.proofs.flat_store.reading.FlatStoreReading.node.Goals as goal

pub returns : goal.returns
returns c =
    let me = c.args.self.now in
    let w = c.in_ok-row.ensures in
    let here = read_at me c.in_ok-row.row c.index.result.now w.0 c.index.ensures in
    ap (λ (x : FlatRow). Ok x.node) here ∙ rw w.1 at (record_is (R me) (X me) me.used (fits me) (held me) c.in_ok-row.row w.0)
