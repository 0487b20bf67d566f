use Rattle.flat.proofs.OfKind.{element_ne}
use Rattle.flat.proofs.Holding.{R, X, fits, held, read_at}
use Rattle.flat.proofs.Seeking.{sought_row}
use Rattle.flat.proofs.Spotting.{unfit_parent}
use Rattle.flat.proofs.flat_store.FlatStore.spot.Goals as goal

pub returns-then-ne : goal.returns-then-ne
returns-then-ne c =
    let me = c.args.self.now in
    let w = sought_row me c.args.node.parent c.row_with.result c.in_ok-parent.parent c.in_ok-parent.ensures.value c.row_with.ensures in
    let here = read_at me c.in_ok-parent.parent c.index.result.now w.0 c.index.ensures in
    unfit_parent (R me) (X me) me.used (fits me) (held me) c.args.node c.in_ok-parent.parent w.0 w.1 c.args.left (element_ne here c.ne.ensures c.if-ne.true)
