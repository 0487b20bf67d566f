use Rattle.std.proofs.Common.{sym, ◌∙◌}
use Rattle.flat.proofs.Holding.{R, X, fits, held, used_long}
use Rattle.flat.proofs.Answering.{size_is}
use Rattle.flat.proofs.flat_store.reading.FlatStoreReading.len.Goals as goal

pub returns : goal.returns
returns c =
    let me = c.args.self.now in
    rw c.in_use.ensures (used_long me) ∙ sym (size_is (R me) (X me) me.used (fits me) (held me))
