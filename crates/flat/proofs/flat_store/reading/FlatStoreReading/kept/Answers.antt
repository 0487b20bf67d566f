use Rattle.std.proofs.Common.{arith}
use Rattle.flat.proofs.Holding.{R, X, fits, held}
use Rattle.flat.proofs.Answering.{size_is}
use Rattle.flat.proofs.flat_store.reading.FlatStoreReading.kept.Goals as goal

pub returns : goal.returns
returns c =
    let me = c.args.self.now in
    record { shape = (held me).kept; within = omega (arith, size_is (R me) (X me) me.used (fits me) (held me)) }
