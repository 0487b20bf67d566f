use Rattle.std.proofs.Common.{arith}
use Rattle.linked.proofs.Holding.{is_kept, is_counted, fits}
use Rattle.linked.proofs.linked_store.reading.LinkedStoreReading.kept.Goals as goal

pub returns : goal.returns
returns c = record { shape = is_kept c.args.self.now; within = omega (arith, is_counted c.args.self.now, fits c.args.self.now) }
