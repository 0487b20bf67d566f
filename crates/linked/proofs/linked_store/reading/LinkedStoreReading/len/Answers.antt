use Rattle.std.proofs.Common.{arith}
use Rattle.linked.proofs.Holding.{is_counted}
use Rattle.linked.proofs.linked_store.reading.LinkedStoreReading.len.Goals as goal

pub returns : goal.returns
returns c = omega (arith, is_counted c.args.self.now)
