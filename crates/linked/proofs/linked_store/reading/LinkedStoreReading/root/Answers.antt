use Rattle.linked.proofs.Holding.{is_rooted}
use Rattle.linked.proofs.linked_store.reading.LinkedStoreReading.root.Goals as goal

pub returns : goal.returns
returns c = is_rooted c.args.self.now
