use Rattle.flat.proofs.Seeking.{sought}
use Rattle.flat.proofs.flat_store.FlatStore.row_with.Goals as goal

pub returns : goal.returns
returns c = rw c.ok_or.ensures.value (sought c.args.self.now c.args.id c.row_of.result (rw c.deref.ensures.value at c.row_of.ensures))
