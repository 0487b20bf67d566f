use Rattle.std.proofs.Common.{arith}
use Rattle.flat.proofs.Holding.{R, X, fits, held, read_at}
use Rattle.flat.proofs.Editing.{set_value_stored, set_value_means}
use Rattle.flat.proofs.flat_store.writing.FlatStoreWriting.set_value.Goals as goal

pub invariant_of-self : goal.invariant_of-self
invariant_of-self c =
    let me = c.args.self.now in
    let i = c.in_ok-row.row in
    let w = c.in_ok-row.ensures in
    let here = read_at me i c.index_mut.result.now w.0 c.index_mut.ensures.value in
    record { within = omega arith; level = omega arith; stored = ∣ set_value_stored (R me) (X me) me.used (fits me) (held me) i w.0 c.args.value c.index_mut.result.now here (rw w.1 w.2) ∣₁ }

pub returns-clause-leaves : goal.returns-clause-leaves
returns-clause-leaves c =
    let me = c.args.self.now in
    let i = c.in_ok-row.row in
    let w = c.in_ok-row.ensures in
    let here = read_at me i c.index_mut.result.now w.0 c.index_mut.ensures.value in
    rw w.1 at (set_value_means (R me) (X me) me.used (fits me) (held me) i w.0 c.args.value c.index_mut.result.now here (rw w.1 w.2))
