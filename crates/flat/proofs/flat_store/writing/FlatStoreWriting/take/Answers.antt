use Rattle.std.proofs.Common.{◌-◌, List, ap, ◌∙◌, arith}
use Rattle.std.proofs.lemmas.List.{with_items_is}
use Rattle.flat.specs.declared.rows.FlatRow.{FlatRow}
use Rattle.flat.specs.Means.{means}
use Rattle.flat.proofs.Holding.{R, X, fits, index_fits, held}
use Rattle.flat.proofs.Removing.{taken_stored, taken_means}
use Rattle.flat.proofs.flat_store.writing.FlatStoreWriting.take.Goals as goal

pub take_out-requires-clause-distances : goal.take_out-requires-clause-distances
take_out-requires-clause-distances c = rw c.deref_mut.ensures.value (held c.args.self.now).laid.backward

pub invariant_of-self : goal.invariant_of-self
invariant_of-self c =
    let me = c.args.self.now in
    let i = c.in_ok-row.row in
    let w = c.in_ok-row.ensures in
    let S = c.take_out.new.rows in
    let Z = c.unlist.new.index in
    let T = rw c.deref_mut.ensures.value at c.take_out.ensures in
    let U = rw c.deref_mut-2.ensures.value at c.unlist.ensures in
    let s = with_items_is me.rows S (omega arith) in
    let z = with_items_is me.index Z (omega arith) in
    let all = taken_stored (R me) (X me) me.used (fits me) (held me) i w.0 S Z (rw w.1 w.2) T (index_fits me) U in
    record { within = omega arith; level = omega arith; stored = ∣ rw (s, z) all ∣₁ }

pub returns-clause-leaves : goal.returns-clause-leaves
returns-clause-leaves c =
    let me = c.args.self.now in
    let i = c.in_ok-row.row in
    let w = c.in_ok-row.ensures in
    let S = c.take_out.new.rows in
    let T = rw c.deref_mut.ensures.value at c.take_out.ensures in
    let s = with_items_is me.rows S (omega arith) in
    ap (λ (l : List FlatRow). means l (me.used - 1)) s
    ∙ rw w.1 at (taken_means (R me) (X me) me.used (fits me) (held me) i w.0 S c.unlist.new.index (rw w.1 w.2) T)
