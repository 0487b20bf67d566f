use Rattle.std.proofs.Common.{vec_items, sym, ◌∙◌, arith}
use Rattle.flat.proofs.Beginning.{empty_means, empty_stored}
use Rattle.flat.proofs.flat_store.FlatStore.with_room.Goals as goal

pub invariant_of-result : goal.invariant_of-result
invariant_of-result c =
    let a = c.in_ok-rows.ensures.len in
    let b = c.in_ok-index.ensures.len in
    record { within = omega arith; level = b ∙ sym a; stored = ∣ empty_stored (vec_items c.in_ok-rows.rows) (vec_items c.in_ok-index.index) ∣₁ }

pub returns : goal.returns
returns c = (empty_means (vec_items c.in_ok-rows.rows), c.in_ok-rows.ensures.len)
