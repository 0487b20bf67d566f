use Rattle.std.proofs.Common.{◌+◌, List, vec_len, ap, ◌∙◌, arith}
use Rattle.std.proofs.lemmas.List.{with_items_is}
use Rattle.flat.specs.declared.rows.FlatRow.{FlatRow}
use Rattle.flat.specs.Means.{means}
use Rattle.flat.proofs.Holding.{R, X, fits, held}
use Rattle.flat.proofs.Putting.{room_left, spot_within, spot_order, behind_root, planted_stored, planted_means}
use Rattle.flat.proofs.flat_store.writing.FlatStoreWriting.put.Goals as goal

pub put_in-requires : goal.put_in-requires
put_in-requires c =
    let me = c.args.self.now in
    let g = c.in_ok-spot.spot in
    let w = c.in_ok-spot.ensures in
    let room = vec_len me.rows in
    let left = room_left (R me) (X me) me.used (fits me) (held me) room c.args.node c.args.left w.0 me.within in
    let inn = spot_within (R me) (X me) me.used (fits me) (held me) room c.args.node c.args.left g w.0 w.1 in
    let order = spot_order (R me) (X me) me.used (fits me) (held me) room c.args.node c.args.left g w.1 in
    record {
      within = (order, inn, omega arith);
      sizes = rw c.deref_mut.ensures.value (λ m b. omega (arith, ((held me).laid.sized m (omega arith)).1));
      distances = rw c.deref_mut.ensures.value (λ k a b. ((held me).laid.backward k (behind_root (R me) (X me) me.used (fits me) (held me) room c.args.node c.args.left g w.1 k a b) b).1);
    }

pub invariant_of-self : goal.invariant_of-self
invariant_of-self c =
    let me = c.args.self.now in
    let g = c.in_ok-spot.spot in
    let w = c.in_ok-spot.ensures in
    let room = vec_len me.rows in
    let S = c.put_in.new.rows in
    let Z = c.enlist.new.index in
    let T = rw c.deref_mut.ensures.value at c.put_in.ensures in
    let E = rw c.deref_mut-2.ensures.value at c.enlist.ensures in
    let left = room_left (R me) (X me) me.used (fits me) (held me) room c.args.node c.args.left w.0 me.within in
    let s = with_items_is me.rows S (omega arith) in
    let z = with_items_is me.index Z (omega arith) in
    let all = planted_stored (R me) (X me) me.used (fits me) (held me) room c.args.node c.args.left S Z g w.0 w.1 me.within T (omega arith) (omega arith) E in
    record { within = omega arith; level = omega arith; stored = ∣ rw (s, z) all ∣₁ }

pub returns-clause-leaves : goal.returns-clause-leaves
returns-clause-leaves c =
    let me = c.args.self.now in
    let g = c.in_ok-spot.spot in
    let w = c.in_ok-spot.ensures in
    let room = vec_len me.rows in
    let S = c.put_in.new.rows in
    let Z = c.enlist.new.index in
    let T = rw c.deref_mut.ensures.value at c.put_in.ensures in
    let left = room_left (R me) (X me) me.used (fits me) (held me) room c.args.node c.args.left w.0 me.within in
    let s = with_items_is me.rows S (omega arith) in
    ap (λ (l : List FlatRow). means l (me.used + 1)) s
    ∙ planted_means (R me) (X me) me.used (fits me) (held me) room c.args.node c.args.left S Z g w.0 w.1 me.within T (omega arith)
