use Rattle.std.proofs.Common.{◌≡◌, ℕ, ◌+◌, ◌<◌, List, length, get_or, set, vec_items, Some, None, Option, sym, ap, ◌∙◌, arith, length-set}
use Rattle.std.specs.Vec.{with_items}
use Rattle.std.proofs.lemmas.List.{get_or_default, with_items_is}
use Rattle.ordered.specs.declared.entries.RowOf.{RowOf}
use Rattle.ordered.specs.Table.{Ascending, Placed, Inserted, InOrder}
use Rattle.ordered.specs.Entries.{by_identifier}
use Rattle.linked.proofs.Moving.{raised, stood_up, still_inside, entered}
use Rattle.linked.proofs.table.Table.enter.Goals as goal

-- the insertion finds room
placed : (xs ys : List RowOf) (n : ℕ) (x : RowOf) (o : Option ℕ) → n < length xs → Inserted xs n x o ys → InOrder by_identifier xs n x o ys
    → (at : ℕ) × Placed xs at n x ys × (Ascending by_identifier n xs → Ascending by_identifier (n + 1) ys)
placed xs ys n x None room i o = absurd (omega (arith, i.0))
placed xs ys n x (Some at) room i o = (at, i.1, λ up. (o up).1)

module _ (c : goal.After-self-2-1) where
  new_index : vec_items (with_items c.args.self.now.index c.insert.new.table) ≡ c.insert.new.table
  new_index = with_items_is c.args.self.now.index c.insert.new.table (c.insert.auto.table ∙ c.deref_mut.ensures.len)

  room : c.args.self.now.used < length (vec_items c.args.self.now.index)
  room = omega (arith, c.if-self-len.false, c.len.ensures, c.args.self.now.index.ok.0)

  free : (e : RowOf) → (get_or (vec_items c.args.self.now.index) c.args.self.now.used e).row ≡ c.index.result.now.row
  free e = ap (λ (y : RowOf). y.row) (get_or_default (vec_items c.args.self.now.index) c.args.self.now.used e c.index.result.now room ∙ sym c.index.ensures)

  put : (at : ℕ) × Placed (vec_items c.args.self.now.index) at c.args.self.now.used (record { id = c.args.row.node.id; row = c.index.result.now.row }) c.insert.new.table
      × (Ascending by_identifier c.args.self.now.used (vec_items c.args.self.now.index) → Ascending by_identifier (c.args.self.now.used + 1) c.insert.new.table)
  put = placed (vec_items c.args.self.now.index) c.insert.new.table c.args.self.now.used (record { id = c.args.row.node.id; row = c.index.result.now.row }) c.insert.result room
      (rw c.deref_mut.ensures.value at c.insert.ensures.moves) (rw c.deref_mut.ensures.value at c.insert.ensures.order)

  index_kept : (k : ℕ) (e : RowOf) → k < length c.insert.new.table → (get_or c.insert.new.table k e).row < length (set (vec_items c.args.self.now.rows) c.index.result.now.row c.args.row)
  index_kept k e h =
      let xs = vec_items c.args.self.now.index in
      let n = c.args.self.now.used in
      let p = put.1 in
      let l = p.long in
      rw (length-set (vec_items c.args.self.now.rows) c.index.result.now.row c.args.row)
      (still_inside (raised put.0 n) xs c.insert.new.table _ (stood_up xs c.insert.new.table put.0 n _ p free room) c.args.self.now.inside k e (omega arith))

pub invariant_of-self : goal.invariant_of-self
invariant_of-self c =
    let l = (put c).1.long in
    let w = room c in
    record { within = rw (new_index c) (omega arith); ascending = rw (new_index c) ((put c).2 c.args.self.now.ascending); inside = rw (new_index c) (index_kept c) }

pub returns-clause-shows : goal.returns-clause-shows
returns-clause-shows c n look s new space =
    let me = c.args.self.now in
    let p = put c.before in
    (ap (λ (k : ℕ). k + 1) s.0, rw (new_index c.before) (entered (vec_items me.index) c.insert.new.table (vec_items me.rows) me.used p.0 c.args.row c.index.result.now.row look s.1 new (room c.before) p.1 (free c.before) (p.2 s.1.ascending)))
