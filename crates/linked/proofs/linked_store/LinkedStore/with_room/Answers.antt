use Rattle.std.proofs.Common.{None, refl, arith}
use Rattle.document.specs.Tree.{nil}
use Rattle.linked.specs.declared.table.Table.{Table}
use Rattle.linked.specs.Stores.{Holds}
use Rattle.linked.specs.Tables.{shows}
use Rattle.linked.proofs.Holding.{stands_for, what_holds}
use Rattle.linked.proofs.linked_store.LinkedStore.with_room.Goals as goal

-- a table that shows nothing
empty : (t : Table) → shows t 0 (λ k. None) → Holds t 0 nil
empty t s = what_holds t 0 nil (record { root = tt; shaped = tt; distinct = λ i. omega arith }) refl s

pub returns : goal.returns
returns c = let t = c.in_ok-table.ensures in (stands_for c.in_ok-table.table _ _ nil ∣ empty c.in_ok-table.table t.1 ∣₁, t.0)
