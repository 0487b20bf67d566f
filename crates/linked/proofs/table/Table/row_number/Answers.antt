use Rattle.std.proofs.Common.{ℕ, length, vec_items, Some, None, Option}
use Rattle.ordered.specs.Entries.{LookedUp}
use Rattle.linked.specs.declared.table.Table.{Table}
use Rattle.linked.specs.Tables.{RowFound}
use Rattle.linked.proofs.Finding.{found_inside}
use Rattle.linked.proofs.table.Table.row_number.Goals as goal

found : (t : Table) (id : ℕ) (o : Option ℕ) → LookedUp (vec_items t.index) t.used id o → RowFound t id o
found t id None h = h
found t id (Some r) h = (found_inside (vec_items t.index) t.used (length (vec_items t.rows)) t.within t.inside id r h, h)

pub returns : goal.returns
returns c = found c.args.self.now c.args.id c.row_of.result ((rw c.deref.ensures.value at c.row_of.ensures) c.args.self.now.within c.args.self.now.ascending)
