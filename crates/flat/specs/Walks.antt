-- What is read off the rows around a node's row.
use Rattle.std.specs.Prelude.{◌≡◌, ℕ, ◌<◌, ◌≤◌, Bool, true, false, cond, ◌&&◌, List, take, Some, None, Err, Option, nat_le, nat_lt}
use Rattle.records.specs.declared.nodes.Node.{Node}
use Rattle.document.specs.Tree.{Forest}
use Rattle.faults.specs.declared.StoreFault.TheVariants.{Absent}
use Rattle.store.specs.Views.{view, record_says, first_child_says, next_sibling_says, first_attribute_says, next_attribute_says, place_says}
use Rattle.store.specs.Listed.{child_row, attribute_row, last_where}
use Rattle.flat.specs.declared.rows.FlatRow.{FlatRow}
use Rattle.flat.specs.Means.{at, up, nodes}

-- the identifier of the row at a place if it is a child, or an attribute, of p; else 0
abbrev pub child_at : List FlatRow → ℕ → ℕ → ℕ → ℕ
child_at rows used place p = cond (nat_lt place used && child_row p (at rows place).node) (at rows place).node.id 0

abbrev pub attribute_at : List FlatRow → ℕ → ℕ → ℕ → ℕ
attribute_at rows used place p = cond (nat_lt place used && attribute_row p (at rows place).node) (at rows place).node.id 0

-- an attribute of p, and one up to a bound where there is one
abbrev pub up_to : Option ℕ → ℕ → Bool
up_to None id = true
up_to (Some last) id = nat_le id last

abbrev pub passes : ℕ → Option ℕ → Node → Bool
passes p bound x = attribute_row p x && up_to bound x.id

-- r is the first place behind place whose row is no attribute of p up to the bound
pub record Behind (rows : List FlatRow) (used place p : ℕ) (bound : Option ℕ) (r : ℕ) : Type 0 where
  pub after : place < r
  pub within : r ≤ used
  pub run : (k : ℕ) → place < k → k < r → passes p bound (at rows k).node ≡ true
  pub stop : r < used → passes p bound (at rows r).node ≡ false

-- the walk over the rows below a row's parent, up to that row: c is such a row, and left the last child of the parent before c
pub record Walked (rows : List FlatRow) (used place c left : ℕ) : Type 0 where
  pub after : up rows place < c
  pub until : c ≤ place
  pub below : up rows c ≡ up rows place
  pub last : left ≡ last_where (child_row (at rows place).node.parent) (take c (nodes rows used))

-- every question about the node t is refused
pub record Unknown (d : Forest) (t : ℕ) : Type 0 where
  pub seen : view d t ≡ None
  pub row : record_says d t ≡ Err Absent
  pub first_child : first_child_says d t ≡ Err Absent
  pub next_sibling : next_sibling_says d t ≡ Err Absent
  pub first_attribute : first_attribute_says d t ≡ Err Absent
  pub next_attribute : next_attribute_says d t ≡ Err Absent
  pub place : place_says d t ≡ Err Absent
