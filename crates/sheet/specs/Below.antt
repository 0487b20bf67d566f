-- The rows below a node.
use Rattle.std.specs.Prelude.{ℕ, ◌+◌, Bool, cond, List, take, drop, slice_index_or}
use Rattle.records.specs.declared.nodes.Kind.TheVariants.{Element}
use Rattle.records.specs.declared.nodes.Node.{Node}
use Rattle.store.specs.Listed.{child_row, attribute_row, first_where, last_where}
use Rattle.sheet.specs.declared.scan.Below.{Below as Rows}
use Rattle.sheet.specs.declared.scan.Below.TheVariants.{Children, Attributes}

abbrev pub below_row : Rows → ℕ → Node → Bool
below_row Children p x = child_row p x
below_row Attributes p x = attribute_row p x

-- what stands past the end of a table
abbrev pub no_node : Node
no_node = record { id = 0; parent = 0; kind = Element; name = 0; value = 0 }

-- the next among the nodes below the same parent, for one of these
abbrev pub next_of : Rows → ℕ → List Node → Node → ℕ
next_of rows i xs x = cond (below_row rows x.parent x) (first_where (below_row rows x.parent) (drop (i + 1) xs)) 0

abbrev pub next_behind : Rows → ℕ → List Node → ℕ
next_behind rows i xs = next_of rows i xs (slice_index_or xs i no_node)

-- the last child before, for a child
abbrev pub left_before : ℕ → List Node → Node → ℕ
left_before i xs x = cond (child_row x.parent x) (last_where (child_row x.parent) (take i xs)) 0

abbrev pub left_of : ℕ → List Node → ℕ
left_of i xs = left_before i xs (slice_index_or xs i no_node)
