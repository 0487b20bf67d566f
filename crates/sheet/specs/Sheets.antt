-- Tables that list what a store may hold, within the room of a sheet.
use Rattle.std.specs.Prelude.{◌≡◌, ℕ, ◌<◌, ◌≤◌, List, length, Some, None, Ok, Err, Result, slice_index_or}
use Rattle.records.specs.declared.nodes.Node.{Node}
use Rattle.faults.specs.declared.DocumentFault.{DocumentFault}
use Rattle.faults.specs.declared.StoreFault.{StoreFault}
use Rattle.faults.specs.declared.StoreFault.TheVariants.{Absent}
use Rattle.document.specs.Tree.{Forest, nil, size}
use Rattle.document.specs.Listing.{listing}
use Rattle.document.specs.Table.{document_of}
use Rattle.store.specs.Kept.{Kept}
use Rattle.store.specs.Listed.{first_where}
use Rattle.store.specs.Views.{View, view}
use Rattle.sheet.specs.declared.scan.Below.TheVariants.{Children, Attributes}
use Rattle.sheet.specs.Below.{no_node, below_row, next_behind, left_of}

pub record Lists (xs : List Node) : Type 0 where
  pub kept : Kept (document_of xs)
  pub listed : listing (document_of xs) ≡ xs
  pub within : size (document_of xs) ≤ 1000

-- the document of a table that passed, nothing of one that was refused
abbrev pub document_if : Result (Unit {0}) DocumentFault → List Node → Forest
document_if (Ok u) xs = document_of xs
document_if (Err e) xs = nil

-- the node t in row i, as the table shows it
abbrev pub view_at : List Node → ℕ → ℕ → View
view_at xs t i =
    record {
      row = slice_index_or xs i no_node;
      left = left_of i xs;
      first_child = first_where (below_row Children t) xs;
      next_sibling = next_behind Children i xs;
      first_attribute = first_where (below_row Attributes t) xs;
      next_attribute = next_behind Attributes i xs;
    }

-- the row of the node t, where there is one
abbrev pub Found : List Node → ℕ → Result ℕ StoreFault → Type 0
Found xs t (Ok i) = (i < length xs) × (view (document_of xs) t ≡ Some (view_at xs t i))
Found xs t (Err e) = (e ≡ Absent) × (view (document_of xs) t ≡ None)
