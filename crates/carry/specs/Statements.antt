-- What putting rows in leads to.
use Rattle.std.specs.Prelude.{◌≡◌, ℕ, List, [], Ok}
use Rattle.records.specs.declared.nodes.Node.{Node}
use Rattle.document.specs.Tree.{nil}
use Rattle.document.specs.Table.{table_test, document_of}
use Rattle.carry.specs.Planting.{plant_says, plant_leaves}

-- the rows of a table that lists a document that fits the room lead from nothing to that document, and no put is refused
abbrev pub LoadingLeadsToTheDocument : Type 0
LoadingLeadsToTheDocument = (room : ℕ) (xs : List Node) → table_test room xs ≡ Ok tt
    → (plant_says room 0 0 [] xs nil ≡ Ok tt) × (plant_leaves room 0 0 [] xs nil ≡ document_of xs)
