-- The records that are still to be listed.
use Rattle.std.specs.Prelude.{◌≡◌, ℕ, List, ◌++◌}
use Rattle.records.specs.declared.nodes.Node.{Node}
use Rattle.document.specs.Tree.{Forest}
use Rattle.document.specs.Listing.{attribute_rows, rows}
use Rattle.store.specs.Links.{link_of}
use Rattle.store.specs.Views.{first_label, view}
use Rattle.walk.specs.Ahead.{ahead, labels_at, over}

-- a is an attribute, or 0, the end
abbrev pub Begins : Forest → ℕ → Type 0
Begins d a = first_label (labels_at d a) ≡ a

-- the attributes from a on, and the nodes from x on with their attributes
abbrev pub records_left : Forest → ℕ → ℕ → List Node
records_left d a x = attribute_rows (link_of (λ v. v.row.parent) (view d a)) (labels_at d a) ++ over rows (ahead d x)
