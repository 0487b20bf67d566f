-- Between which siblings a node comes to stand, and behind which one a node stands.
use Rattle.std.specs.Prelude.{ℕ}
use Rattle.records.specs.declared.nodes.Node.{Node}
use Rattle.document.specs.Tree.{Forest}
use Rattle.store.specs.Links.{next_child, attribute_before, attribute_from}
use Rattle.linked.specs.declared.row.Row.{Row}
use Rattle.linked.specs.declared.row.Siblings.{Siblings}
use Rattle.linked.specs.declared.row.Siblings.TheVariants.{Children, Attributes}

abbrev pub neighbours : Forest → Siblings → Node → ℕ → ℕ × ℕ
neighbours d Children n l = (l, next_child d n l)
neighbours d Attributes n l = (attribute_before d n.parent n.id, attribute_from d n.parent n.id)

abbrev pub stands_behind : Forest → Siblings → Row → ℕ
stands_behind d Children w = w.left
stands_behind d Attributes w = attribute_before d w.node.parent w.node.id
