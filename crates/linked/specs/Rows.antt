-- Rows, as what is seen of a node.
use Rattle.std.specs.Prelude.{ℕ}
use Rattle.records.specs.declared.nodes.Kind.{Kind}
use Rattle.records.specs.declared.nodes.Kind.TheVariants.{Element, Attribute, Text}
use Rattle.records.specs.declared.nodes.Node.{Node}
use Rattle.store.specs.Views.{View}
use Rattle.linked.specs.declared.row.Row.{Row}
use Rattle.linked.specs.declared.row.Siblings.{Siblings}
use Rattle.linked.specs.declared.row.Siblings.TheVariants.{Children, Attributes}

abbrev pub row : Node → ℕ → ℕ → ℕ → ℕ → ℕ → Row
row x l c n a m = record { node = x; left = l; first_child = c; next_sibling = n; first_attribute = a; next_attribute = m }

abbrev pub seen : Row → View
seen w = record {
  row = w.node;
  left = w.left;
  first_child = w.first_child;
  next_sibling = w.next_sibling;
  first_attribute = w.first_attribute;
  next_attribute = w.next_attribute;
}

abbrev pub row_of : View → Row
row_of v = row v.row v.left v.first_child v.next_sibling v.first_attribute v.next_attribute

-- a row with another record, and with one link changed
abbrev pub with_record : (Node → Node) → Row → Row
with_record f w = row (f w.node) w.left w.first_child w.next_sibling w.first_attribute w.next_attribute

abbrev pub with_left : ℕ → Row → Row
with_left t w = row w.node t w.first_child w.next_sibling w.first_attribute w.next_attribute

-- the links among siblings: a parent's to the first, and that of one to the next
abbrev pub with_first : Siblings → ℕ → Row → Row
with_first Children t w = row w.node w.left t w.next_sibling w.first_attribute w.next_attribute
with_first Attributes t w = row w.node w.left w.first_child w.next_sibling t w.next_attribute

abbrev pub with_next : Siblings → ℕ → Row → Row
with_next Children t w = row w.node w.left w.first_child t w.first_attribute w.next_attribute
with_next Attributes t w = row w.node w.left w.first_child w.next_sibling w.first_attribute t

abbrev pub next_among : Siblings → Row → ℕ
next_among Children w = w.next_sibling
next_among Attributes w = w.next_attribute

abbrev pub siblings_of : Kind → Siblings
siblings_of Element = Children
siblings_of Attribute = Attributes
siblings_of Text = Children

-- the row of a new node behind the node l, or of a new attribute; `next` comes to stand behind it
abbrev pub row_among : Siblings → Node → ℕ → ℕ → Row
row_among Children x l next = row x l 0 next 0 0
row_among Attributes x l next = row x l 0 0 0 next
