-- Document order, one node at a time.
use Rattle.std.specs.Prelude.{◌≡◌, ℕ, Bool, true, false, cond, ◌&&◌, List, Some, None, Option}
use Rattle.records.specs.declared.nodes.Node.{Node}
use Rattle.document.specs.Table.{closed_to, innermost, opened, takes_above, taken, attached}
use Rattle.nodetable.specs.declared.order.Standing.{Standing}
use Rattle.nodetable.specs.Open.{open_in}

-- The identifiers of the elements that are open behind a node, innermost first, and which attributes the innermost still
-- takes; nothing if the node is out of order.
abbrev pub after_attribute : List ℕ → Option ℕ → Node → Option (List ℕ × Option ℕ)
after_attribute ids limit x = cond (innermost x.parent ids && taken limit x.id) (Some (ids, Some x.id)) None

abbrev pub after_child : List ℕ → Node → Option (List ℕ × Option ℕ)
after_child ids x =
    cond (innermost x.parent (closed_to x.parent ids))
    (Some (opened x.kind x.id (closed_to x.parent ids), takes_above x.kind)) None

abbrev pub after : List ℕ → Option ℕ → Node → Option (List ℕ × Option ℕ)
after ids limit x = cond (attached x) (after_attribute ids limit x) (after_child ids x)

-- whether a node passed, and what is open then
abbrev pub Passes : Bool → Standing → Option (List ℕ × Option ℕ) → Type 0
Passes true s o = o ≡ Some (open_in s.open, s.above)
Passes false s o = o ≡ None
