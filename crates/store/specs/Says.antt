-- What a store answers to a write, and the document that the write leaves.
use Rattle.std.specs.Prelude.{ℕ, Bool, true, false, cond, not, ◌&&◌, ◌||◌, Some, None, Ok, Err, Option, Result, ◌==◌}
use Rattle.records.specs.Formed.{formed_node}
use Rattle.records.specs.declared.nodes.Kind.{Kind}
use Rattle.records.specs.declared.nodes.Kind.TheVariants.{Element, Attribute, Text}
use Rattle.records.specs.declared.nodes.Node.{Node}
use Rattle.document.specs.Tree.{Forest, size}
use Rattle.document.specs.Table.{is_attribute}
use Rattle.faults.specs.declared.StoreFault.{StoreFault}
use Rattle.faults.specs.declared.StoreFault.TheVariants.{Misformed, Known, Absent, Unsuited, Full}
use Rattle.store.specs.Views.{View, view}
use Rattle.store.specs.Writes.{put_in, without, edited, named, valued}

abbrev pub Answer : Type 0
Answer = Result (Unit {0}) StoreFault

-- a refusal leaves the document as it was
abbrev pub after : Answer → Forest → Forest → Forest
after (Ok u) new old = new
after (Err e) new old = old

abbrev pub is_element : Kind → Bool
is_element Element = true
is_element Attribute = false
is_element Text = false

abbrev pub is_text : Kind → Bool
is_text Element = false
is_text Attribute = false
is_text Text = true

abbrev pub is_there : Option View → Bool
is_there None = false
is_there (Some v) = true

abbrev pub is_element_there : Option View → Bool
is_element_there None = false
is_element_there (Some v) = is_element v.row.kind

-- a child of p that is there; an attribute is no child
abbrev pub is_child_of : ℕ → Option View → Bool
is_child_of p None = false
is_child_of p (Some v) = v.row.parent == p && not (is_attribute v.row.kind)

-- whether n can stand below its parent, behind l
abbrev pub fits_root : Forest → Node → ℕ → Bool
fits_root d n l = size d == 0 && (is_element n.kind && l == 0)

abbrev pub fits_below : Forest → Node → ℕ → Bool
fits_below d n l = is_element_there (view d n.parent) && (l == 0 || (not (is_attribute n.kind) && is_child_of n.parent (view d l)))

abbrev pub fits : Forest → Node → ℕ → Bool
fits d n l = cond (n.parent == 0) (fits_root d n l) (fits_below d n l)

abbrev pub put_says : ℕ → Forest → Node → ℕ → Answer
put_says room d n l =
    cond (not (formed_node n)) (Err Misformed)
    (cond (is_there (view d n.id)) (Err Known) (cond (not (fits d n l)) (Err Unsuited) (cond (size d == room) (Err Full) (Ok tt))))

abbrev pub put_leaves : ℕ → Forest → Node → ℕ → Forest
put_leaves room d n l = after (put_says room d n l) (put_in d n l) d

-- no children and no attributes
abbrev pub is_bare : View → Bool
is_bare v = v.first_child == 0 && v.first_attribute == 0

abbrev pub take_of : Option View → Answer
take_of None = Err Absent
take_of (Some v) = cond (is_bare v) (Ok tt) (Err Unsuited)

abbrev pub take_says : Forest → ℕ → Answer
take_says d t = take_of (view d t)

abbrev pub take_leaves : Forest → ℕ → Forest
take_leaves d t = after (take_says d t) (without t d) d

abbrev pub rename_of : ℕ → Option View → Answer
rename_of m None = Err Absent
rename_of m (Some v) = cond (is_text v.row.kind) (Err Unsuited) (cond (m == 0) (Err Misformed) (Ok tt))

abbrev pub rename_says : Forest → ℕ → ℕ → Answer
rename_says d t m = rename_of m (view d t)

abbrev pub rename_leaves : Forest → ℕ → ℕ → Forest
rename_leaves d t m = after (rename_says d t m) (edited t (named m) d) d

abbrev pub set_value_of : Option View → Answer
set_value_of None = Err Absent
set_value_of (Some v) = cond (is_element v.row.kind) (Err Unsuited) (Ok tt)

abbrev pub set_value_says : Forest → ℕ → Answer
set_value_says d t = set_value_of (view d t)

abbrev pub set_value_leaves : Forest → ℕ → ℕ → Forest
set_value_leaves d t v = after (set_value_says d t) (edited t (valued v) d) d
