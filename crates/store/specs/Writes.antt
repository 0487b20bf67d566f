-- What the four writes do to a document.
use Rattle.std.specs.Prelude.{ℕ, cond, List, [], ◌∷◌, ◌==◌, nat_lt}
use Rattle.records.specs.declared.nodes.Node.{Node}
use Rattle.document.specs.Tree.{Label, Forest, nil, node}
use Rattle.document.specs.Listing.{label}
use Rattle.document.specs.Table.{is_attribute}

-- at the node t does `at`, to each row of attributes does `in_row`
abbrev pub act : ℕ → (List Label → List Label) → (Label → List Label → Forest → Forest → Forest) → Forest → Forest
act t in_row at nil = nil
act t in_row at (node r as' k f) =
    cond (r.id == t) (at r (in_row as') (act t in_row at k) (act t in_row at f)) (node r (in_row as') (act t in_row at k) (act t in_row at f))

abbrev pub unchanged : List Label → List Label
unchanged as' = as'

-- x as the first child, as the tree behind, and among the attributes
abbrev pub with_first : Label → Label → List Label → Forest → Forest → Forest
with_first x r as' k f = node r as' (node x [] nil k) f

abbrev pub with_behind : Label → Label → List Label → Forest → Forest → Forest
with_behind x r as' k f = node r as' k (node x [] nil f)

-- x before the first attribute with a greater identifier
abbrev pub insert_label : Label → List Label → List Label
insert_label x [] = x ∷ []
insert_label x (r ∷ l) = cond (nat_lt x.id r.id) (x ∷ (r ∷ l)) (r ∷ insert_label x l)

abbrev pub with_attribute : Label → Label → List Label → Forest → Forest → Forest
with_attribute x r as' k f = node r (insert_label x as') k f

-- the document with the childless node n behind the node l, or first where l is 0
abbrev pub put_in : Forest → Node → ℕ → Forest
put_in d n l =
    cond (n.parent == 0) (node (label n) [] nil nil)
    (cond (is_attribute n.kind) (act n.parent unchanged (with_attribute (label n)) d)
    (cond (l == 0) (act n.parent unchanged (with_first (label n)) d) (act l unchanged (with_behind (label n)) d)))

-- the document without the node t
abbrev pub lacking : ℕ → List Label → List Label
lacking t [] = []
lacking t (r ∷ l) = cond (r.id == t) (lacking t l) (r ∷ lacking t l)

abbrev pub without_tree : Label → List Label → Forest → Forest → Forest
without_tree r as' k f = f

abbrev pub without : ℕ → Forest → Forest
without t d = act t (lacking t) without_tree d

-- the document with another name or value for the node t
abbrev pub named : ℕ → Label → Label
named m r = record { id = r.id; kind = r.kind; name = m; value = r.value }

abbrev pub valued : ℕ → Label → Label
valued v r = record { id = r.id; kind = r.kind; name = r.name; value = v }

abbrev pub edit_labels : ℕ → (Label → Label) → List Label → List Label
edit_labels t e [] = []
edit_labels t e (r ∷ l) = cond (r.id == t) (e r) r ∷ edit_labels t e l

abbrev pub edit_tree : (Label → Label) → Label → List Label → Forest → Forest → Forest
edit_tree e r as' k f = node (e r) as' k f

abbrev pub edited : ℕ → (Label → Label) → Forest → Forest
edited t e d = act t (edit_labels t e) (edit_tree e) d
