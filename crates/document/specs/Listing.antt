-- Document order: an element, its attributes, then each child with all below it.
use Rattle.std.specs.Prelude.{ℕ, ◌+◌, List, [], ◌∷◌, ◌++◌}
use Rattle.records.specs.declared.nodes.Node.{Node}
use Rattle.document.specs.Tree.{Label, Forest, nil, node}

abbrev pub row : ℕ → Label → Node
row p r = record { id = r.id; parent = p; kind = r.kind; name = r.name; value = r.value }

abbrev pub label : Node → Label
label x = record { id = x.id; kind = x.kind; name = x.name; value = x.value }

abbrev pub attribute_rows : ℕ → List Label → List Node
attribute_rows p [] = []
attribute_rows p (r ∷ l) = row p r ∷ attribute_rows p l

-- the nodes of a row of trees below p, in document order
abbrev pub rows : ℕ → Forest → List Node
rows p nil = []
rows p (node r as' k f) = row p r ∷ (attribute_rows r.id as' ++ (rows r.id k ++ rows p f))

-- the node table of a document
unfoldable pub listing : Forest → List Node
listing d = rows 0 d

-- how deep each node of the listing stands; the roots at n
abbrev pub attribute_depths : ℕ → List Label → List ℕ
attribute_depths n [] = []
attribute_depths n (r ∷ l) = n ∷ attribute_depths n l

abbrev pub row_depths : ℕ → Forest → List ℕ
row_depths n nil = []
row_depths n (node r as' k f) = n ∷ (attribute_depths (n + 1) as' ++ (row_depths (n + 1) k ++ row_depths n f))

unfoldable pub depths : Forest → List ℕ
depths d = row_depths 0 d
