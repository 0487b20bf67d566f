-- The walk in document order: what is still ahead of it at a node.
use Rattle.std.specs.Prelude.{◌≡◌, ℕ, ◌+◌, cond, List, [], ◌∷◌, ◌++◌, ◌==◌, nat_lt}
use Rattle.document.specs.Tree.{Label, Forest, nil, node, count_labels, size}
use Rattle.store.specs.Views.{first_of}

-- a row of trees that is still to be walked, and the node that it stands below
pub record Row : Type 0 where
  pub parent : ℕ
  pub trees : Forest

abbrev pub row_below : ℕ → Forest → Row
row_below p f = record { parent = p; trees = f }

abbrev pub or_rows : List Row → List Row → List Row
or_rows [] t = t
or_rows (w ∷ s) t = w ∷ s

-- The rows from the node x on, innermost first; s stands behind the row f below p. Beside an attribute there are no trees.
abbrev pub ahead_in : ℕ → List Row → ℕ → Forest → List Row
ahead_in x s p nil = []
ahead_in x s p (node r as' k f) =
    cond (r.id == x) (row_below p (node r as' k f) ∷ s)
    (cond (nat_lt 0 (count_labels x as')) (row_below r.id nil ∷ row_below p f ∷ s)
    (or_rows (ahead_in x (row_below p f ∷ s) r.id k) (ahead_in x s p f)))

-- the rows from x on, none where x is absent
unfoldable pub ahead : Forest → ℕ → List Row
ahead d x = ahead_in x [] 0 d

-- the first node of the rows, 0 for none
abbrev pub first_else : Forest → ℕ → ℕ
first_else nil n = n
first_else (node r as' k f) n = r.id

abbrev pub first_ahead : List Row → ℕ
first_ahead [] = 0
first_ahead (w ∷ s) = first_else w.trees (first_ahead s)

-- the walk stands at x: at the first node of a row, or at 0, the end
abbrev pub head_ahead : List Row → ℕ
head_ahead [] = 0
head_ahead (w ∷ s) = first_of w.trees

abbrev pub Walks : Forest → ℕ → Type 0
Walks d x = head_ahead (ahead d x) ≡ x

-- the rows behind the first node, without what is below it
abbrev pub behind_first : Forest → ℕ → List Row → List Row
behind_first nil p s = s
behind_first (node r as' k f) p s = row_below p f ∷ s

abbrev pub rows_behind : List Row → List Row
rows_behind [] = []
rows_behind (w ∷ s) = behind_first w.trees w.parent s

-- the next node in document order that is not below x; 0 for none
abbrev pub behind_node : Forest → ℕ → ℕ
behind_node d x = first_ahead (rows_behind (ahead d x))

-- the rows behind the first node, with what is below it
abbrev pub after_first : Forest → ℕ → List Row → List Row
after_first nil p s = s
after_first (node r as' k f) p s = row_below r.id k ∷ row_below p f ∷ s

abbrev pub rows_after : List Row → List Row
rows_after [] = []
rows_after (w ∷ s) = after_first w.trees w.parent s

-- the next node in document order, attributes left out; 0 for none
abbrev pub after_node : Forest → ℕ → ℕ
after_node d x = first_ahead (rows_after (ahead d x))

-- the attributes of the first node
abbrev pub attributes_of_first : Forest → List Label
attributes_of_first nil = []
attributes_of_first (node r as' k f) = as'

abbrev pub attributes_ahead : List Row → List Label
attributes_ahead [] = []
attributes_ahead (w ∷ s) = attributes_of_first w.trees

unfoldable pub attributes_of : Forest → ℕ → List Label
attributes_of d x = attributes_ahead (ahead d x)

-- the attributes from x on, none where x is no attribute
abbrev pub or_labels : List Label → List Label → List Label
or_labels [] m = m
or_labels (r ∷ l) m = r ∷ l

abbrev pub labels_from : ℕ → List Label → List Label
labels_from x [] = []
labels_from x (r ∷ l) = cond (r.id == x) (r ∷ l) (labels_from x l)

abbrev pub labels_in : ℕ → Forest → List Label
labels_in x nil = []
labels_in x (node r as' k f) = or_labels (labels_from x as') (or_labels (labels_in x k) (labels_in x f))

unfoldable pub labels_at : Forest → ℕ → List Label
labels_at d x = labels_in x d

-- what a function of rows of trees gives of all rows
abbrev pub over : {X : Type 0} → (ℕ → Forest → List X) → List Row → List X
over g [] = []
over g (w ∷ s) = g w.parent w.trees ++ over g s

abbrev pub size_ahead : List Row → ℕ
size_ahead [] = 0
size_ahead (w ∷ s) = size w.trees + size_ahead s
