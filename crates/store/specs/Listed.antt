-- Places of the document-order listing.
use Rattle.std.specs.Prelude.{◌≡◌, ℕ, ◌+◌, Bool, cond, not, ◌&&◌, List, [], ◌∷◌, ◌++◌, take, drop, Some, None, Ok, Err, Option, Result, ◌==◌, nat_lt}
use Rattle.records.specs.declared.nodes.Node.{Node}
use Rattle.document.specs.Tree.{Label, Forest, nil, node, one, size_labels, size}
use Rattle.document.specs.Listing.{listing}
use Rattle.document.specs.Table.{is_attribute}
use Rattle.faults.specs.declared.StoreFault.{StoreFault}
use Rattle.faults.specs.declared.StoreFault.TheVariants.{Absent}
use Rattle.store.specs.Views.{View}

-- a list with x at place i, and a list without what stands at place i
abbrev pub inserted_at : ℕ → Node → List Node → List Node
inserted_at i x xs = take i xs ++ (x ∷ drop i xs)

abbrev pub removed_at : ℕ → List Node → List Node
removed_at i xs = take i xs ++ drop (i + 1) xs

-- the place of the first row with an identifier, and how many rows have it
abbrev pub position : ℕ → List Node → ℕ
position t [] = 0
position t (x ∷ xs) = cond (x.id == t) 0 (1 + position t xs)

abbrev pub times : ℕ → List Node → ℕ
times t [] = 0
times t (x ∷ xs) = one (x.id == t) + times t xs

-- the first row with an identifier
abbrev pub row_with : ℕ → List Node → Option Node
row_with t [] = None
row_with t (x ∷ xs) = cond (x.id == t) (Some x) (row_with t xs)

abbrev pub found : Option Node → Result Node StoreFault
found None = Err Absent
found (Some x) = Ok x

-- a number read off the node t, by its attributes and its children
abbrev pub read_at : ℕ → (List Label → Forest → ℕ) → Forest → ℕ
read_at t h nil = 0
read_at t h (node r as' k f) = cond (r.id == t) (h as' k) 0 + (read_at t h k + read_at t h f)

abbrev pub smaller_labels : ℕ → List Label → ℕ
smaller_labels t [] = 0
smaller_labels t (r ∷ l) = one (nat_lt r.id t) + smaller_labels t l

-- how far behind a node's row a new attribute, a new first child or a new sibling of it comes
abbrev pub past_smaller : ℕ → List Label → Forest → ℕ
past_smaller t as' k = 1 + smaller_labels t as'

abbrev pub past_attributes : List Label → Forest → ℕ
past_attributes as' k = 1 + size_labels as'

abbrev pub past_all : List Label → Forest → ℕ
past_all as' k = 1 + (size_labels as' + size k)

abbrev pub place_behind : ℕ → (List Label → Forest → ℕ) → Forest → ℕ
place_behind t h d = position t (listing d) + read_at t h d

-- the place that a node takes in the listing when it is put behind l
abbrev pub put_place : Forest → Node → ℕ → ℕ
put_place d n l =
    cond (n.parent == 0) 0
    (cond (is_attribute n.kind) (place_behind n.parent (past_smaller n.id) d)
    (cond (l == 0) (place_behind n.parent past_attributes d) (place_behind l past_all d)))

-- a row with another name or value, where it has the identifier
abbrev pub renamed_row : ℕ → ℕ → Node → Node
renamed_row t m x = cond (x.id == t) (record { id = x.id; parent = x.parent; kind = x.kind; name = m; value = x.value }) x

abbrev pub revalued_row : ℕ → ℕ → Node → Node
revalued_row t v x = cond (x.id == t) (record { id = x.id; parent = x.parent; kind = x.kind; name = x.name; value = v }) x

-- the identifier of the first, and of the last, row that passes a test; 0 for none
abbrev pub first_where : (Node → Bool) → List Node → ℕ
first_where q [] = 0
first_where q (x ∷ xs) = cond (q x) x.id (first_where q xs)

abbrev pub last_from : (Node → Bool) → ℕ → List Node → ℕ
last_from q l [] = l
last_from q l (x ∷ xs) = last_from q (cond (q x) x.id l) xs

abbrev pub last_where : (Node → Bool) → List Node → ℕ
last_where q xs = last_from q 0 xs

abbrev pub child_row : ℕ → Node → Bool
child_row p x = x.parent == p && not (is_attribute x.kind)

abbrev pub attribute_row : ℕ → Node → Bool
attribute_row p x = x.parent == p && is_attribute x.kind

-- what the listing xs shows of the node t: the neighbours of a child are the nearest children of its parent before and behind it,
-- the next of an attribute is the nearest attribute of its parent behind it
pub record Shown (xs : List Node) (t : ℕ) (v : View) : Type 0 where
  pub first_child : v.first_child ≡ first_where (child_row t) xs
  pub first_attribute : v.first_attribute ≡ first_where (attribute_row t) xs
  pub left : v.left ≡ cond (is_attribute v.row.kind) 0 (last_where (child_row v.row.parent) (take (position t xs) xs))
  pub next_sibling : v.next_sibling ≡ cond (is_attribute v.row.kind) 0 (first_where (child_row v.row.parent) (drop (position t xs + 1) xs))
  pub next_attribute : v.next_attribute ≡ cond (is_attribute v.row.kind) (first_where (attribute_row v.row.parent) (drop (position t xs + 1) xs)) 0
