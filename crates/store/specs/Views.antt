-- What a store answers to a question: all that is seen of a node, and the answers that come from it.
use Rattle.std.specs.Prelude.{ℕ, cond, List, [], ◌∷◌, Some, None, Ok, Err, Option, Result, ◌==◌}
use Rattle.records.specs.declared.nodes.Node.{Node}
use Rattle.document.specs.Tree.{Label, Forest, nil, node}
use Rattle.document.specs.Listing.{row}
use Rattle.faults.specs.declared.StoreFault.{StoreFault}
use Rattle.faults.specs.declared.StoreFault.TheVariants.{Absent}

-- a node with its parent and its neighbours, 0 for none; an attribute has no left neighbour
pub record View : Type 0 where
  pub row : Node
  pub left : ℕ
  pub first_child : ℕ
  pub next_sibling : ℕ
  pub first_attribute : ℕ
  pub next_attribute : ℕ
  deriving IsSet as view_set

-- the identifier of the first tree, or of the first attribute; 0 for none
abbrev pub first_of : Forest → ℕ
first_of nil = 0
first_of (node r as' k f) = r.id

abbrev pub first_label : List Label → ℕ
first_label [] = 0
first_label (r ∷ l) = r.id

abbrev pub or_else : {X : Type 0} → Option X → Option X → Option X
or_else None o = o
or_else (Some x) o = Some x

-- an attribute of p with the attributes behind it
abbrev pub attribute_view : ℕ → Label → List Label → View
attribute_view p r l =
    record { row = row p r; left = 0; first_child = 0; next_sibling = 0; first_attribute = 0; next_attribute = first_label l }

-- a node below p behind the node l, with its attributes, its children and the trees behind it
abbrev pub node_view : ℕ → ℕ → Label → List Label → Forest → Forest → View
node_view p l r as' k f =
    record {
      row = row p r;
      left = l;
      first_child = first_of k;
      next_sibling = first_of f;
      first_attribute = first_label as';
      next_attribute = 0;
    }

-- the node t among the attributes of p
abbrev pub view_attribute : ℕ → ℕ → List Label → Option View
view_attribute t p [] = None
view_attribute t p (r ∷ l) = cond (r.id == t) (Some (attribute_view p r l)) (view_attribute t p l)

-- the node t in a row of trees below p behind the node l
abbrev pub view_in : ℕ → ℕ → ℕ → Forest → Option View
view_in t p l nil = None
view_in t p l (node r as' k f) =
    cond (r.id == t) (Some (node_view p l r as' k f))
    (or_else (view_attribute t r.id as') (or_else (view_in t r.id 0 k) (view_in t p r.id f)))

abbrev pub view : Forest → ℕ → Option View
view d t = view_in t 0 0 d

-- a question about a node is refused exactly where the node is absent
abbrev pub asked : {X : Type 0} → (View → X) → Option View → Result X StoreFault
asked f None = Err Absent
asked f (Some v) = Ok (f v)

abbrev pub record_says : Forest → ℕ → Result Node StoreFault
record_says d t = asked (λ v. v.row) (view d t)

abbrev pub first_child_says : Forest → ℕ → Result ℕ StoreFault
first_child_says d t = asked (λ v. v.first_child) (view d t)

abbrev pub next_sibling_says : Forest → ℕ → Result ℕ StoreFault
next_sibling_says d t = asked (λ v. v.next_sibling) (view d t)

abbrev pub first_attribute_says : Forest → ℕ → Result ℕ StoreFault
first_attribute_says d t = asked (λ v. v.first_attribute) (view d t)

abbrev pub next_attribute_says : Forest → ℕ → Result ℕ StoreFault
next_attribute_says d t = asked (λ v. v.next_attribute) (view d t)

-- parent and left neighbour
abbrev pub place_says : Forest → ℕ → Result (ℕ × ℕ) StoreFault
place_says d t = asked (λ v. (v.row.parent, v.left)) (view d t)
