-- Change lists: pending updates, each with its trees.
use Rattle.std.specs.Prelude.{ℕ, ◌+◌, Bool, true, false, cond, List, [], ◌∷◌, Some, None, Option, ◌==◌, nat_lt}
use Rattle.records.specs.Formed.{code_number}
use Rattle.records.specs.declared.operations.Code.{Code}
use Rattle.document.specs.Tree.{Label, Forest, nil, node, count, size}

-- one operation of a change list; the name is the new one of a renaming, the value that of a replaced value
pub record Change : Type 0 where
  pub target : ℕ
  pub code : Code
  pub nodes : Forest
  pub name : ℕ
  pub value : ℕ

abbrev pub same_code : Code → Code → Bool
same_code a b = code_number a == code_number b

infixr 60 ◌⊕◌
-- two rows of trees, one behind the other
abbrev pub ◌⊕◌ : Forest → Forest → Forest
nil ⊕ g = g
(node r as' k f) ⊕ g = node r as' k (f ⊕ g)

-- the labels of the roots, and a row of nodes without attributes and children
abbrev pub root_labels : Forest → List Label
root_labels nil = []
root_labels (node r as' k f) = r ∷ root_labels f

abbrev pub childless : List Label → Forest
childless [] = nil
childless (r ∷ l) = node r [] nil (childless l)

-- attributes are put in where their identifiers belong
abbrev pub insert_label : Label → List Label → List Label
insert_label x [] = x ∷ []
insert_label x (y ∷ l) = cond (nat_lt x.id y.id) (x ∷ y ∷ l) (y ∷ insert_label x l)

abbrev pub insert_labels : List Label → List Label → List Label
insert_labels [] l = l
insert_labels (x ∷ xs) l = insert_label x (insert_labels xs l)

-- the changes on one node, in list order
abbrev pub changes_on : ℕ → List Change → List Change
changes_on t [] = []
changes_on t (o ∷ l) = cond (o.target == t) (o ∷ changes_on t l) (changes_on t l)

-- the nodes of all changes of one code, in list order
abbrev pub joined_nodes : Code → List Change → Forest
joined_nodes c [] = nil
joined_nodes c (o ∷ l) = cond (same_code o.code c) (o.nodes ⊕ joined_nodes c l) (joined_nodes c l)

-- the first change of one code, and what it gives
abbrev pub first_of : Code → List Change → Option Change
first_of c [] = None
first_of c (o ∷ l) = cond (same_code o.code c) (Some o) (first_of c l)

abbrev pub nodes_given : Option Change → Option Forest
nodes_given None = None
nodes_given (Some o) = Some o.nodes

abbrev pub value_given : Option Change → Option ℕ
value_given None = None
value_given (Some o) = Some o.value

abbrev pub name_given : Option Change → Option ℕ
name_given None = None
name_given (Some o) = Some o.name

abbrev pub or_else : {A : Type 0} → Option A → A → A
or_else (Some x) y = x
or_else None y = y

abbrev pub is_some : {A : Type 0} → Option A → Bool
is_some (Some x) = true
is_some None = false

-- how often an identifier stands among the nodes of a list, and how many nodes it has
abbrev pub count_nodes : ℕ → List Change → ℕ
count_nodes t [] = 0
count_nodes t (o ∷ l) = count t o.nodes + count_nodes t l

abbrev pub size_nodes : List Change → ℕ
size_nodes [] = 0
size_nodes (o ∷ l) = size o.nodes + size_nodes l
