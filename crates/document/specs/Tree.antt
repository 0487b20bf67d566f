-- Documents as trees.
use Rattle.std.specs.Prelude.{◌≡◌, ℕ, ◌+◌, ◌<◌, ◌≤◌, Bool, true, false, ◌&&◌, List, [], ◌∷◌, ◌==◌, nat_lt}
use Rattle.records.specs.Formed.{fields_suit_kind}
use Rattle.records.specs.declared.nodes.Kind.{Kind}
use Rattle.records.specs.declared.nodes.Kind.TheVariants.{Element, Attribute, Text}

-- what a node is, but for where it stands
pub record Label : Type 0 where
  pub id : ℕ
  pub kind : Kind
  pub name : ℕ
  pub value : ℕ
  deriving IsSet as label_set

-- a row of trees: nothing, or a node with its attributes, its children, and the trees behind it
pub data Forest : Type 0 where
  nil : Forest
  node : Label → List Label → Forest → Forest → Forest
  deriving IsSet as forest_set

-- how often an identifier stands in a row of trees
abbrev pub one : Bool → ℕ
one true = 1
one false = 0

abbrev pub count_labels : ℕ → List Label → ℕ
count_labels t [] = 0
count_labels t (r ∷ l) = one (r.id == t) + count_labels t l

abbrev pub count : ℕ → Forest → ℕ
count t nil = 0
count t (node r as' k f) = one (r.id == t) + (count_labels t as' + (count t k + count t f))

-- the number of nodes
abbrev pub size_labels : List Label → ℕ
size_labels [] = 0
size_labels (r ∷ l) = 1 + size_labels l

abbrev pub size : Forest → ℕ
size nil = 0
size (node r as' k f) = 1 + (size_labels as' + (size k + size f))

-- identifiers that ascend, all above n
abbrev pub Above : ℕ → List Label → Type 0
Above n [] = Unit {0}
Above n (r ∷ l) = (n < r.id) × Above r.id l

-- how many attributes have a name
abbrev pub count_names : ℕ → List Label → ℕ
count_names t [] = 0
count_names t (r ∷ l) = one (r.name == t) + count_names t l

-- identifier, name and value as the kind demands
abbrev pub Formed : Label → Type 0
Formed r = (nat_lt 0 r.id && fields_suit_kind r.kind r.name r.value) ≡ true

abbrev pub Attributes : List Label → Type 0
Attributes [] = Unit {0}
Attributes (r ∷ l) = (r.kind ≡ Attribute) × Formed r × Attributes l

-- an element may have attributes and children, a text has neither, and an attribute is no child
abbrev pub Holds : Kind → List Label → Forest → Type 0
Holds Element as' k = Unit {0}
Holds Text as' k = (as' ≡ []) × (k ≡ nil)
Holds Attribute as' k = ⊥

-- every node of a row of trees has the parts that its kind allows,
-- and its attributes stand in ascending identifiers, no two with one name
abbrev pub Sound : Forest → Type 0
Sound nil = Unit {0}
Sound (node r as' k f) =
    Formed r × Holds r.kind as' k × (Attributes as' × Above 0 as' × ((t : ℕ) → count_names t as' ≤ 1)) × Sound k × Sound f

-- one tree, whose root is an element
abbrev pub OneElement : Forest → Type 0
OneElement nil = ⊥
OneElement (node r as' k nil) = r.kind ≡ Element
OneElement (node r as' k (node s bs l f)) = ⊥

pub record WellFormed (d : Forest) : Type 0 where
  pub root : OneElement d
  pub sound : Sound d
  pub distinct : (t : ℕ) → count t d ≤ 1
