-- A document with its changes beside the nodes, and all stages in one pass over it.
use Rattle.std.specs.Prelude.{ℕ, Bool, false, cond, ◌||◌, List, [], ◌∷◌, ◌++◌, None, Option}
use Rattle.records.specs.declared.operations.Code.TheVariants.{InsertBefore, InsertAfter, InsertFirst, InsertInto, InsertLast, InsertAttributes, Delete, ReplaceNode, ReplaceValue, ReplaceContent, Rename}
use Rattle.document.specs.Tree.{Label, Forest, nil, node}
use Rattle.changes.specs.Changes.{Change, ◌⊕◌, root_labels, insert_labels, changes_on, joined_nodes, first_of, nodes_given, value_given, name_given, or_else, is_some}

-- what is done to one node: a row of trees for each kind of insertion, and the rest where there is any
pub record NodeChanges : Type 0 where
  pub before : Forest
  pub after : Forest
  pub first : Forest
  pub into : Forest
  pub last : Forest
  pub attributes : Forest
  pub deleted : Bool
  pub replaced : Option Forest
  pub revalued : Option ℕ
  pub content : Option Forest
  pub renamed : Option ℕ

abbrev pub no_changes : NodeChanges
no_changes = record {
  before = nil;
  after = nil;
  first = nil;
  into = nil;
  last = nil;
  attributes = nil;
  deleted = false;
  replaced = None;
  revalued = None;
  content = None;
  renamed = None;
}

-- an attribute with its changes
pub record MarkedLabel : Type 0 where
  pub label : Label
  pub changes : NodeChanges

-- a row of trees with their changes
pub data MarkedForest : Type 0 where
  no_marks : MarkedForest
  marked : Label → NodeChanges → List MarkedLabel → MarkedForest → MarkedForest → MarkedForest

infixr 60 ◌⊞◌
abbrev pub ◌⊞◌ : MarkedForest → MarkedForest → MarkedForest
no_marks ⊞ g = g
(marked r a as' k f) ⊞ g = marked r a as' k (f ⊞ g)

-- the changes on one node, by what they do
abbrev pub node_changes : List Change → NodeChanges
node_changes l = record {
  before = joined_nodes InsertBefore l;
  after = joined_nodes InsertAfter l;
  first = joined_nodes InsertFirst l;
  into = joined_nodes InsertInto l;
  last = joined_nodes InsertLast l;
  attributes = joined_nodes InsertAttributes l;
  deleted = is_some (first_of Delete l);
  replaced = nodes_given (first_of ReplaceNode l);
  revalued = value_given (first_of ReplaceValue l);
  content = nodes_given (first_of ReplaceContent l);
  renamed = name_given (first_of Rename l);
}

-- the document with the changes of a list beside its nodes
abbrev pub mark_labels : List Change → List Label → List MarkedLabel
mark_labels l [] = []
mark_labels l (r ∷ rs) = record { label = r; changes = node_changes (changes_on r.id l) } ∷ mark_labels l rs

abbrev pub mark : List Change → Forest → MarkedForest
mark l nil = no_marks
mark l (node r as' k f) = marked r (node_changes (changes_on r.id l)) (mark_labels l as') (mark l k) (mark l f)

-- the document alone
abbrev pub unmark_labels : List MarkedLabel → List Label
unmark_labels [] = []
unmark_labels (m ∷ l) = m.label ∷ unmark_labels l

abbrev pub unmark : MarkedForest → Forest
unmark no_marks = nil
unmark (marked r a as' k f) = node r (unmark_labels as') (unmark k) (unmark f)

-- whether a node goes
abbrev pub removed : NodeChanges → Bool
removed a = is_some a.replaced || a.deleted

-- a node as it stays
abbrev pub relabelled : Label → NodeChanges → Label
relabelled r a = record { id = r.id; kind = r.kind; name = or_else a.renamed r.name; value = or_else a.revalued r.value }

-- the attributes that stay, and those that come for replaced ones
abbrev pub kept_labels : List MarkedLabel → List Label
kept_labels [] = []
kept_labels (m ∷ l) = cond (removed m.changes) (kept_labels l) (relabelled m.label m.changes ∷ kept_labels l)

abbrev pub replacing_labels : List MarkedLabel → List Label
replacing_labels [] = []
replacing_labels (m ∷ l) = root_labels (or_else m.changes.replaced nil) ++ replacing_labels l

-- the children of a node that stays; k is what its old children have become
abbrev pub children_after : NodeChanges → Forest → Forest
children_after a k = or_else a.content (a.first ⊕ (a.into ⊕ (k ⊕ a.last)))

-- the document after its changes
abbrev pub all_stages_at_once : MarkedForest → Forest
all_stages_at_once no_marks = nil
all_stages_at_once (marked r a as' k f) =
    a.before
    ⊕ (cond (removed a) (or_else a.replaced nil)
    (node (relabelled r a) (insert_labels (replacing_labels as' ++ root_labels a.attributes) (kept_labels as')) (children_after a (all_stages_at_once k)) nil)
    ⊕ (a.after ⊕ all_stages_at_once f))
