-- The reduced list: what is overridden is dropped, an empty replacement is a deletion, each gap has one insertion,
-- and the changes stand by target in document order and then by code.
use Rattle.std.specs.Prelude.{ℕ, Bool, true, false, cond, not, ◌||◌, List, [], ◌∷◌, ◌++◌, Some, None, Option}
use Rattle.records.specs.declared.operations.Code.{Code}
use Rattle.records.specs.declared.operations.Code.TheVariants.{InsertBefore, InsertAfter, InsertFirst, InsertInto, InsertLast, InsertAttributes, Delete, ReplaceNode, ReplaceValue, ReplaceContent, Rename}
use Rattle.document.specs.Tree.{Forest, nil, node}
use Rattle.changes.specs.Changes.{Change, ◌⊕◌, is_some}
use Rattle.changes.specs.Marks.{NodeChanges, no_changes, MarkedLabel, MarkedForest, no_marks, marked, mark, removed}

-- RULES 1 AND 2, on the marks: what is overridden is dropped, and a replacement by nothing is a deletion
-- nodes below one that goes have no changes left
abbrev pub cleared_labels : List MarkedLabel → List MarkedLabel
cleared_labels [] = []
cleared_labels (m ∷ l) = record { label = m.label; changes = no_changes } ∷ cleared_labels l

abbrev pub cleared : MarkedForest → MarkedForest
cleared no_marks = no_marks
cleared (marked r a as' k f) = marked r no_changes (cleared_labels as') (cleared k) (cleared f)

abbrev pub unless_empty : Option Forest → Option Forest
unless_empty None = None
unless_empty (Some nil) = None
unless_empty (Some (node r as' k f)) = Some (node r as' k f)

-- a node that goes: what stands beside it is left, and how it goes
abbrev pub left_on_removed : NodeChanges → NodeChanges
left_on_removed a = record {
  before = a.before;
  after = a.after;
  first = nil;
  into = nil;
  last = nil;
  attributes = nil;
  deleted = not (is_some (unless_empty a.replaced));
  replaced = unless_empty a.replaced;
  revalued = None;
  content = None;
  renamed = None;
}

-- a node that stays: nothing is inserted into it if its content is replaced
abbrev pub left_on_kept : NodeChanges → NodeChanges
left_on_kept a = record {
  before = a.before;
  after = a.after;
  first = cond (is_some a.content) nil a.first;
  into = cond (is_some a.content) nil a.into;
  last = cond (is_some a.content) nil a.last;
  attributes = a.attributes;
  deleted = false;
  replaced = None;
  revalued = a.revalued;
  content = a.content;
  renamed = a.renamed;
}

abbrev pub left_on_node : NodeChanges → NodeChanges
left_on_node a = cond (removed a) (left_on_removed a) (left_on_kept a)

abbrev pub left_on_labels : List MarkedLabel → List MarkedLabel
left_on_labels [] = []
left_on_labels (m ∷ l) = record { label = m.label; changes = left_on_node m.changes } ∷ left_on_labels l

-- replaced content overrides all on the children and below them, but nothing on the attributes
abbrev pub without_overridden : MarkedForest → MarkedForest
without_overridden no_marks = no_marks
without_overridden (marked r a as' k f) =
    marked r (left_on_node a)
    (cond (removed a) (cleared_labels as') (left_on_labels as'))
    (cond (removed a || is_some a.content) (cleared k) (without_overridden k))
    (without_overridden f)

-- RULE 3: the insertions into a gap stand with the node on its left, or with the parent
-- what is inserted before the first node of a row, or else last by the parent
abbrev pub before_first : MarkedForest → Forest → Forest
before_first no_marks g = g
before_first (marked r a as' k f) g = a.before

-- g: what else is inserted behind the node; h: what else before its first child
abbrev pub gathered_on_node : NodeChanges → Forest → Forest → NodeChanges
gathered_on_node a g h = record {
  before = nil;
  after = a.after ⊕ g;
  first = a.first ⊕ (a.into ⊕ h);
  into = nil;
  last = nil;
  attributes = a.attributes;
  deleted = a.deleted;
  replaced = a.replaced;
  revalued = a.revalued;
  content = a.content;
  renamed = a.renamed;
}

-- g: what the parent of the row has inserted last
abbrev pub gathered_by_gap : MarkedForest → Forest → MarkedForest
gathered_by_gap no_marks g = no_marks
gathered_by_gap (marked r a as' k f) g =
    marked r (gathered_on_node a (before_first f g) (before_first k a.last)) as' (gathered_by_gap k a.last) (gathered_by_gap f g)

abbrev pub reduced_marks : MarkedForest → MarkedForest
reduced_marks m = gathered_by_gap (without_overridden m) nil

-- RULE 4: the changes of a marked document, by target in document order and then by code
abbrev pub insertion : ℕ → Code → Forest → List Change
insertion t c nil = []
insertion t c (node r as' k f) = record { target = t; code = c; nodes = node r as' k f; name = 0; value = 0 } ∷ []

abbrev pub deletion_of : ℕ → Bool → List Change
deletion_of t false = []
deletion_of t true = record { target = t; code = Delete; nodes = nil; name = 0; value = 0 } ∷ []

abbrev pub replacement : ℕ → Code → Option Forest → List Change
replacement t c None = []
replacement t c (Some g) = record { target = t; code = c; nodes = g; name = 0; value = 0 } ∷ []

abbrev pub new_value : ℕ → Option ℕ → List Change
new_value t None = []
new_value t (Some v) = record { target = t; code = ReplaceValue; nodes = nil; name = 0; value = v } ∷ []

abbrev pub new_name : ℕ → Option ℕ → List Change
new_name t None = []
new_name t (Some n) = record { target = t; code = Rename; nodes = nil; name = n; value = 0 } ∷ []

abbrev pub changes_by_code : ℕ → NodeChanges → List Change
changes_by_code t a =
    insertion t InsertBefore a.before ++ (insertion t InsertAfter a.after ++ (insertion t InsertFirst a.first ++ (insertion t InsertInto a.into
    ++ (insertion t InsertLast a.last ++ (insertion t InsertAttributes a.attributes ++ (deletion_of t a.deleted ++ (replacement t ReplaceNode a.replaced
    ++ (new_value t a.revalued ++ (replacement t ReplaceContent a.content ++ new_name t a.renamed)))))))))

abbrev pub label_changes_in_order : List MarkedLabel → List Change
label_changes_in_order [] = []
label_changes_in_order (m ∷ l) = changes_by_code m.label.id m.changes ++ label_changes_in_order l

abbrev pub changes_in_order : MarkedForest → List Change
changes_in_order no_marks = []
changes_in_order (marked r a as' k f) = changes_by_code r.id a ++ (label_changes_in_order as' ++ (changes_in_order k ++ changes_in_order f))

-- the reduced list of a list on a document
unfoldable pub reduced : Forest → List Change → List Change
reduced d l = changes_in_order (reduced_marks (mark l d))
