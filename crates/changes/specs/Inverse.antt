-- The inverse list: from the reduced list and the document before it, what leads back from the document after it.
use Rattle.std.specs.Prelude.{ℕ, true, false, cond, List, [], ◌∷◌, ◌++◌, Some, None, Option, nat_lt}
use Rattle.document.specs.Tree.{Label, Forest, nil, node}
use Rattle.changes.specs.Changes.{Change, root_labels, childless, or_else, is_some}
use Rattle.changes.specs.Marks.{NodeChanges, no_changes, MarkedLabel, MarkedForest, no_marks, marked, ◌⊞◌, mark, unmark_labels, unmark, removed, relabelled, replacing_labels}
use Rattle.changes.specs.Reduced.{reduced_marks, changes_in_order}

-- nodes to which nothing is done
abbrev pub unchanged_labels : List Label → List MarkedLabel
unchanged_labels [] = []
unchanged_labels (r ∷ l) = record { label = r; changes = no_changes } ∷ unchanged_labels l

abbrev pub unchanged : Forest → MarkedForest
unchanged nil = no_marks
unchanged (node r as' k f) = marked r no_changes (unchanged_labels as') (unchanged k) (unchanged f)

abbrev pub deletion : NodeChanges
deletion = record {
  before = nil;
  after = nil;
  first = nil;
  into = nil;
  last = nil;
  attributes = nil;
  deleted = true;
  replaced = None;
  revalued = None;
  content = None;
  renamed = None;
}

-- inserted roots are deleted
abbrev pub taken_out : Forest → MarkedForest
taken_out nil = no_marks
taken_out (node r as' k f) = marked r deletion (unchanged_labels as') (unchanged k) (taken_out f)

abbrev pub labels_taken_out : List Label → List MarkedLabel
labels_taken_out [] = []
labels_taken_out (r ∷ l) = record { label = r; changes = deletion } ∷ labels_taken_out l

-- the old trees of the longest run of removed nodes that a row begins with
abbrev pub removed_run : MarkedForest → Forest
removed_run no_marks = nil
removed_run (marked r a as' k f) = cond (removed a) (node r (unmark_labels as') (unmark k) (removed_run f)) nil

-- the removed attributes, in ascending identifiers as they stood
abbrev pub removed_labels : List MarkedLabel → List Label
removed_labels [] = []
removed_labels (m ∷ l) = cond (removed m.changes) (m.label ∷ removed_labels l) (removed_labels l)

-- the old name or value where there is a new one
abbrev pub old_if_new : Option ℕ → ℕ → Option ℕ
old_if_new None v = None
old_if_new (Some w) v = Some v

-- what is done to a node that stayed: g comes behind it, h before its first child, at among its attributes
abbrev pub undone : Label → NodeChanges → Forest → Forest → Forest → NodeChanges
undone r a g h at = record {
  before = nil;
  after = g;
  first = h;
  into = nil;
  last = nil;
  attributes = at;
  deleted = false;
  replaced = None;
  revalued = old_if_new a.revalued r.value;
  content = None;
  renamed = old_if_new a.renamed r.name;
}

abbrev pub labels_undone : List MarkedLabel → List MarkedLabel
labels_undone [] = []
labels_undone (m ∷ l) =
    cond (removed m.changes) (labels_undone l)
    (record { label = relabelled m.label m.changes; changes = undone m.label m.changes nil nil nil } ∷ labels_undone l)

abbrev pub insert_marked : MarkedLabel → List MarkedLabel → List MarkedLabel
insert_marked x [] = x ∷ []
insert_marked x (y ∷ l) = cond (nat_lt x.label.id y.label.id) (x ∷ y ∷ l) (y ∷ insert_marked x l)

abbrev pub insert_all_marked : List MarkedLabel → List MarkedLabel → List MarkedLabel
insert_all_marked [] l = l
insert_all_marked (x ∷ xs) l = insert_marked x (insert_all_marked xs l)

-- The changed document with the changes that lead back, from the reduced marks of the document before. A run of removed
-- nodes comes back behind the node on its left, or first in the parent; replaced content comes back whole.
abbrev pub inverse_marks : MarkedForest → MarkedForest
inverse_marks no_marks = no_marks
inverse_marks (marked r a as' k f) =
    cond (removed a)
    (taken_out (or_else a.replaced nil) ⊞ (taken_out a.after ⊞ inverse_marks f))
    (marked (relabelled r a)
    (undone r a (removed_run f) (cond (is_some a.content) (unmark k) (removed_run k)) (childless (removed_labels as')))
    (insert_all_marked (labels_taken_out (replacing_labels as' ++ root_labels a.attributes)) (labels_undone as'))
    (cond (is_some a.content) (taken_out (or_else a.content nil)) (taken_out a.first ⊞ inverse_marks k))
    (taken_out a.after ⊞ inverse_marks f))

-- the inverse list of a list on a document
unfoldable pub inverse : Forest → List Change → List Change
inverse d l = changes_in_order (inverse_marks (reduced_marks (mark l d)))
