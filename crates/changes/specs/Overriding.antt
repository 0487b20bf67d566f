-- Which changes of a list are overridden: rule 1 of the reduction, on the list itself.
use Rattle.std.specs.Prelude.{◌≡◌, ℕ, Bool, true, false, cond, ◌&&◌, ◌||◌, List, [], ◌∷◌, Some, None, Option, ◌==◌, nat_lt}
use Rattle.records.specs.declared.operations.Code.{Code}
use Rattle.records.specs.declared.operations.Code.TheVariants.{InsertBefore, InsertAfter, InsertFirst, InsertInto, InsertLast, InsertAttributes, Delete, ReplaceNode, ReplaceValue, ReplaceContent, Rename}
use Rattle.document.specs.Tree.{Forest, nil, node, count, count_labels}
use Rattle.changes.specs.Changes.{Change, same_code, changes_on, first_of, is_some}
use Rattle.changes.specs.Reduced.{unless_empty}
use Rattle.changes.specs.Marks.{NodeChanges, MarkedLabel, MarkedForest, no_marks, marked}

-- whether a list has a change of a code on a node
abbrev pub has_change : Code → ℕ → List Change → Bool
has_change c t l = is_some (first_of c (changes_on t l))

abbrev pub stands_in : ℕ → Forest → Bool
stands_in t f = nat_lt 0 (count t f)

-- a deletion or replacement of a node above overrides, attributes included; replaced content overrides all below the element but its attributes
abbrev pub overridden_from_above : List Change → ℕ → Forest → Bool
overridden_from_above l t nil = false
overridden_from_above l t (node r as' k f) =
    ((has_change Delete r.id l || has_change ReplaceNode r.id l) && (nat_lt 0 (count_labels t as') || stands_in t k))
    || ((has_change ReplaceContent r.id l && stands_in t k)
    || (overridden_from_above l t k || overridden_from_above l t f))

-- By other changes on the target: whether it is deleted, replaced, has its content replaced, was deleted earlier in the list.
-- A deletion overrides all but insertions beside the node and a replacement, a replacement all but insertions beside it,
-- replaced content the insertions into the element, and of equal deletions the first stays.
abbrev pub overridden_on_target : Code → Bool → Bool → Bool → Bool → Bool
overridden_on_target InsertBefore deleted replaced content earlier = false
overridden_on_target InsertAfter deleted replaced content earlier = false
overridden_on_target InsertFirst deleted replaced content earlier = (deleted || replaced) || content
overridden_on_target InsertInto deleted replaced content earlier = (deleted || replaced) || content
overridden_on_target InsertLast deleted replaced content earlier = (deleted || replaced) || content
overridden_on_target InsertAttributes deleted replaced content earlier = deleted || replaced
overridden_on_target Delete deleted replaced content earlier = replaced || earlier
overridden_on_target ReplaceNode deleted replaced content earlier = false
overridden_on_target ReplaceValue deleted replaced content earlier = deleted || replaced
overridden_on_target ReplaceContent deleted replaced content earlier = deleted || replaced
overridden_on_target Rename deleted replaced content earlier = deleted || replaced

-- whether a change of the list l on the document d is overridden; those before it stand in e
abbrev pub overridden : Forest → List Change → List Change → Change → Bool
overridden d l e o =
    overridden_from_above l o.target d
    || overridden_on_target o.code (has_change Delete o.target l) (has_change ReplaceNode o.target l) (has_change ReplaceContent o.target l)
    (has_change Delete o.target e)

-- the changes that are left, of the part of l behind e
abbrev pub left_behind : Forest → List Change → List Change → List Change → List Change
left_behind d l e [] = []
left_behind d l e (o ∷ r) = cond (overridden d l e o) (left_behind d l (o ∷ e) r) (o ∷ left_behind d l (o ∷ e) r)

abbrev pub not_overridden : Forest → List Change → List Change
not_overridden d l = left_behind d l [] l

-- The rules in words.
-- whether t stands below s: among its attributes, or among its children and all below them; or among its children and below them alone
abbrev pub stands_below : ℕ → ℕ → Forest → Bool
stands_below s t nil = false
stands_below s t (node r as' k f) =
    (r.id == s && (nat_lt 0 (count_labels t as') || stands_in t k)) || (stands_below s t k || stands_below s t f)

abbrev pub stands_in_content : ℕ → ℕ → Forest → Bool
stands_in_content s t nil = false
stands_in_content s t (node r as' k f) = (r.id == s && stands_in t k) || (stands_in_content s t k || stands_in_content s t f)

-- changes that a deletion, a replacement or new content of their target overrides
abbrev pub yields_to_deletion : Code → Bool
yields_to_deletion InsertBefore = false
yields_to_deletion InsertAfter = false
yields_to_deletion InsertFirst = true
yields_to_deletion InsertInto = true
yields_to_deletion InsertLast = true
yields_to_deletion InsertAttributes = true
yields_to_deletion Delete = false
yields_to_deletion ReplaceNode = false
yields_to_deletion ReplaceValue = true
yields_to_deletion ReplaceContent = true
yields_to_deletion Rename = true

abbrev pub yields_to_replacement : Code → Bool
yields_to_replacement c = yields_to_deletion c || same_code c Delete

abbrev pub yields_to_content : Code → Bool
yields_to_content c = same_code c InsertFirst || (same_code c InsertInto || same_code c InsertLast)

-- what overrides a change o of the list l on the document d, where e stands before o
pub data OverridingRule (d : Forest) (l e : List Change) (o : Change) : Type 0 where
  deleted_above : (s : ℕ) → has_change Delete s l ≡ true → stands_below s o.target d ≡ true → OverridingRule d l e o
  replaced_above : (s : ℕ) → has_change ReplaceNode s l ≡ true → stands_below s o.target d ≡ true → OverridingRule d l e o
  content_replaced_above : (s : ℕ) → has_change ReplaceContent s l ≡ true → stands_in_content s o.target d ≡ true → OverridingRule d l e o
  target_deleted : has_change Delete o.target l ≡ true → yields_to_deletion o.code ≡ true → OverridingRule d l e o
  target_replaced : has_change ReplaceNode o.target l ≡ true → yields_to_replacement o.code ≡ true → OverridingRule d l e o
  content_replaced : has_change ReplaceContent o.target l ≡ true → yields_to_content o.code ≡ true → OverridingRule d l e o
  deleted_before : has_change Delete o.target e ≡ true → same_code o.code Delete ≡ true → OverridingRule d l e o

-- rule 2 alone, on the marks: a replacement by nothing is a deletion
abbrev pub by_nothing : Option Forest → Bool
by_nothing None = false
by_nothing (Some nil) = true
by_nothing (Some (node r as' k f)) = false

abbrev pub deleted_if_by_nothing : NodeChanges → NodeChanges
deleted_if_by_nothing a = record {
  before = a.before;
  after = a.after;
  first = a.first;
  into = a.into;
  last = a.last;
  attributes = a.attributes;
  deleted = a.deleted || by_nothing a.replaced;
  replaced = unless_empty a.replaced;
  revalued = a.revalued;
  content = a.content;
  renamed = a.renamed;
}

abbrev pub labels_by_nothing : List MarkedLabel → List MarkedLabel
labels_by_nothing [] = []
labels_by_nothing (m ∷ l) = record { label = m.label; changes = deleted_if_by_nothing m.changes } ∷ labels_by_nothing l

abbrev pub empty_replacements_deleted : MarkedForest → MarkedForest
empty_replacements_deleted no_marks = no_marks
empty_replacements_deleted (marked r a as' k f) =
    marked r (deleted_if_by_nothing a) (labels_by_nothing as') (empty_replacements_deleted k) (empty_replacements_deleted f)
