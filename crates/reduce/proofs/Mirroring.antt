-- The reduced list of the definition is the one that is read off node by node.
use Rattle.std.proofs.Common.{◌≡◌, ℕ, Bool, true, false, cond, not, ◌||◌, List, [], ◌∷◌, ◌++◌, Option, sym, refl, ap, ◌∙◌, ap₂, true≢false, append_assoc, arith}
use Rattle.records.specs.declared.nodes.Kind.TheVariants.{Attribute}
use Rattle.records.specs.declared.operations.Code.{Code}
use Rattle.records.specs.declared.operations.Code.TheVariants.{InsertBefore, InsertAfter, InsertFirst, InsertInto, InsertLast, InsertAttributes, Delete, ReplaceNode, ReplaceValue, ReplaceContent, Rename}
use Rattle.document.specs.Tree.{Label, Forest, nil, node}
use Rattle.changes.specs.Changes.{Change, ◌⊕◌, same_code, changes_on, joined_nodes, first_of, nodes_given, value_given, name_given, is_some}
use Rattle.changes.specs.Marks.{NodeChanges, MarkedLabel, MarkedForest, no_marks, marked, node_changes, mark_labels, mark, removed}
use Rattle.changes.specs.Reduced.{cleared_labels, cleared, unless_empty, left_on_removed, left_on_kept, left_on_node, left_on_labels, without_overridden, before_first, gathered_on_node, gathered_by_gap, insertion, deletion_of, replacement, new_value, new_name, changes_by_code, label_changes_in_order, changes_in_order, reduced}
use Rattle.changes.specs.Overriding.{has_change}
use Rattle.changes.specs.Tests.{is_empty}
use Rattle.changes.proofs.Fitting.{Fitting, FitLabels, Fit}
use Rattle.reduce.specs.Mirror.{group, goes, cuts, given_if, left_on_attributes, gap, left_on, reduced_row}

-- no change of a code, no nodes of it
pub joined_none : (c : Code) (l : List Change) → is_some (first_of c l) ≡ false → joined_nodes c l ≡ nil
joined_none c [] h = refl
joined_none c (o ∷ l) h = go (same_code o.code c) refl (joined_none c l)
  where
    go : (b : Bool) → same_code o.code c ≡ b → (is_some (first_of c l) ≡ false → joined_nodes c l ≡ nil) → joined_nodes c (o ∷ l) ≡ nil
    go true e k = absurd (true≢false (rw e at h))
    go false e k = rw e (k (rw e at h))

-- what is cleared leaves nothing
no_label_changes : (l : List MarkedLabel) → label_changes_in_order (cleared_labels l) ≡ []
no_label_changes [] = refl
no_label_changes (m ∷ l) = no_label_changes l

before_cleared : (m : MarkedForest) → before_first (cleared m) nil ≡ nil
before_cleared no_marks = refl
before_cleared (marked r a as' k f) = refl

no_changes_left : (m : MarkedForest) → changes_in_order (gathered_by_gap (cleared m) nil) ≡ []
no_changes_left no_marks = refl
no_changes_left (marked r a as' k f) = rw (before_cleared f, before_cleared k, no_label_changes as', no_changes_left k, no_changes_left f)

departs : (t : ℕ) (b : Bool) (f : Forest) → (b ≡ false → f ≡ nil)
    → deletion_of t (not (is_some (unless_empty (given_if b f)))) ++ (replacement t ReplaceNode (unless_empty (given_if b f)) ++ []) ≡ deletion_of t (is_empty f) ++ insertion t ReplaceNode f
departs t true nil h = refl
departs t true (node r as' k f) h = refl
departs t false nil h = refl
departs t false (node r as' k f) h = let q : node r as' k f ≡ nil = h refl in absurd (let z : ◌≡◌ {A = ℕ} 0 1 = cc in omega arith)

left_before : (a : NodeChanges) → (left_on_node a).before ≡ a.before
left_before a = go (removed a)
  where
    go : (b : Bool) → (cond b (left_on_removed a) (left_on_kept a)).before ≡ a.before
    go true = refl
    go false = refl

gap_is : (l : List Change) (p : ℕ) (f : Forest) → before_first (without_overridden (mark l f)) (group l p InsertLast) ≡ gap l p f
gap_is l p nil = refl
gap_is l p (node r as' k f) = left_before (node_changes (changes_on r.id l))

-- the changes on one node, replacement and content given by their groups
abbrev with_groups : (be af fi in' la at : Forest) (deleted replaced : Bool) (f : Forest) (rv : Option ℕ) (content : Bool) (c : Forest) (rn : Option ℕ) → NodeChanges
with_groups be af fi in' la at b17 b18 f rv b20 c rn = record {
  before = be;
  after = af;
  first = fi;
  into = in';
  last = la;
  attributes = at;
  deleted = b17;
  replaced = given_if b18 f;
  revalued = rv;
  content = given_if b20 c;
  renamed = rn;
}

label_step : (t : ℕ) (b17 b18 : Bool) (f : Forest) (rv rn : Option ℕ) → (b18 ≡ false → f ≡ nil)
    → changes_by_code t (left_on_node (with_groups nil nil nil nil nil nil b17 b18 f rv false nil rn))
    ≡ cond (b18 || b17) (deletion_of t (is_empty f) ++ insertion t ReplaceNode f) (new_value t rv ++ new_name t rn)
label_step t b17 true f rv rn h = departs t true f h
label_step t true false f rv rn h = departs t false f h
label_step t false false f rv rn h = refl

-- what the tests make sure of: a replacement and new content come once on a target
pub record Single (l : List Change) : Type 0 where
  pub replaced : (t : ℕ) → nodes_given (first_of ReplaceNode (changes_on t l)) ≡ given_if (has_change ReplaceNode t l) (group l t ReplaceNode)
  pub content : (t : ℕ) → nodes_given (first_of ReplaceContent (changes_on t l)) ≡ given_if (has_change ReplaceContent t l) (group l t ReplaceContent)

module _ (l : List Change) (single : Single l) where
  attributes_are : (rs : List Label) → FitLabels (mark_labels l rs) → label_changes_in_order (left_on_labels (mark_labels l rs)) ≡ left_on_attributes l rs
  attributes_are [] h = refl
  attributes_are (r ∷ rs) h =
      let q : List Change = changes_on r.id l in
      let w : Fitting Attribute (node_changes q) = h.0 in
      let e : node_changes q ≡ with_groups nil nil nil nil nil nil (is_some (first_of Delete q)) (is_some (first_of ReplaceNode q)) (joined_nodes ReplaceNode q) (value_given (first_of ReplaceValue q)) false nil (name_given (first_of Rename q)) =
      (let e1 = w.before in let e2 = w.after in let e3 = w.first in let e4 = w.into in let e5 = w.last in let e6 = w.attributes in let e7 = w.content in let e8 = single.replaced r.id in
      rw (e1, e2, e3, e4, e5, e6, e7, e8)) in
      ap₂ (λ (x y : List Change). x ++ y)
      (ap (λ (a : NodeChanges). changes_by_code r.id (left_on_node a)) e
      ∙ label_step r.id (is_some (first_of Delete q)) (is_some (first_of ReplaceNode q)) (joined_nodes ReplaceNode q) (value_given (first_of ReplaceValue q)) (name_given (first_of Rename q)) (joined_none ReplaceNode q))
      (attributes_are rs h.1)

module _ (t : ℕ) (be af fi in' la at : Forest) where
  node_step : (b17 b18 : Bool) (f : Forest) (rv : Option ℕ) (b20 : Bool) (c : Forest) (rn : Option ℕ) (g h : Forest) (m : MarkedForest) (ms : List MarkedLabel) (as' ks rs : List Change)
      → (b18 ≡ false → f ≡ nil) → label_changes_in_order (left_on_labels ms) ≡ as' → before_first (without_overridden m) la ≡ h → changes_in_order (gathered_by_gap (without_overridden m) la) ≡ ks
      → let a : NodeChanges = with_groups be af fi in' la at b17 b18 f rv b20 c rn in
      changes_by_code t (gathered_on_node (left_on_node a) g (before_first (cond (removed a || is_some a.content) (cleared m) (without_overridden m)) (left_on_node a).last))
      ++ (label_changes_in_order (cond (removed a) (cleared_labels ms) (left_on_labels ms))
      ++ (changes_in_order (gathered_by_gap (cond (removed a || is_some a.content) (cleared m) (without_overridden m)) (left_on_node a).last) ++ rs))
      ≡ (insertion t InsertAfter (af ⊕ g) ++ cond (b18 || b17) (deletion_of t (is_empty f) ++ insertion t ReplaceNode f)
      (cond b20 [] (insertion t InsertFirst (fi ⊕ (in' ⊕ h))) ++ (insertion t InsertAttributes at ++ (new_value t rv ++ (replacement t ReplaceContent (given_if b20 c) ++ new_name t rn)))))
      ++ (cond (b18 || b17) [] as' ++ (cond ((b18 || b17) || b20) [] ks ++ rs))
  node_step b17 true f rv b20 c rn g h m ms as' ks rs z ea eh ek = rw (before_cleared m, no_label_changes ms, no_changes_left m, departs t true f z)
  node_step true false f rv b20 c rn g h m ms as' ks rs z ea eh ek = rw (before_cleared m, no_label_changes ms, no_changes_left m, departs t false f z)
  node_step false false f rv true c rn g h m ms as' ks rs z ea eh ek = rw (before_cleared m, ea, no_changes_left m)
  node_step false false f rv false c rn g h m ms as' ks rs z ea eh ek = rw (eh, ea, ek)

module _ (l : List Change) (single : Single l) where
  row_is : (p : ℕ) (f : Forest) → Fit (mark l f) → changes_in_order (gathered_by_gap (without_overridden (mark l f)) (group l p InsertLast)) ≡ reduced_row l p f
  row_is p nil h = refl
  row_is p (node r as' k f) h =
      let q : List Change = changes_on r.id l in
      let i1 : changes_in_order (gathered_by_gap (without_overridden (mark l k)) (group l r.id InsertLast)) ≡ reduced_row l r.id k = row_is r.id k h.2 in
      let i2 : changes_in_order (gathered_by_gap (without_overridden (mark l f)) (group l p InsertLast)) ≡ reduced_row l p f = row_is p f h.3 in
      let e : node_changes q ≡ with_groups (joined_nodes InsertBefore q) (joined_nodes InsertAfter q) (joined_nodes InsertFirst q) (joined_nodes InsertInto q) (joined_nodes InsertLast q) (joined_nodes InsertAttributes q)
      (is_some (first_of Delete q)) (is_some (first_of ReplaceNode q)) (joined_nodes ReplaceNode q) (value_given (first_of ReplaceValue q)) (is_some (first_of ReplaceContent q)) (joined_nodes ReplaceContent q) (name_given (first_of Rename q)) =
      (let e1 = single.replaced r.id in let e2 = single.content r.id in rw (e1, e2)) in
      let L : List Change = left_on l r.id (gap l p f) (gap l r.id k) in
      let A : List Change = cond (goes l r.id) [] (left_on_attributes l as') in
      let K : List Change = cond (cuts l r.id) [] (reduced_row l r.id k) in
      let u : changes_in_order (gathered_by_gap (without_overridden (mark l (node r as' k f))) (group l p InsertLast)) ≡ L ++ (A ++ (K ++ reduced_row l p f)) =
      ap (λ (a : NodeChanges). changes_in_order (gathered_by_gap (without_overridden (marked r a (mark_labels l as') (mark l k) (mark l f))) (group l p InsertLast))) e
      ∙ rw (gap_is l p f, i2) (node_step r.id (joined_nodes InsertBefore q) (joined_nodes InsertAfter q) (joined_nodes InsertFirst q) (joined_nodes InsertInto q) (joined_nodes InsertLast q) (joined_nodes InsertAttributes q)
      (is_some (first_of Delete q)) (is_some (first_of ReplaceNode q)) (joined_nodes ReplaceNode q) (value_given (first_of ReplaceValue q)) (is_some (first_of ReplaceContent q)) (joined_nodes ReplaceContent q) (name_given (first_of Rename q))
      (gap l p f) (gap l r.id k) (mark l k) (mark_labels l as') (left_on_attributes l as') (reduced_row l r.id k) (reduced_row l p f)
      (joined_none ReplaceNode q) (attributes_are l single as' h.1) (gap_is l r.id k) i1) in
      u ∙ sym (append_assoc L A (K ++ reduced_row l p f))

  -- nothing is inserted into no node
  pub mirrored : (d : Forest) → changes_on 0 l ≡ [] → Fit (mark l d) → reduced d l ≡ reduced_row l 0 d
  unfolding reduced
  mirrored d z h = ap (λ (q : List Change). changes_in_order (gathered_by_gap (without_overridden (mark l d)) (joined_nodes InsertLast q))) (sym z) ∙ row_is 0 d h
