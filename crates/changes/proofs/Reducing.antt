-- The reduced marks do what the marks do.
use Rattle.std.proofs.Common.{◌≡◌, Bool, true, false, cond, not, ◌||◌, List, [], ◌∷◌, Some, None, Option, refl, ap, ◌∙◌, true≢false}
use Rattle.document.specs.Tree.{Forest, nil, node}
use Rattle.changes.specs.Changes.{is_some, or_else, ◌⊕◌}
use Rattle.changes.specs.Marks.{MarkedLabel, kept_labels, removed, relabelled, replacing_labels, MarkedForest, all_stages_at_once, no_marks, marked, NodeChanges, children_after, unmark, unmark_labels}
use Rattle.changes.specs.Reduced.{unless_empty, left_on_labels, without_overridden, before_first, gathered_by_gap, gathered_on_node, cleared_labels, cleared, reduced_marks, left_on_node, left_on_removed, left_on_kept}
use Rattle.changes.proofs.Rows.{⊕-assoc, ⊕-nil}

-- replaced by nothing is deleted
pub goes_still : (o : Option Forest) → (is_some (unless_empty o) || not (is_some (unless_empty o))) ≡ true
goes_still None = refl
goes_still (Some nil) = refl
goes_still (Some (node r as' k f)) = refl

pub empty_or_else : (o : Option Forest) → or_else (unless_empty o) nil ≡ or_else o nil
empty_or_else None = refl
empty_or_else (Some nil) = refl
empty_or_else (Some (node r as' k f)) = refl

pub kept_not_replaced : (o : Option Forest) (d : Bool) → (is_some o || d) ≡ false → or_else o nil ≡ nil
kept_not_replaced None d e = refl
kept_not_replaced (Some x) d e = absurd (true≢false e)

pub left_kept : (l : List MarkedLabel) → kept_labels (left_on_labels l) ≡ kept_labels l
left_kept [] = refl
left_kept (m ∷ l) = go (removed m.changes) refl (left_kept l)
  where
    go : (b : Bool) → removed m.changes ≡ b → kept_labels (left_on_labels l) ≡ kept_labels l → kept_labels (left_on_labels (m ∷ l)) ≡ kept_labels (m ∷ l)
    go true e h = rw (e, goes_still m.changes.replaced) h
    go false e h = rw e (ap (λ x. relabelled m.label m.changes ∷ x) h)

pub left_replacing : (l : List MarkedLabel) → replacing_labels (left_on_labels l) ≡ replacing_labels l
left_replacing [] = refl
left_replacing (m ∷ l) = go (removed m.changes) refl (left_replacing l)
  where
    go : (b : Bool) → removed m.changes ≡ b → replacing_labels (left_on_labels l) ≡ replacing_labels l → replacing_labels (left_on_labels (m ∷ l)) ≡ replacing_labels (m ∷ l)
    go true e h = rw (e, empty_or_else m.changes.replaced, h) refl
    go false e h = rw (e, kept_not_replaced m.changes.replaced m.changes.deleted e) h

-- to drop what is overridden changes nothing
pub without_overridden_same : (m : MarkedForest) → all_stages_at_once (without_overridden m) ≡ all_stages_at_once m
without_overridden_same no_marks = refl
without_overridden_same (marked r a as' k f) = go (removed a) a.content refl refl (without_overridden_same k) (without_overridden_same f)
  where
    go : (b : Bool) (o : Option Forest) → removed a ≡ b → a.content ≡ o → all_stages_at_once (without_overridden k) ≡ all_stages_at_once k
        → all_stages_at_once (without_overridden f) ≡ all_stages_at_once f
        → all_stages_at_once (without_overridden (marked r a as' k f)) ≡ all_stages_at_once (marked r a as' k f)
    go true o e q hk hf = rw (e, goes_still a.replaced, empty_or_else a.replaced, hf)
    go false None e q hk hf = rw (e, q, left_kept as', left_replacing as', hk, hf)
    go false (Some c) e q hk hf = rw (e, q, left_kept as', left_replacing as', hf)

-- to gather the insertions of each gap changes nothing
pub gathered_children : (a : NodeChanges) (g : Forest) (k : MarkedForest)
    → before_first k a.last ⊕ all_stages_at_once (gathered_by_gap k a.last) ≡ all_stages_at_once k ⊕ a.last
    → children_after (gathered_on_node a g (before_first k a.last)) (all_stages_at_once (gathered_by_gap k a.last)) ≡ children_after a (all_stages_at_once k)
gathered_children a g k h = go a.content refl
  where
    go : (o : Option Forest) → a.content ≡ o → children_after (gathered_on_node a g (before_first k a.last)) (all_stages_at_once (gathered_by_gap k a.last))
        ≡ children_after a (all_stages_at_once k)
    go None e = rw e (simp (⊕-assoc, ⊕-nil, h))
    go (Some c) e = rw e

pub gathered_same : (m : MarkedForest) (g : Forest) → before_first m g ⊕ all_stages_at_once (gathered_by_gap m g) ≡ all_stages_at_once m ⊕ g
gathered_same no_marks g = ⊕-nil g
gathered_same (marked r a as' k f) g = rw (gathered_children a (before_first f g) k (gathered_same k a.last)) (simp (⊕-assoc, gathered_same f g))

-- and all stands on the same document
pub cleared_labels_unmark : (l : List MarkedLabel) → unmark_labels (cleared_labels l) ≡ unmark_labels l
cleared_labels_unmark [] = refl
cleared_labels_unmark (m ∷ l) = ap (λ x. m.label ∷ x) (cleared_labels_unmark l)

pub cleared_unmark : (m : MarkedForest) → unmark (cleared m) ≡ unmark m
cleared_unmark no_marks = refl
cleared_unmark (marked r a as' k f) = rw (cleared_labels_unmark as', cleared_unmark k, cleared_unmark f)

pub left_labels_unmark : (l : List MarkedLabel) → unmark_labels (left_on_labels l) ≡ unmark_labels l
left_labels_unmark [] = refl
left_labels_unmark (m ∷ l) = ap (λ x. m.label ∷ x) (left_labels_unmark l)

pub without_overridden_unmark : (m : MarkedForest) → unmark (without_overridden m) ≡ unmark m
without_overridden_unmark no_marks = refl
without_overridden_unmark (marked r a as' k f) = go (removed a) (is_some a.content) refl refl (without_overridden_unmark k) (without_overridden_unmark f)
  where
    go : (b c : Bool) → removed a ≡ b → is_some a.content ≡ c → unmark (without_overridden k) ≡ unmark k → unmark (without_overridden f) ≡ unmark f
        → unmark (without_overridden (marked r a as' k f)) ≡ unmark (marked r a as' k f)
    go true c e q hk hf = rw (e, cleared_labels_unmark as', cleared_unmark k, hf)
    go false false e q hk hf = rw (e, q, left_labels_unmark as', hk, hf)
    go false true e q hk hf = rw (e, q, left_labels_unmark as', cleared_unmark k, hf)

pub gathered_unmark : (m : MarkedForest) (g : Forest) → unmark (gathered_by_gap m g) ≡ unmark m
gathered_unmark no_marks g = refl
gathered_unmark (marked r a as' k f) g = rw (gathered_unmark k a.last, gathered_unmark f g)

pub reduced_unmark : (m : MarkedForest) → unmark (reduced_marks m) ≡ unmark m
reduced_unmark m = gathered_unmark (without_overridden m) nil ∙ without_overridden_unmark m

-- what is dropped is not before a node
pub left_before : (a : NodeChanges) → (left_on_node a).before ≡ a.before
left_before a = go (removed a)
  where
    go : (b : Bool) → (cond b (left_on_removed a) (left_on_kept a)).before ≡ a.before
    go true = refl
    go false = refl

pub left_before_first : (m : MarkedForest) (g : Forest) → before_first (without_overridden m) g ≡ before_first m g
left_before_first no_marks g = refl
left_before_first (marked r a as' k f) g = left_before a

-- a document before whose root nothing is inserted
pub reduced_same_at_root : (m : MarkedForest) → before_first m nil ≡ nil → all_stages_at_once (reduced_marks m) ≡ all_stages_at_once m
reduced_same_at_root m e = (rw (left_before_first m nil ∙ e) at (gathered_same (without_overridden m) nil)) ∙ ⊕-nil (all_stages_at_once (without_overridden m))
    ∙ without_overridden_same m
