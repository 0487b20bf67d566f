-- Reduced marks are reduced already, and so are the inverse marks.
use Rattle.std.proofs.Common.{◌≡◌, Bool, true, false, ltb, List, [], ◌∷◌, ◌++◌, Some, None, Option, refl, ap, ◌∙◌}
use Rattle.document.specs.Tree.{Label, Forest, nil, node}
use Rattle.changes.specs.Changes.{root_labels, or_else}
use Rattle.changes.specs.Marks.{MarkedLabel, MarkedForest, no_marks, marked, NodeChanges, removed, ◌⊞◌, replacing_labels}
use Rattle.changes.specs.Reduced.{cleared_labels, cleared, before_first, gathered_by_gap, unless_empty, left_on_node, left_on_labels, without_overridden, reduced_marks}
use Rattle.changes.specs.Inverse.{unchanged_labels, unchanged, taken_out, insert_marked, insert_all_marked, labels_taken_out, deletion, labels_undone, inverse_marks}
use Rattle.changes.proofs.Rows.{⊕-nil}
use Rattle.changes.proofs.Reducing.{goes_still}
use Rattle.changes.proofs.Inverting.{Gathered, gathered_all}

cleared_labels_again : (l : List MarkedLabel) → cleared_labels (cleared_labels l) ≡ cleared_labels l
cleared_labels_again [] = refl
cleared_labels_again (m ∷ l) = rw (cleared_labels_again l)

pub cleared_again : (m : MarkedForest) → cleared (cleared m) ≡ cleared m
cleared_again no_marks = refl
cleared_again (marked r a as' k f) = rw (cleared_labels_again as', cleared_again k, cleared_again f)

pub before_cleared : (m : MarkedForest) → before_first (cleared m) nil ≡ nil
before_cleared no_marks = refl
before_cleared (marked r a as' k f) = refl

pub gathered_cleared : (m : MarkedForest) → gathered_by_gap (cleared m) nil ≡ cleared m
gathered_cleared no_marks = refl
gathered_cleared (marked r a as' k f) = rw (before_cleared k, before_cleared f, gathered_cleared k, gathered_cleared f)

unless_empty_again : (o : Option Forest) → unless_empty (unless_empty o) ≡ unless_empty o
unless_empty_again None = refl
unless_empty_again (Some nil) = refl
unless_empty_again (Some (node r as' k f)) = refl

left_again : (a : NodeChanges) → left_on_node (left_on_node a) ≡ left_on_node a
left_again a = go (removed a) a.content refl refl
  where
    go : (b : Bool) (o : Option Forest) → removed a ≡ b → a.content ≡ o → left_on_node (left_on_node a) ≡ left_on_node a
    go true o e q = rw (e, goes_still a.replaced, unless_empty_again a.replaced)
    go false None e q = rw (e, q)
    go false (Some c) e q = rw (e, q)

left_labels_again : (l : List MarkedLabel) → left_on_labels (left_on_labels l) ≡ left_on_labels l
left_labels_again [] = refl
left_labels_again (m ∷ l) = rw (left_again m.changes, left_labels_again l)

-- dropping after gathering drops nothing more
pub settled : (m : MarkedForest) (g : Forest) → without_overridden (gathered_by_gap (without_overridden m) g) ≡ gathered_by_gap (without_overridden m) g
settled no_marks g = refl
settled (marked r a as' k f) g = go (removed a) a.content refl refl (settled k a.last) (settled f g)
  where
    go : (b : Bool) (o : Option Forest) → removed a ≡ b → a.content ≡ o
        → without_overridden (gathered_by_gap (without_overridden k) a.last) ≡ gathered_by_gap (without_overridden k) a.last
        → without_overridden (gathered_by_gap (without_overridden f) g) ≡ gathered_by_gap (without_overridden f) g
        → without_overridden (gathered_by_gap (without_overridden (marked r a as' k f)) g) ≡ gathered_by_gap (without_overridden (marked r a as' k f)) g
    go true o e q hk hf =
        rw (e, before_cleared k, gathered_cleared k, goes_still a.replaced, unless_empty_again a.replaced, cleared_labels_again as', cleared_again k, hf)
    go false None e q hk hf = rw (e, q, left_labels_again as', hk, hf)
    go false (Some c) e q hk hf = rw (e, q, before_cleared k, gathered_cleared k, left_labels_again as', cleared_again k, hf)

-- gathering what is gathered moves nothing
before_gathered : (m : MarkedForest) → Gathered m → before_first m nil ≡ nil
before_gathered no_marks h = refl
before_gathered (marked r a as' k f) h = h.0.0

pub gathered_fixed : (m : MarkedForest) → Gathered m → gathered_by_gap m nil ≡ m
gathered_fixed no_marks h = refl
gathered_fixed (marked r a as' k f) h =
    rw (h.0.0, h.0.1, h.0.2, before_gathered k h.1, before_gathered f h.2, gathered_fixed k h.1, gathered_fixed f h.2, ⊕-nil a.after, ⊕-nil a.first)

pub reduced_again : (m : MarkedForest) → reduced_marks (reduced_marks m) ≡ reduced_marks m
reduced_again m = ap (λ x. gathered_by_gap x nil) (settled m nil) ∙ gathered_fixed (reduced_marks m) (gathered_all (without_overridden m) nil)

-- THE INVERSE MARKS
cleared_unchanged_labels : (l : List Label) → cleared_labels (unchanged_labels l) ≡ unchanged_labels l
cleared_unchanged_labels [] = refl
cleared_unchanged_labels (r ∷ l) = rw (cleared_unchanged_labels l)

cleared_unchanged : (f : Forest) → cleared (unchanged f) ≡ unchanged f
cleared_unchanged nil = refl
cleared_unchanged (node r as' k f) = rw (cleared_unchanged_labels as', cleared_unchanged k, cleared_unchanged f)

taken_out_settled : (f : Forest) (m : MarkedForest) → without_overridden (taken_out f ⊞ m) ≡ taken_out f ⊞ without_overridden m
taken_out_settled nil m = refl
taken_out_settled (node r as' k f) m = rw (cleared_unchanged_labels as', cleared_unchanged k, taken_out_settled f m)

taken_out_alone : (f : Forest) → without_overridden (taken_out f) ≡ taken_out f
taken_out_alone nil = refl
taken_out_alone (node r as' k f) = rw (cleared_unchanged_labels as', cleared_unchanged k, taken_out_alone f)

left_insert : (x : MarkedLabel) (l : List MarkedLabel) → left_on_node x.changes ≡ x.changes → left_on_labels (insert_marked x l) ≡ insert_marked x (left_on_labels l)
left_insert x [] e = rw e
left_insert x (y ∷ l) e = go (ltb x.label.id y.label.id) refl (left_insert x l e)
  where
    go : (b : Bool) → ltb x.label.id y.label.id ≡ b → left_on_labels (insert_marked x l) ≡ insert_marked x (left_on_labels l)
        → left_on_labels (insert_marked x (y ∷ l)) ≡ insert_marked x (left_on_labels (y ∷ l))
    go true q k = rw (q, e)
    go false q k = rw (q, k)

left_taken : (xs : List Label) (l : List MarkedLabel) → left_on_labels (insert_all_marked (labels_taken_out xs) l) ≡ insert_all_marked (labels_taken_out xs) (left_on_labels l)
left_taken [] l = refl
left_taken (x ∷ xs) l =
    left_insert (record { label = x; changes = deletion }) (insert_all_marked (labels_taken_out xs) l) refl
    ∙ ap (insert_marked (record { label = x; changes = deletion })) (left_taken xs l)

left_undone : (l : List MarkedLabel) → left_on_labels (labels_undone l) ≡ labels_undone l
left_undone [] = refl
left_undone (m ∷ l) = go (removed m.changes) refl (left_undone l)
  where
    go : (b : Bool) → removed m.changes ≡ b → left_on_labels (labels_undone l) ≡ labels_undone l → left_on_labels (labels_undone (m ∷ l)) ≡ labels_undone (m ∷ l)
    go true e h = rw e h
    go false e h = rw (e, h)

pub inverse_settled : (m : MarkedForest) → without_overridden (inverse_marks m) ≡ inverse_marks m
inverse_settled no_marks = refl
inverse_settled (marked r a as' k f) = go (removed a) a.content refl refl (inverse_settled k) (inverse_settled f)
  where
    labels : left_on_labels (insert_all_marked (labels_taken_out (replacing_labels as' ++ root_labels a.attributes)) (labels_undone as'))
        ≡ insert_all_marked (labels_taken_out (replacing_labels as' ++ root_labels a.attributes)) (labels_undone as')
    labels = left_taken (replacing_labels as' ++ root_labels a.attributes) (labels_undone as')
        ∙ ap (insert_all_marked (labels_taken_out (replacing_labels as' ++ root_labels a.attributes))) (left_undone as')

    go : (b : Bool) (o : Option Forest) → removed a ≡ b → a.content ≡ o → without_overridden (inverse_marks k) ≡ inverse_marks k
        → without_overridden (inverse_marks f) ≡ inverse_marks f → without_overridden (inverse_marks (marked r a as' k f)) ≡ inverse_marks (marked r a as' k f)
    go true o e q hk hf =
        rw (e, taken_out_settled (or_else a.replaced nil) (taken_out a.after ⊞ inverse_marks f), taken_out_settled a.after (inverse_marks f), hf)
    go false None e q hk hf = rw (e, q, labels, taken_out_settled a.first (inverse_marks k), taken_out_settled a.after (inverse_marks f), hk, hf)
    go false (Some c) e q hk hf = rw (e, q, labels, taken_out_alone c, taken_out_settled a.after (inverse_marks f), hf)

gathered_unchanged : (f : Forest) → Gathered (unchanged f)
gathered_unchanged nil = tt
gathered_unchanged (node r as' k f) = ((refl, refl, refl), gathered_unchanged k, gathered_unchanged f)

gathered_taken_out : (f : Forest) → Gathered (taken_out f)
gathered_taken_out nil = tt
gathered_taken_out (node r as' k f) = ((refl, refl, refl), gathered_unchanged k, gathered_taken_out f)

gathered-⊞ : (m n : MarkedForest) → Gathered m → Gathered n → Gathered (m ⊞ n)
gathered-⊞ no_marks n p q = q
gathered-⊞ (marked r a as' k f) n p q = (p.0, p.1, gathered-⊞ f n p.2 q)

pub inverse_gathered : (m : MarkedForest) → Gathered (inverse_marks m)
inverse_gathered no_marks = tt
inverse_gathered (marked r a as' k f) = go (removed a) a.content refl refl (inverse_gathered k) (inverse_gathered f)
  where
    go : (b : Bool) (o : Option Forest) → removed a ≡ b → a.content ≡ o → Gathered (inverse_marks k) → Gathered (inverse_marks f)
        → Gathered (inverse_marks (marked r a as' k f))
    go true o e q hk hf =
        rw e (gathered-⊞ (taken_out (or_else a.replaced nil)) _ (gathered_taken_out (or_else a.replaced nil)) (gathered-⊞ (taken_out a.after) _ (gathered_taken_out a.after) hf))
    go false None e q hk hf =
        rw (e, q) (
          (refl, refl, refl),
          gathered-⊞ (taken_out a.first) _ (gathered_taken_out a.first) hk,
          gathered-⊞ (taken_out a.after) _ (gathered_taken_out a.after) hf,
        )
    go false (Some c) e q hk hf =
        rw (e, q) ((refl, refl, refl), gathered_taken_out c, gathered-⊞ (taken_out a.after) _ (gathered_taken_out a.after) hf)

pub inverse_reduced : (m : MarkedForest) → reduced_marks (inverse_marks m) ≡ inverse_marks m
inverse_reduced m = ap (λ x. gathered_by_gap x nil) (inverse_settled m) ∙ gathered_fixed (inverse_marks m) (inverse_gathered m)
