-- The inverse marks give no attribute name twice.
use Rattle.std.proofs.Common.{◌≡◌, ℕ, ◌+◌, ◌≤◌, Bool, true, false, cond, ltb, List, [], ◌∷◌, ◌++◌, Some, None, Option, refl, ◌∙◌, arith}
use Rattle.document.specs.Tree.{Label, count_names, Forest, Sound, nil, node}
use Rattle.changes.specs.Changes.{root_labels, childless, or_else, is_some}
use Rattle.changes.specs.Marks.{unmark, unmark_labels, MarkedForest, ◌⊞◌, MarkedLabel, marked, no_marks, removed, replacing_labels, kept_labels, relabelled}
use Rattle.changes.specs.Inverse.{unchanged_labels, unchanged, taken_out, insert_marked, deletion, insert_all_marked, labels_taken_out, inverse_marks, labels_undone, undone, removed_labels, removed_run}
use Rattle.changes.proofs.Inverting.{unmark_unchanged_labels, unmark_insert_all_marked, unmark_labels_taken_out, unmark_labels_undone, root_labels_childless}
use Rattle.changes.proofs.Fitting.{Fit}
use Rattle.changes.proofs.Keeping.{beside_sound, inside_sound}
use Rattle.changes.proofs.Naming.{names_by_labels, Named, count_names-++}
use Rattle.changes.proofs.Sounding.{count_names_inserts, names_balance, instead_sound, content_sound}

unchanged_labels_name : (n : ℕ) (l : List Label) → names_by_labels n (unchanged_labels l) ≡ 0
unchanged_labels_name n [] = refl
unchanged_labels_name n (r ∷ l) = omega (arith, unchanged_labels_name n l)

names_alone : (as' : List Label) → ((n : ℕ) → count_names n as' ≤ 1)
    → (n : ℕ) → count_names n (unmark_labels (unchanged_labels as')) + (0 + names_by_labels n (unchanged_labels as')) ≤ 1
names_alone as' h n = rw (unmark_unchanged_labels as') (omega (arith, h n, unchanged_labels_name n as'))

unchanged_named : (f : Forest) → Sound f → Named (unchanged f)
unchanged_named nil s = tt
unchanged_named (node r as' k f) s = (names_alone as' s.2.2, unchanged_named k s.3, unchanged_named f s.4)

taken_out_named : (f : Forest) (m : MarkedForest) → Sound f → Named m → Named (taken_out f ⊞ m)
taken_out_named nil m s h = h
taken_out_named (node r as' k f) m s h = (names_alone as' s.2.2, unchanged_named k s.3, taken_out_named f m s.4 h)

taken_out_alone_named : (f : Forest) → Sound f → Named (taken_out f)
taken_out_alone_named nil s = tt
taken_out_alone_named (node r as' k f) s = (names_alone as' s.2.2, unchanged_named k s.3, taken_out_alone_named f s.4)

names_insert : (n : ℕ) (x : Label) (l : List MarkedLabel) → names_by_labels n (insert_marked (record { label = x; changes = deletion }) l) ≡ names_by_labels n l
names_insert n x [] = refl
names_insert n x (y ∷ l) = go (ltb x.id y.label.id) (names_insert n x l)
  where
    go : (b : Bool) → names_by_labels n (insert_marked (record { label = x; changes = deletion }) l) ≡ names_by_labels n l
        → names_by_labels n (cond b (record { label = x; changes = deletion } ∷ y ∷ l) (y ∷ insert_marked (record { label = x; changes = deletion }) l))
        ≡ names_by_labels n (y ∷ l)
    go true h = omega arith
    go false h = omega arith

names_taken : (n : ℕ) (xs : List Label) (l : List MarkedLabel) → names_by_labels n (insert_all_marked (labels_taken_out xs) l) ≡ names_by_labels n l
names_taken n [] l = refl
names_taken n (x ∷ xs) l = names_insert n x (insert_all_marked (labels_taken_out xs) l) ∙ names_taken n xs l

pub inverse_named : (m : MarkedForest) → Sound (unmark m) → Fit m → Named m → Named (inverse_marks m)
inverse_named no_marks s h n = tt
inverse_named (marked r a as' k f) s h n = go (removed a) a.content refl (inverse_named k s.3 h.2 n.1) (inverse_named f s.4 h.3 n.2)
  where
    come : List Label
    come = replacing_labels as' ++ root_labels a.attributes

    after_sound : Sound a.after
    after_sound = beside_sound r.kind a.after h.0.after

    own : (i : ℕ) → count_names i (unmark_labels (insert_all_marked (labels_taken_out come) (labels_undone as')))
        + (count_names i (root_labels (childless (removed_labels as'))) + names_by_labels i (insert_all_marked (labels_taken_out come) (labels_undone as'))) ≤ 1
    own i =
        rw (
          unmark_insert_all_marked (labels_taken_out come) (labels_undone as'),
          unmark_labels_taken_out come,
          unmark_labels_undone as',
          root_labels_childless (removed_labels as'),
          names_taken i come (labels_undone as'),
        )
        (omega (arith, count_names_inserts i come (kept_labels as'), count_names-++ i (replacing_labels as') (root_labels a.attributes), names_balance i as', n.0 i))

    go : (b : Bool) (o : Option Forest) → a.content ≡ o → Named (inverse_marks k) → Named (inverse_marks f)
        → Named (cond b (taken_out (or_else a.replaced nil) ⊞ (taken_out a.after ⊞ inverse_marks f))
        (marked (relabelled r a)
        (undone r a (removed_run f) (cond (is_some a.content) (unmark k) (removed_run k)) (childless (removed_labels as')))
        (insert_all_marked (labels_taken_out (replacing_labels as' ++ root_labels a.attributes)) (labels_undone as'))
        (cond (is_some a.content) (taken_out (or_else a.content nil)) (taken_out a.first ⊞ inverse_marks k))
        (taken_out a.after ⊞ inverse_marks f)))
    go true o e qk qf =
        taken_out_named (or_else a.replaced nil) _ (instead_sound r.kind (unmark_labels as') (unmark k) a.replaced s.1 h.0.replaced)
        (taken_out_named a.after (inverse_marks f) after_sound qf)
    go false None e qk qf =
        rw e (
          own,
          taken_out_named a.first (inverse_marks k) (inside_sound r.kind a.first h.0.first) qk,
          taken_out_named a.after (inverse_marks f) after_sound qf,
        )
    go false (Some c) e qk qf =
        rw e (own, taken_out_alone_named c (content_sound r.kind c (rw e at h.0.content)), taken_out_named a.after (inverse_marks f) after_sound qf)
