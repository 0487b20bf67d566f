-- The names that the changes of a marked document give, and so the test on names.
use Rattle.std.proofs.Common.{◌≡◌, ℕ, ◌+◌, ◌≤◌, Bool, true, false, eqb, List, [], ◌∷◌, ◌++◌, Some, None, Option, refl, ◌∙◌, arith}
use Rattle.std.proofs.lemmas.Bool.{eq-eqb, eqb-true, le-ltb}
use Rattle.records.specs.declared.nodes.Kind.{Kind}
use Rattle.records.specs.declared.nodes.Kind.TheVariants.{Attribute, Element, Text}
use Rattle.records.specs.declared.operations.Code.{Code}
use Rattle.records.specs.declared.operations.Code.TheVariants.{InsertAttributes, ReplaceNode, ReplaceContent, InsertBefore, InsertAfter, InsertFirst, InsertInto, InsertLast}
use Rattle.document.specs.Tree.{one, Forest, nil, node, Attributes, count, Label, count_names, count_labels, Holds, Sound, size}
use Rattle.document.proofs.Counting.{one_refl}
use Rattle.document.proofs.Repeats.{count_before}
use Rattle.changes.specs.Changes.{Change, root_labels, or_else, count_nodes, size_nodes}
use Rattle.changes.specs.Marks.{NodeChanges, MarkedLabel, unmark, unmark_labels, MarkedForest, no_marks, marked}
use Rattle.changes.specs.Reduced.{insertion, deletion_of, replacement, new_value, new_name, changes_by_code, label_changes_in_order, changes_in_order, reduced}
use Rattle.changes.specs.Overriding.{stands_in}
use Rattle.changes.specs.Tests.{Found, find, names_by_code, names_on, names_if_attribute, find_label, names_in, FormedChange, SoundRoots, nodes_suit, target_suits, Suits}
use Rattle.changes.proofs.Weighing.{total}
use Rattle.changes.proofs.Fitting.{Fit, FitLabels, Each, each_map}
use Rattle.changes.proofs.Finding.{find_label_itself, find_label_behind, find_itself, find_attribute, find_below, find_behind}
use Rattle.changes.proofs.Passing.{each_sound, all_passed, passed_each}
use Rattle.changes.proofs.Naming.{gives, name_is, names_by_labels, count_names_on, Named, count_before-++, passed_names}
use Rattle.changes.proofs.Suiting.{total-++, FitsHere, RootKept, once_passes, marks_pair, document_fits}

-- the new name of an attribute, as a pair with its element
abbrev renaming : ℕ → Option ℕ → List (ℕ × ℕ)
renaming p None = []
renaming p (Some n) = (p, n) ∷ []

module _ (d : Forest) (k : ℕ × ℕ) (t : ℕ) (x : Found) (e : find t d ≡ Some x) where
  other_insertion : (c : Code) (f : Forest) → ((o : Change) → names_by_code c x o ≡ []) → total (gives d k) (insertion t c f) ≡ 0
  other_insertion c nil h = refl
  other_insertion c (node r as' l f) h = rw (e, h (record { target = t; code = c; nodes = node r as' l f; name = 0; value = 0 }))

  attributes_grant : (f : Forest) → total (gives d k) (insertion t InsertAttributes f) ≡ count_before k (names_on x.element (root_labels f))
  attributes_grant nil = refl
  attributes_grant (node r as' l f) = rw e (omega arith)

  deletion_grants : (b : Bool) → total (gives d k) (deletion_of t b) ≡ 0
  deletion_grants true = rw e
  deletion_grants false = refl

  replacement_grants : (o : Option Forest) → total (gives d k) (replacement t ReplaceNode o)
      ≡ count_before k (names_if_attribute x.kind (names_on x.element (root_labels (or_else o nil))))
  replacement_grants None = nothing x.kind
    where
      nothing : (κ : Kind) → 0 ≡ count_before k (names_if_attribute κ [])
      nothing Element = refl
      nothing Attribute = refl
      nothing Text = refl
  replacement_grants (Some f) = rw e (omega arith)

  value_grants : (o : Option ℕ) → total (gives d k) (new_value t o) ≡ 0
  value_grants None = refl
  value_grants (Some v) = rw e

  content_grants : (o : Option Forest) → total (gives d k) (replacement t ReplaceContent o) ≡ 0
  content_grants None = refl
  content_grants (Some f) = rw e

  name_grants : (o : Option ℕ) → total (gives d k) (new_name t o) ≡ count_before k (names_if_attribute x.kind (renaming x.element o))
  name_grants None = nothing x.kind
    where
      nothing : (κ : Kind) → 0 ≡ count_before k (names_if_attribute κ [])
      nothing Element = refl
      nothing Attribute = refl
      nothing Text = refl
  name_grants (Some n) = rw e (omega arith)

  pub by_code_grant : (a : NodeChanges) → total (gives d k) (changes_by_code t a)
      ≡ count_before k (names_on x.element (root_labels a.attributes))
      + (count_before k (names_if_attribute x.kind (names_on x.element (root_labels (or_else a.replaced nil))))
      + count_before k (names_if_attribute x.kind (renaming x.element a.renamed)))
  by_code_grant a =
      simp total-++ (omega (
        arith,
        other_insertion InsertBefore a.before (λ o. refl),
        other_insertion InsertAfter a.after (λ o. refl),
        other_insertion InsertFirst a.first (λ o. refl),
        other_insertion InsertInto a.into (λ o. refl),
        other_insertion InsertLast a.last (λ o. refl),
        attributes_grant a.attributes,
        deletion_grants a.deleted,
        replacement_grants a.replaced,
        value_grants a.revalued,
        content_grants a.content,
        name_grants a.renamed,
      ))

-- names given on one element, by its attributes
abbrev labels_grant : ℕ × ℕ → ℕ → List MarkedLabel → ℕ
labels_grant k p [] = 0
labels_grant k p (m ∷ l) =
    count_before k (names_on p (root_labels (or_else m.changes.replaced nil))) + (count_before k (renaming p m.changes.renamed) + labels_grant k p l)

-- a name on another element does not count
names_elsewhere : (k : ℕ × ℕ) (p : ℕ) (l : List Label) → eqb p k.0 ≡ false → count_before k (names_on p l) ≡ 0
names_elsewhere k p [] e = refl
names_elsewhere k p (r ∷ l) e = rw (e, names_elsewhere k p l e)

renaming_elsewhere : (k : ℕ × ℕ) (p : ℕ) (o : Option ℕ) → eqb p k.0 ≡ false → count_before k (renaming p o) ≡ 0
renaming_elsewhere k p None e = refl
renaming_elsewhere k p (Some n) e = rw e

grant_elsewhere : (k : ℕ × ℕ) (p : ℕ) (l : List MarkedLabel) → eqb p k.0 ≡ false → labels_grant k p l ≡ 0
grant_elsewhere k p [] e = refl
grant_elsewhere k p (m ∷ l) e =
    omega (arith, names_elsewhere k p (root_labels (or_else m.changes.replaced nil)) e, renaming_elsewhere k p m.changes.renamed e, grant_elsewhere k p l e)

renaming_here : (p n : ℕ) (o : Option ℕ) → count_before (p, n) (renaming p o) ≡ name_is n o
renaming_here p n None = refl
renaming_here p n (Some m) = rw (eq-eqb p p refl) (omega arith)

grant_here : (p n : ℕ) (l : List MarkedLabel) → labels_grant (p, n) p l ≡ names_by_labels n l
grant_here p n [] = refl
grant_here p n (m ∷ l) = omega (arith, count_names_on p n (root_labels (or_else m.changes.replaced nil)), renaming_here p n m.changes.renamed, grant_here p n l)

-- an element and its attributes: at most one, and none under the name of another element
element_grants : (k : ℕ × ℕ) (p : ℕ) (a : NodeChanges) (as' : List MarkedLabel)
    → ((n : ℕ) → count_names n (unmark_labels as') + (count_names n (root_labels a.attributes) + names_by_labels n as') ≤ 1)
    → count_before k (names_on p (unmark_labels as')) + (count_before k (names_on p (root_labels a.attributes)) + labels_grant k p as') ≤ one (eqb p k.0)
element_grants k p a as' h = go (eqb p k.0) refl
  where
    go : (b : Bool) → eqb p k.0 ≡ b
        → count_before k (names_on p (unmark_labels as')) + (count_before k (names_on p (root_labels a.attributes)) + labels_grant k p as') ≤ one (eqb p k.0)
    go true e =
        let i = eqb-true p k.0 e in
        let u : count_before k (names_on p (unmark_labels as')) ≡ count_names k.1 (unmark_labels as') = rw i (count_names_on k.0 k.1 (unmark_labels as')) in
        let v : count_before k (names_on p (root_labels a.attributes)) ≡ count_names k.1 (root_labels a.attributes) =
        rw i (count_names_on k.0 k.1 (root_labels a.attributes)) in
        let w : labels_grant k p as' ≡ names_by_labels k.1 as' = rw i (grant_here k.0 k.1 as') in
        rw e (omega (arith, h k.1))
    go false e = omega (arith, names_elsewhere k p (unmark_labels as') e, names_elsewhere k p (root_labels a.attributes) e, grant_elsewhere k p as' e)

module _ (d : Forest) (k : ℕ × ℕ) where
  labels_granted : (p : ℕ) (l : List MarkedLabel) → Attributes (unmark_labels l) → FitLabels l → ((t : ℕ) → count_labels t (unmark_labels l) ≤ 1)
      → ((t : ℕ) → 1 ≤ count_labels t (unmark_labels l) → find t d ≡ find_label p t (unmark_labels l)) → total (gives d k) (label_changes_in_order l) ≡ labels_grant k p l
  labels_granted p [] s h c g = refl
  labels_granted p (m ∷ l) s h c g =
      let u = by_code_grant d k m.label.id (record { kind = m.label.kind; element = p })
      (g m.label.id (omega (arith, one_refl m.label.id)) ∙ find_label_itself p m.label (unmark_labels l)) m.changes in
      let v = rw s.0 at u in
      let z : count_before k (names_on p (root_labels m.changes.attributes)) ≡ 0 = rw h.0.attributes in
      omega (
        arith,
        total-++ (gives d k) (changes_by_code m.label.id m.changes) (label_changes_in_order l),
        labels_granted p l s.2 h.1 (λ t. omega (arith, c t)) (λ t q. g t (omega arith) ∙ find_label_behind p t m.label (unmark_labels l) (c t) q),
      )

  -- on a node that is no attribute only inserted attributes count
  node_granted : (κ : Kind) (as' : List Label) (f : Forest) (xs ys : List (ℕ × ℕ)) → Holds κ as' f
      → count_before k (names_if_attribute κ xs) + count_before k (names_if_attribute κ ys) ≡ 0
  node_granted Element as' f xs ys h = refl
  node_granted Attribute as' f xs ys h = absurd h
  node_granted Text as' f xs ys h = refl

  pub marks_granted : (m : MarkedForest) → Sound (unmark m) → Fit m → Named m → ((t : ℕ) → count t (unmark m) ≤ 1)
      → ((t : ℕ) → 1 ≤ count t (unmark m) → find t d ≡ find t (unmark m))
      → count_before k (names_in (unmark m)) + total (gives d k) (changes_in_order m) ≤ count k.0 (unmark m)
  marks_granted no_marks s h n c g = omega arith
  marks_granted (marked r a as' l f) s h n c g =
      omega (
        arith,
        count_before-++ k (names_on r.id (unmark_labels as')) (names_in (unmark l) ++ names_in (unmark f)),
        count_before-++ k (names_in (unmark l)) (names_in (unmark f)),
        total-++ (gives d k) (changes_by_code r.id a) (label_changes_in_order as' ++ (changes_in_order l ++ changes_in_order f)),
        total-++ (gives d k) (label_changes_in_order as') (changes_in_order l ++ changes_in_order f),
        total-++ (gives d k) (changes_in_order l) (changes_in_order f),
        by_code_grant d k r.id (record { kind = r.kind; element = r.id }) (g r.id (omega (arith, one_refl r.id))
            ∙ find_itself r (unmark_labels as') (unmark l) (unmark f)) a,
        node_granted r.kind (unmark_labels as') (unmark l) (names_on r.id (root_labels (or_else a.replaced nil))) (renaming r.id a.renamed) s.1,
        labels_granted r.id as' s.2.0 h.1 (λ t. omega (arith, c t)) (λ t q. g t (omega arith) ∙ find_attribute r (unmark_labels as') (unmark l) (unmark f) t (c t) q),
        element_grants k r.id a as' n.0,
        marks_granted l s.3 h.2 n.1 (λ t. omega (arith, c t)) (λ t q. g t (omega arith) ∙ find_below r (unmark_labels as') (unmark l) (unmark f) t (c t) q),
        marks_granted f s.4 h.3 n.2 (λ t. omega (arith, c t)) (λ t q. g t (omega arith) ∙ find_behind r (unmark_labels as') (unmark l) (unmark f) t (c t) q),
      )

-- ALL TESTS on the changes of a marked document
split_each : (d : Forest) (l : List Change) → Each (FitsHere d) l
    → Each (λ o. FormedChange o × SoundRoots o.nodes) l × Each (λ o. nodes_suit o.code o.nodes ≡ true) l × Each (λ o. stands_in o.target d ≡ true) l
    × Each (λ o. target_suits d o ≡ true) l
split_each d l h =
    (each_map (λ o f. (f.formed, f.sound)) l h, each_map (λ o f. f.nodes_fit) l h, each_map (λ o f. f.present) l h, each_map (λ o f. f.target_fits) l h)

pub marks_suit : (room : ℕ) (m : MarkedForest) → Sound (unmark m) → Fit m → Named m → RootKept m
    → ((t : ℕ) → count t (unmark m) + count_nodes t (changes_in_order m) ≤ 1) → reduced (unmark m) (changes_in_order m) ≡ changes_in_order m
    → size (unmark m) + size_nodes (changes_in_order m) ≤ room → Suits room (unmark m) (changes_in_order m)
marks_suit room m s h n q c i fits = record {
  sound = each_sound l u.0;
  distinct = c;
  passes = all_passed room d l (record {
    nodes = passed_each (λ o. nodes_suit o.code o.nodes) [] 0 l u.1;
    present = passed_each (λ o. stands_in o.target d) [] 0 l u.2;
    targets = passed_each (λ o. target_suits d o) [] 0 l u.3;
    once = once_passes [] 0 l (λ t c'. omega (arith, marks_pair t c' m, single t));
    names = passed_names d l [] (names_in d) 0 l (λ k. omega (arith, marks_granted d k m s h n single (λ t p. refl), single k.0));
    room_fits = rw (i, le-ltb room (size d + size_nodes l) fits);
  });
}
  where
    d : Forest
    d = unmark m

    l : List Change
    l = changes_in_order m

    single : (t : ℕ) → count t (unmark m) ≤ 1
    single t = omega (arith, c t)

    u : Each (λ o. FormedChange o × SoundRoots o.nodes) l × Each (λ o. nodes_suit o.code o.nodes ≡ true) l × Each (λ o. stands_in o.target d ≡ true) l
        × Each (λ o. target_suits d o ≡ true) l
    u = split_each d l (document_fits m s single h q)
