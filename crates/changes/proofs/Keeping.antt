-- Reduced and inverse marks fit their nodes where the marks do.
use Rattle.std.proofs.Common.{◌≡◌, ℕ, Bool, true, false, cond, ◌||◌, eqb, ltb, List, [], ◌∷◌, ◌++◌, Some, None, Option, refl, arith}
use Rattle.std.proofs.lemmas.Bool.{and_parts}
use Rattle.records.specs.Formed.{fields_suit_kind}
use Rattle.records.specs.declared.nodes.Kind.{Kind}
use Rattle.records.specs.declared.nodes.Kind.TheVariants.{Element, Attribute, Text}
use Rattle.document.specs.Tree.{nil, Forest, Sound, Label, Holds, node, Attributes, Formed}
use Rattle.changes.specs.Changes.{is_some, ◌⊕◌, childless, or_else, root_labels}
use Rattle.changes.specs.Marks.{no_changes, NodeChanges, removed, MarkedLabel, MarkedForest, no_marks, marked, unmark, unmark_labels, ◌⊞◌, relabelled, replacing_labels}
use Rattle.changes.specs.Reduced.{unless_empty, left_on_node, left_on_removed, left_on_kept, cleared_labels, cleared, left_on_labels, without_overridden, before_first, gathered_by_gap, reduced_marks}
use Rattle.changes.specs.Inverse.{removed_run, removed_labels, old_if_new, undone, deletion, unchanged, unchanged_labels, taken_out, insert_marked, insert_all_marked, labels_taken_out, labels_undone, inverse_marks}
use Rattle.changes.proofs.Reducing.{without_overridden_unmark}
use Rattle.changes.proofs.Fitting.{Fit, Fitting, beside_nil, inside_nil, among_nil, revalued_none, content_none, renamed_none, Beside, Inside, Given, Instead, FitLabels, beside-⊕, inside-⊕, AttributeRow, Renamed, Revalued, Among, Content}

pub no_changes_fit : (κ : Kind) → Fitting κ no_changes
no_changes_fit κ = record {
  before = beside_nil κ;
  after = beside_nil κ;
  first = inside_nil κ;
  into = inside_nil κ;
  last = inside_nil κ;
  attributes = among_nil κ;
  replaced = tt;
  revalued = revalued_none κ;
  content = content_none κ;
  renamed = renamed_none κ;
}

pub beside_sound : (κ : Kind) (f : Forest) → Beside κ f → Sound f
beside_sound Element f h = h
beside_sound Attribute f h = rw h tt
beside_sound Text f h = h

pub inside_sound : (κ : Kind) (f : Forest) → Inside κ f → Sound f
inside_sound Element f h = h
inside_sound Attribute f h = rw h tt
inside_sound Text f h = rw h tt

pub sound_beside : (κ : Kind) (as' : List Label) (k f : Forest) → Holds κ as' k → Sound f → Beside κ f
sound_beside Element as' k f h s = s
sound_beside Attribute as' k f h s = absurd h
sound_beside Text as' k f h s = s

-- WHAT IS LEFT
unless_empty_given : (P : Forest → Type 0) (o : Option Forest) → Given P o → Given P (unless_empty o)
unless_empty_given P None h = tt
unless_empty_given P (Some nil) h = tt
unless_empty_given P (Some (node r as' k f)) h = h

inside_unless : (κ : Kind) (b : Bool) (f : Forest) → Inside κ f → Inside κ (cond b nil f)
inside_unless κ true f h = inside_nil κ
inside_unless κ false f h = h

left_fits : (κ : Kind) (a : NodeChanges) → Fitting κ a → Fitting κ (left_on_node a)
left_fits κ a h = go (removed a)
  where
    go : (b : Bool) → Fitting κ (cond b (left_on_removed a) (left_on_kept a))
    go true = record {
      before = h.before;
      after = h.after;
      first = inside_nil κ;
      into = inside_nil κ;
      last = inside_nil κ;
      attributes = among_nil κ;
      replaced = unless_empty_given (Instead κ) a.replaced h.replaced;
      revalued = revalued_none κ;
      content = content_none κ;
      renamed = renamed_none κ;
    }
    go false = record {
      before = h.before;
      after = h.after;
      first = inside_unless κ (is_some a.content) a.first h.first;
      into = inside_unless κ (is_some a.content) a.into h.into;
      last = inside_unless κ (is_some a.content) a.last h.last;
      attributes = h.attributes;
      replaced = tt;
      revalued = h.revalued;
      content = h.content;
      renamed = h.renamed;
    }

cleared_labels_fit : (l : List MarkedLabel) → FitLabels (cleared_labels l)
cleared_labels_fit [] = tt
cleared_labels_fit (m ∷ l) = (no_changes_fit Attribute, cleared_labels_fit l)

cleared_fit : (m : MarkedForest) → Fit (cleared m)
cleared_fit no_marks = tt
cleared_fit (marked r a as' k f) = (no_changes_fit r.kind, cleared_labels_fit as', cleared_fit k, cleared_fit f)

left_labels_fit : (l : List MarkedLabel) → FitLabels l → FitLabels (left_on_labels l)
left_labels_fit [] h = tt
left_labels_fit (m ∷ l) h = (left_fits Attribute m.changes h.0, left_labels_fit l h.1)

pub without_overridden_fit : (m : MarkedForest) → Fit m → Fit (without_overridden m)
without_overridden_fit no_marks h = tt
without_overridden_fit (marked r a as' k f) h =
    (left_fits r.kind a h.0, labels (removed a), below (removed a || is_some a.content) (without_overridden_fit k h.2), without_overridden_fit f h.3)
  where
    labels : (b : Bool) → FitLabels (cond b (cleared_labels as') (left_on_labels as'))
    labels true = cleared_labels_fit as'
    labels false = left_labels_fit as' h.1

    below : (b : Bool) → Fit (without_overridden k) → Fit (cond b (cleared k) (without_overridden k))
    below true q = cleared_fit k
    below false q = q

-- WHAT IS GATHERED
pub unmark_nil : (k : MarkedForest) → unmark k ≡ nil → k ≡ no_marks
unmark_nil no_marks e = refl
unmark_nil (marked r a as' k f) e = let z : ◌≡◌ {A = ℕ} 0 1 = cc in absurd (omega arith)

pub unmark_labels_nil : (l : List MarkedLabel) → unmark_labels l ≡ [] → l ≡ []
unmark_labels_nil [] e = refl
unmark_labels_nil (m ∷ l) e = let z : ◌≡◌ {A = ℕ} 0 1 = cc in absurd (omega arith)

before_first_sound : (m : MarkedForest) (g : Forest) → Fit m → Sound g → Sound (before_first m g)
before_first_sound no_marks g h s = s
before_first_sound (marked r a as' k f) g h s = beside_sound r.kind a.before h.0.before

before_first_inside : (κ : Kind) (as' : List Label) (k : MarkedForest) (g : Forest) → Holds κ as' (unmark k) → Fit k → Inside κ g → Inside κ (before_first k g)
before_first_inside Element as' k g h q s = before_first_sound k g q s
before_first_inside Attribute as' k g h q s = absurd h
before_first_inside Text as' k g h q s = rw (unmark_nil k h.1) s

pub gathered_fit : (m : MarkedForest) (g : Forest) → Sound (unmark m) → Fit m → Sound g → Fit (gathered_by_gap m g)
gathered_fit no_marks g s h q = tt
gathered_fit (marked r a as' k f) g s h q = (
  record {
    before = beside_nil r.kind;
    after = beside-⊕ r.kind a.after (before_first f g) h.0.after
        (sound_beside r.kind (unmark_labels as') (unmark k) (before_first f g) s.1 (before_first_sound f g h.3 q));
    first = inside-⊕ r.kind a.first (a.into ⊕ before_first k a.last) h.0.first
        (inside-⊕ r.kind a.into (before_first k a.last) h.0.into (before_first_inside r.kind (unmark_labels as') k a.last s.1 h.2 h.0.last));
    into = inside_nil r.kind;
    last = inside_nil r.kind;
    attributes = h.0.attributes;
    replaced = h.0.replaced;
    revalued = h.0.revalued;
    content = h.0.content;
    renamed = h.0.renamed;
  },
  h.1,
  gathered_fit k a.last s.3 h.2 (inside_sound r.kind a.last h.0.last),
  gathered_fit f g s.4 h.3 q,
)

pub reduced_fit : (m : MarkedForest) → Sound (unmark m) → Fit m → Fit (reduced_marks m)
reduced_fit m s h = gathered_fit (without_overridden m) nil (rw (without_overridden_unmark m) s) (without_overridden_fit m h) tt

-- THE WAY BACK
run_sound : (m : MarkedForest) → Sound (unmark m) → Sound (removed_run m)
run_sound no_marks s = tt
run_sound (marked r a as' k f) s = go (removed a) (run_sound f s.4)
  where
    go : (b : Bool) → Sound (removed_run f) → Sound (cond b (node r (unmark_labels as') (unmark k) (removed_run f)) nil)
    go true h = (s.0, s.1, s.2, s.3, h)
    go false h = tt

removed_attributes : (l : List MarkedLabel) → Attributes (unmark_labels l) → AttributeRow (childless (removed_labels l))
removed_attributes [] h = tt
removed_attributes (m ∷ l) h = go (removed m.changes) refl (removed_attributes l h.2)
  where
    go : (b : Bool) → removed m.changes ≡ b → AttributeRow (childless (removed_labels l)) → AttributeRow (childless (removed_labels (m ∷ l)))
    go true e k = rw e (h.0, h.1, refl, refl, k)
    go false e k = rw e k

-- the old name of an element or attribute is one, and so is the new one
named_back : (κ : Kind) (r : Label) (o : Option ℕ) → r.kind ≡ κ → Formed r → Renamed κ o → Renamed κ (old_if_new o r.name)
named_back Element r None e h q = tt
named_back Element r (Some n) e h q =
    (and_parts (ltb 0 r.name) (eqb r.value 0) (rw e at (and_parts (ltb 0 r.id) (fields_suit_kind r.kind r.name r.value) h).1)).0
named_back Attribute r None e h q = tt
named_back Attribute r (Some n) e h q = rw e at (and_parts (ltb 0 r.id) (fields_suit_kind r.kind r.name r.value) h).1
named_back Text r o e h q = rw q

valued_back : (κ : Kind) (o : Option ℕ) (v : ℕ) → Revalued κ o → Revalued κ (old_if_new o v)
valued_back Element o v q = rw q
valued_back Attribute o v q = tt
valued_back Text o v q = tt

undone_fits : (κ : Kind) (r : Label) (a : NodeChanges) (g h at : Forest) → r.kind ≡ κ → Formed r → Fitting κ a → Beside κ g → Inside κ h → Among κ at
    → Fitting κ (undone r a g h at)
undone_fits κ r a g h at e w q pg ph pa = record {
  before = beside_nil κ;
  after = pg;
  first = ph;
  into = inside_nil κ;
  last = inside_nil κ;
  attributes = pa;
  replaced = tt;
  revalued = valued_back κ a.revalued r.value q.revalued;
  content = content_none κ;
  renamed = named_back κ r a.renamed e w q.renamed;
}

pub deletion_fits : (κ : Kind) → Fitting κ deletion
deletion_fits κ = record {
  before = beside_nil κ;
  after = beside_nil κ;
  first = inside_nil κ;
  into = inside_nil κ;
  last = inside_nil κ;
  attributes = among_nil κ;
  replaced = tt;
  revalued = revalued_none κ;
  content = content_none κ;
  renamed = renamed_none κ;
}

unchanged_labels_fit : (l : List Label) → FitLabels (unchanged_labels l)
unchanged_labels_fit [] = tt
unchanged_labels_fit (r ∷ l) = (no_changes_fit Attribute, unchanged_labels_fit l)

unchanged_fit : (f : Forest) → Fit (unchanged f)
unchanged_fit nil = tt
unchanged_fit (node r as' k f) = (no_changes_fit r.kind, unchanged_labels_fit as', unchanged_fit k, unchanged_fit f)

taken_out_fit : (f : Forest) (m : MarkedForest) → Fit m → Fit (taken_out f ⊞ m)
taken_out_fit nil m h = h
taken_out_fit (node r as' k f) m h = (deletion_fits r.kind, unchanged_labels_fit as', unchanged_fit k, taken_out_fit f m h)

taken_out_alone_fit : (f : Forest) → Fit (taken_out f)
taken_out_alone_fit nil = tt
taken_out_alone_fit (node r as' k f) = (deletion_fits r.kind, unchanged_labels_fit as', unchanged_fit k, taken_out_alone_fit f)

insert_fit : (x : MarkedLabel) (l : List MarkedLabel) → Fitting Attribute x.changes → FitLabels l → FitLabels (insert_marked x l)
insert_fit x [] p h = (p, tt)
insert_fit x (y ∷ l) p h = go (ltb x.label.id y.label.id) (insert_fit x l p h.1)
  where
    go : (b : Bool) → FitLabels (insert_marked x l) → FitLabels (cond b (x ∷ y ∷ l) (y ∷ insert_marked x l))
    go true q = (p, h)
    go false q = (h.0, q)

labels_taken_fit : (xs : List Label) (l : List MarkedLabel) → FitLabels l → FitLabels (insert_all_marked (labels_taken_out xs) l)
labels_taken_fit [] l h = h
labels_taken_fit (x ∷ xs) l h =
    insert_fit (record { label = x; changes = deletion }) (insert_all_marked (labels_taken_out xs) l) (deletion_fits Attribute) (labels_taken_fit xs l h)

labels_undone_fit : (l : List MarkedLabel) → Attributes (unmark_labels l) → FitLabels l → FitLabels (labels_undone l)
labels_undone_fit [] s h = tt
labels_undone_fit (m ∷ l) s h = go (removed m.changes) (labels_undone_fit l s.2 h.1)
  where
    go : (b : Bool) → FitLabels (labels_undone l)
        → FitLabels (cond b (labels_undone l) (record { label = relabelled m.label m.changes; changes = undone m.label m.changes nil nil nil } ∷ labels_undone l))
    go true q = q
    go false q = (undone_fits Attribute m.label m.changes nil nil nil s.0 s.1 h.0 refl refl refl, q)

-- what comes back into a node
back_inside : (κ : Kind) (as' : List Label) (k : MarkedForest) (o : Option Forest) → Holds κ as' (unmark k) → Sound (unmark k) → Content κ o
    → Inside κ (cond (is_some o) (unmark k) (removed_run k))
back_inside Element as' k None h s c = run_sound k s
back_inside Element as' k (Some f) h s c = s
back_inside Attribute as' k o h s c = absurd h
back_inside Text as' k o h s c = rw (c, unmark_nil k h.1)

back_among : (κ : Kind) (as' : List MarkedLabel) (k : Forest) → Holds κ (unmark_labels as') k → Attributes (unmark_labels as') → Among κ (childless (removed_labels as'))
back_among Element as' k h s = removed_attributes as' s
back_among Attribute as' k h s = absurd h
back_among Text as' k h s = rw (unmark_labels_nil as' h.0)

pub inverse_fit : (m : MarkedForest) → Sound (unmark m) → Fit m → Fit (inverse_marks m)
inverse_fit no_marks s h = tt
inverse_fit (marked r a as' k f) s h = go (removed a) (inverse_fit k s.3 h.2) (inverse_fit f s.4 h.3)
  where
    below : (b : Bool) → Fit (inverse_marks k) → Fit (cond b (taken_out (or_else a.content nil)) (taken_out a.first ⊞ inverse_marks k))
    below true q = taken_out_alone_fit (or_else a.content nil)
    below false q = taken_out_fit a.first (inverse_marks k) q

    go : (b : Bool) → Fit (inverse_marks k) → Fit (inverse_marks f)
        → Fit (cond b (taken_out (or_else a.replaced nil) ⊞ (taken_out a.after ⊞ inverse_marks f))
        (marked (relabelled r a)
        (undone r a (removed_run f) (cond (is_some a.content) (unmark k) (removed_run k)) (childless (removed_labels as')))
        (insert_all_marked (labels_taken_out (replacing_labels as' ++ root_labels a.attributes)) (labels_undone as'))
        (cond (is_some a.content) (taken_out (or_else a.content nil)) (taken_out a.first ⊞ inverse_marks k))
        (taken_out a.after ⊞ inverse_marks f)))
    go true qk qf = taken_out_fit (or_else a.replaced nil) _ (taken_out_fit a.after (inverse_marks f) qf)
    go false qk qf = (
      undone_fits r.kind r a (removed_run f) (cond (is_some a.content) (unmark k) (removed_run k)) (childless (removed_labels as')) refl s.0 h.0
          (sound_beside r.kind (unmark_labels as') (unmark k) (removed_run f) s.1 (run_sound f s.4))
          (back_inside r.kind (unmark_labels as') k a.content s.1 s.3 h.0.content) (back_among r.kind as' (unmark k) s.1 s.2.0),
      labels_taken_fit (replacing_labels as' ++ root_labels a.attributes) (labels_undone as') (labels_undone_fit as' s.2.0 h.1),
      below (is_some a.content) qk,
      taken_out_fit a.after (inverse_marks f) qf,
    )
