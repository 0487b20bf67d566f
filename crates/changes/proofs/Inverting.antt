-- The inverse marks, from the changed document back.
use Rattle.std.proofs.Common.{◌≡◌, ℕ, ◌≤◌, Bool, true, false, cond, ltb, List, [], ◌∷◌, ◌++◌, Some, None, Option, refl, ap, ◌∙◌, arith}
use Rattle.std.proofs.lemmas.Bool.{lt-ltb, le-ltb}
use Rattle.document.specs.Tree.{Forest, nil, node, Above, Label}
use Rattle.changes.specs.Changes.{◌⊕◌, root_labels, childless, or_else, insert_label, insert_labels}
use Rattle.changes.specs.Marks.{NodeChanges, MarkedForest, no_marks, marked, unmark, unmark_labels, ◌⊞◌, all_stages_at_once, relabelled, MarkedLabel, kept_labels, removed, replacing_labels}
use Rattle.changes.specs.Reduced.{gathered_by_gap}
use Rattle.changes.specs.Inverse.{unchanged, unchanged_labels, taken_out, old_if_new, undone, labels_taken_out, insert_marked, insert_all_marked, labels_undone, inverse_marks, deletion, removed_labels, removed_run}
use Rattle.changes.proofs.Rows.{⊕-nil}

-- attributes of every node in ascending identifiers
abbrev pub Tidy : Forest → Type 0
Tidy nil = Unit {0}
Tidy (node r as' k f) = Above 0 as' × Tidy k × Tidy f

-- marks that the reduced and the inverse list have: nothing is inserted before a node, into it or as its last child
abbrev pub GatheredNode : NodeChanges → Type 0
GatheredNode a = (a.before ≡ nil) × (a.into ≡ nil) × (a.last ≡ nil)

abbrev pub Gathered : MarkedForest → Type 0
Gathered no_marks = Unit {0}
Gathered (marked r a as' k f) = GatheredNode a × Gathered k × Gathered f

-- taking out
pub unmark_unchanged_labels : (l : List Label) → unmark_labels (unchanged_labels l) ≡ l
unmark_unchanged_labels [] = refl
unmark_unchanged_labels (r ∷ l) = ap (λ x. r ∷ x) (unmark_unchanged_labels l)

pub unmark_unchanged : (f : Forest) → unmark (unchanged f) ≡ f
unmark_unchanged nil = refl
unmark_unchanged (node r as' k f) = rw (unmark_unchanged_labels as', unmark_unchanged k, unmark_unchanged f)

pub unmark_taken_out : (f : Forest) → unmark (taken_out f) ≡ f
unmark_taken_out nil = refl
unmark_taken_out (node r as' k f) = rw (unmark_unchanged_labels as', unmark_unchanged k, unmark_taken_out f)

pub unmark-⊞ : (m n : MarkedForest) → unmark (m ⊞ n) ≡ unmark m ⊕ unmark n
unmark-⊞ no_marks n = refl
unmark-⊞ (marked r a as' k f) n = rw (unmark-⊞ f n)

pub taken_out_before : (f : Forest) (m : MarkedForest) → all_stages_at_once (taken_out f ⊞ m) ≡ all_stages_at_once m
taken_out_before nil m = refl
taken_out_before (node r as' k f) m = taken_out_before f m

pub taken_out_all : (f : Forest) → all_stages_at_once (taken_out f) ≡ nil
taken_out_all nil = refl
taken_out_all (node r as' k f) = taken_out_all f

pub root_labels_childless : (l : List Label) → root_labels (childless l) ≡ l
root_labels_childless [] = refl
root_labels_childless (r ∷ l) = ap (λ x. r ∷ x) (root_labels_childless l)

pub old_back : (o : Option ℕ) (v : ℕ) → or_else (old_if_new o v) (or_else o v) ≡ v
old_back None v = refl
old_back (Some w) v = refl

pub label_back : (r : Label) (a : NodeChanges) → relabelled (relabelled r a) (undone r a nil nil nil) ≡ r
label_back r a = rw (old_back a.renamed r.name, old_back a.revalued r.value)

-- attributes
pub unmark_labels_taken_out : (l : List Label) → unmark_labels (labels_taken_out l) ≡ l
unmark_labels_taken_out [] = refl
unmark_labels_taken_out (r ∷ l) = ap (λ x. r ∷ x) (unmark_labels_taken_out l)

pub unmark_insert_marked : (x : MarkedLabel) (l : List MarkedLabel) → unmark_labels (insert_marked x l) ≡ insert_label x.label (unmark_labels l)
unmark_insert_marked x [] = refl
unmark_insert_marked x (y ∷ l) = go (ltb x.label.id y.label.id) refl (unmark_insert_marked x l)
  where
    go : (b : Bool) → ltb x.label.id y.label.id ≡ b → unmark_labels (insert_marked x l) ≡ insert_label x.label (unmark_labels l)
        → unmark_labels (insert_marked x (y ∷ l)) ≡ insert_label x.label (unmark_labels (y ∷ l))
    go true e h = rw e
    go false e h = rw (e, h)

pub unmark_insert_all_marked : (xs l : List MarkedLabel) → unmark_labels (insert_all_marked xs l) ≡ insert_labels (unmark_labels xs) (unmark_labels l)
unmark_insert_all_marked [] l = refl
unmark_insert_all_marked (x ∷ xs) l = rw (unmark_insert_marked x (insert_all_marked xs l), unmark_insert_all_marked xs l)

pub unmark_labels_undone : (l : List MarkedLabel) → unmark_labels (labels_undone l) ≡ kept_labels l
unmark_labels_undone [] = refl
unmark_labels_undone (m ∷ l) = go (removed m.changes) refl (unmark_labels_undone l)
  where
    go : (b : Bool) → removed m.changes ≡ b → unmark_labels (labels_undone l) ≡ kept_labels l → unmark_labels (labels_undone (m ∷ l)) ≡ kept_labels (m ∷ l)
    go true e h = rw (e, h)
    go false e h = rw (e, h)

-- the inverse marks stand on the changed document
pub inverse_unmark : (m : MarkedForest) → Gathered m → unmark (inverse_marks m) ≡ all_stages_at_once m
inverse_unmark no_marks n = refl
inverse_unmark (marked r a as' k f) n = go (removed a) a.content refl refl (inverse_unmark k n.1) (inverse_unmark f n.2)
  where
    go : (b : Bool) (o : Option Forest) → removed a ≡ b → a.content ≡ o → unmark (inverse_marks k) ≡ all_stages_at_once k → unmark (inverse_marks f) ≡ all_stages_at_once f
        → unmark (inverse_marks (marked r a as' k f)) ≡ all_stages_at_once (marked r a as' k f)
    go true o e q hk hf = rw (e, n.0.0) (simp (unmark-⊞, unmark_taken_out, hf))
    go false None e q hk hf = rw (e, q, n.0.0, n.0.1, n.0.2) (simp (
      unmark-⊞,
      unmark_taken_out,
      hf,
      hk,
      unmark_insert_all_marked,
      unmark_labels_taken_out,
      unmark_labels_undone,
      ⊕-nil,
    ))
    go false (Some c) e q hk hf = rw (e, q, n.0.0) (simp (unmark-⊞, unmark_taken_out, hf, unmark_insert_all_marked, unmark_labels_taken_out, unmark_labels_undone))

-- attributes come back
pub kept_insert_marked : (r : Label) (l : List MarkedLabel) → kept_labels (insert_marked (record { label = r; changes = deletion }) l) ≡ kept_labels l
kept_insert_marked r [] = refl
kept_insert_marked r (y ∷ l) = go (ltb r.id y.label.id) refl (kept_insert_marked r l)
  where
    go : (b : Bool) → ltb r.id y.label.id ≡ b → kept_labels (insert_marked (record { label = r; changes = deletion }) l) ≡ kept_labels l
        → kept_labels (insert_marked (record { label = r; changes = deletion }) (y ∷ l)) ≡ kept_labels (y ∷ l)
    go true e h = rw e
    go false e h = rw (e, h)

pub replacing_insert_marked : (r : Label) (l : List MarkedLabel) → replacing_labels (insert_marked (record { label = r; changes = deletion }) l) ≡ replacing_labels l
replacing_insert_marked r [] = refl
replacing_insert_marked r (y ∷ l) = go (ltb r.id y.label.id) refl (replacing_insert_marked r l)
  where
    go : (b : Bool) → ltb r.id y.label.id ≡ b → replacing_labels (insert_marked (record { label = r; changes = deletion }) l) ≡ replacing_labels l
        → replacing_labels (insert_marked (record { label = r; changes = deletion }) (y ∷ l)) ≡ replacing_labels (y ∷ l)
    go true e h = rw e
    go false e h = rw (e, h)

pub kept_of_taken : (x : List Label) (l : List MarkedLabel) → kept_labels (insert_all_marked (labels_taken_out x) l) ≡ kept_labels l
kept_of_taken [] l = refl
kept_of_taken (r ∷ x) l = kept_insert_marked r (insert_all_marked (labels_taken_out x) l) ∙ kept_of_taken x l

pub replacing_of_taken : (x : List Label) (l : List MarkedLabel) → replacing_labels (insert_all_marked (labels_taken_out x) l) ≡ replacing_labels l
replacing_of_taken [] l = refl
replacing_of_taken (r ∷ x) l = replacing_insert_marked r (insert_all_marked (labels_taken_out x) l) ∙ replacing_of_taken x l

-- the attributes that stay, as they were
abbrev pub staying_labels : List MarkedLabel → List Label
staying_labels [] = []
staying_labels (m ∷ l) = cond (removed m.changes) (staying_labels l) (m.label ∷ staying_labels l)

pub kept_of_undone : (l : List MarkedLabel) → kept_labels (labels_undone l) ≡ staying_labels l
kept_of_undone [] = refl
kept_of_undone (m ∷ l) = go (removed m.changes) refl (kept_of_undone l)
  where
    go : (b : Bool) → removed m.changes ≡ b → kept_labels (labels_undone l) ≡ staying_labels l → kept_labels (labels_undone (m ∷ l)) ≡ staying_labels (m ∷ l)
    go true e h = rw (e, h)
    go false e h = rw (e, h, label_back m.label m.changes)

pub replacing_of_undone : (l : List MarkedLabel) → replacing_labels (labels_undone l) ≡ []
replacing_of_undone [] = refl
replacing_of_undone (m ∷ l) = go (removed m.changes) refl (replacing_of_undone l)
  where
    go : (b : Bool) → removed m.changes ≡ b → replacing_labels (labels_undone l) ≡ [] → replacing_labels (labels_undone (m ∷ l)) ≡ []
    go true e h = rw (e, h)
    go false e h = rw (e, h)

-- identifiers above a number are above a smaller one
pub above_less : (m n : ℕ) (l : List Label) → m ≤ n → Above n l → Above m l
above_less m n [] h a = tt
above_less m n (r ∷ l) h a = (omega arith, a.1)

pub insert_front : (x : Label) (l : List Label) → Above x.id l → insert_label x l ≡ x ∷ l
insert_front x [] h = refl
insert_front x (y ∷ l) h = rw (lt-ltb x.id y.id h.0)

pub insert_behind : (r : Label) (xs l : List Label) → Above r.id xs → insert_labels xs (r ∷ l) ≡ r ∷ insert_labels xs l
insert_behind r [] l h = refl
insert_behind r (x ∷ xs) l h = rw (insert_behind r xs l (above_less r.id x.id xs (omega arith) h.1), le-ltb x.id r.id (omega arith))

pub above_removed : (n : ℕ) (l : List MarkedLabel) → Above n (unmark_labels l) → Above n (removed_labels l)
above_removed n [] h = tt
above_removed n (m ∷ l) h = go (removed m.changes) refl (above_removed m.label.id l h.1)
  where
    go : (b : Bool) → removed m.changes ≡ b → Above m.label.id (removed_labels l) → Above n (removed_labels (m ∷ l))
    go true e k = rw e (h.0, k)
    go false e k = rw e (above_less n m.label.id (removed_labels l) (omega arith) k)

pub labels_back : (n : ℕ) (l : List MarkedLabel) → Above n (unmark_labels l) → insert_labels (removed_labels l) (staying_labels l) ≡ unmark_labels l
labels_back n [] h = refl
labels_back n (m ∷ l) h = go (removed m.changes) refl (labels_back m.label.id l h.1)
  where
    go : (b : Bool) → removed m.changes ≡ b → insert_labels (removed_labels l) (staying_labels l) ≡ unmark_labels l
        → insert_labels (removed_labels (m ∷ l)) (staying_labels (m ∷ l)) ≡ unmark_labels (m ∷ l)
    go true e k = rw (e, k, insert_front m.label (unmark_labels l) h.1)
    go false e k = rw (e, insert_behind m.label (removed_labels l) (staying_labels l) (above_removed m.label.id l h.1), k)

-- the attributes of a node that stays, after and back
pub attributes_back : (l : List MarkedLabel) (x : List Label) → Above 0 (unmark_labels l)
    → insert_labels (replacing_labels (insert_all_marked (labels_taken_out x) (labels_undone l)) ++ root_labels (childless (removed_labels l)))
    (kept_labels (insert_all_marked (labels_taken_out x) (labels_undone l)))
    ≡ unmark_labels l
attributes_back l x h = simp (replacing_of_taken, replacing_of_undone, kept_of_taken, kept_of_undone, root_labels_childless) (labels_back 0 l h)

-- the inverse marks give the first document back
pub inverse_leads_back : (m : MarkedForest) → Tidy (unmark m) → removed_run m ⊕ all_stages_at_once (inverse_marks m) ≡ unmark m
inverse_leads_back no_marks t = refl
inverse_leads_back (marked r a as' k f) t = go (removed a) a.content refl refl (inverse_leads_back k t.1) (inverse_leads_back f t.2)
  where
    go : (b : Bool) (o : Option Forest) → removed a ≡ b → a.content ≡ o → removed_run k ⊕ all_stages_at_once (inverse_marks k) ≡ unmark k
        → removed_run f ⊕ all_stages_at_once (inverse_marks f) ≡ unmark f
        → removed_run (marked r a as' k f) ⊕ all_stages_at_once (inverse_marks (marked r a as' k f)) ≡ unmark (marked r a as' k f)
    go true o e q hk hf = rw e (simp (taken_out_before, hf))
    go false None e q hk hf = rw (
      e,
      q,
      old_back a.renamed r.name,
      old_back a.revalued r.value,
      attributes_back as' (replacing_labels as' ++ root_labels a.attributes) t.0,
    ) (simp (taken_out_before, hf, hk, ⊕-nil))
    go false (Some c) e q hk hf = rw (
      e,
      q,
      old_back a.renamed r.name,
      old_back a.revalued r.value,
      attributes_back as' (replacing_labels as' ++ root_labels a.attributes) t.0,
    ) (simp (taken_out_before, taken_out_all, hf, ⊕-nil))

-- gathered marks are of that form
pub gathered_all : (m : MarkedForest) (g : Forest) → Gathered (gathered_by_gap m g)
gathered_all no_marks g = tt
gathered_all (marked r a as' k f) g = ((refl, refl, refl), gathered_all k a.last, gathered_all f g)
