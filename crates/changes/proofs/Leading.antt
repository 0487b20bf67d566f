-- The reduced list does what the list does, and the inverse list leads back.
use Rattle.std.proofs.Common.{◌≡◌, ℕ, ◌+◌, ◌≤◌, Bool, true, false, cond, eqb, List, [], ◌∷◌, ◌++◌, Some, None, Option, sym, refl, ap, ◌∙◌, arith}
use Rattle.records.specs.declared.operations.Code.{Code}
use Rattle.records.specs.declared.operations.Code.TheVariants.{InsertBefore, Delete, ReplaceNode, ReplaceContent, InsertFirst, InsertInto, InsertLast, InsertAfter}
use Rattle.document.specs.Tree.{node, Forest, nil, count, Label}
use Rattle.changes.specs.Changes.{Change, joined_nodes, changes_on, first_of, count_nodes, ◌⊕◌, same_code, or_else, nodes_given, root_labels, insert_labels}
use Rattle.changes.specs.Stages.{apply}
use Rattle.changes.specs.Marks.{mark, unmark, mark_labels, unmark_labels, MarkedLabel, kept_labels, removed, relabelled, NodeChanges, children_after, all_stages_at_once, node_changes, replacing_labels, MarkedForest}
use Rattle.changes.specs.Reduced.{reduced, reduced_marks, changes_in_order, without_overridden, before_first}
use Rattle.changes.specs.Inverse.{removed_run, inverse_marks, inverse}
use Rattle.changes.proofs.Reading.{off, marks_back}
use Rattle.changes.proofs.Reducing.{reduced_unmark, reduced_same_at_root}
use Rattle.changes.proofs.Inverting.{Tidy, gathered_all, inverse_unmark, inverse_leads_back}
use Rattle.changes.proofs.Settling.{settled}
use Rattle.changes.proofs.Stages.{Level, level_tidy, Over, Rising, stages, rising_insert_labels, Fresh}
use Rattle.changes.proofs.Weighing.{brought, weigh_nodes, weigh, reduced_brings, mark_brings, is_it, count_nodes_weigh, weigh_in_order, count_weigh}
use Rattle.changes.proofs.Fitting.{Fit}
use Rattle.changes.proofs.Balancing.{inverse_balances}

abbrev pub TidyChanges : List Change → Type 0
TidyChanges [] = Unit {0}
TidyChanges (o ∷ l) = Tidy o.nodes × TidyChanges l

-- nothing is put before the root, and it is neither deleted nor replaced
abbrev pub RootSpared : List Change → Forest → Type 0
RootSpared l nil = Unit {0}
RootSpared l (node r as' k f) =
    (joined_nodes InsertBefore (changes_on r.id l) ≡ nil) × (first_of Delete (changes_on r.id l) ≡ None) × (first_of ReplaceNode (changes_on r.id l) ≡ None)

-- what these theorems ask of a list on a document; attribute names play no part
pub record Ready (d : Forest) (l : List Change) : Type 0 where
  pub distinct : (t : ℕ) → count t d + count_nodes t l ≤ 1
  pub present : (t : ℕ) → count t d ≡ 0 → changes_on t l ≡ []
  pub tidy : Tidy d
  pub neat : TidyChanges l
  pub spared : RootSpared l d
  pub fits : Fit (reduced_marks (mark l d))

-- the marks stand on the document
pub unmark_mark_labels : (l : List Change) (rs : List Label) → unmark_labels (mark_labels l rs) ≡ rs
unmark_mark_labels l [] = refl
unmark_mark_labels l (r ∷ rs) = ap (λ x. r ∷ x) (unmark_mark_labels l rs)

pub unmark_mark : (l : List Change) (d : Forest) → unmark (mark l d) ≡ d
unmark_mark l nil = refl
unmark_mark l (node r as' k f) = rw (unmark_mark_labels l as', unmark_mark l k, unmark_mark l f)

-- the changed document has its attributes in order
level-⊕ : (f g : Forest) → Level f → Level g → Level (f ⊕ g)
level-⊕ nil g p q = q
level-⊕ (node r as' k f) g p q = (p.0, p.1, level-⊕ f g p.2 q)

tidy_on : (t : ℕ) (l : List Change) → TidyChanges l → TidyChanges (changes_on t l)
tidy_on t [] h = tt
tidy_on t (o ∷ l) h = go (eqb o.target t) refl (tidy_on t l h.1)
  where
    go : (b : Bool) → eqb o.target t ≡ b → TidyChanges (changes_on t l) → TidyChanges (changes_on t (o ∷ l))
    go true e k = rw e (h.0, k)
    go false e k = rw e k

level_joined : (c : Code) (l : List Change) → TidyChanges l → Level (joined_nodes c l)
level_joined c [] h = tt
level_joined c (o ∷ l) h = go (same_code o.code c) refl (level_joined c l h.1)
  where
    go : (b : Bool) → same_code o.code c ≡ b → Level (joined_nodes c l) → Level (joined_nodes c (o ∷ l))
    go true e k = rw e (level-⊕ o.nodes (joined_nodes c l) (level_tidy o.nodes h.0) k)
    go false e k = rw e k

level_first : (c : Code) (l : List Change) → TidyChanges l → Level (or_else (nodes_given (first_of c l)) nil)
level_first c [] h = tt
level_first c (o ∷ l) h = go (same_code o.code c) refl (level_first c l h.1)
  where
    go : (b : Bool) → same_code o.code c ≡ b → Level (or_else (nodes_given (first_of c l)) nil) → Level (or_else (nodes_given (first_of c (o ∷ l))) nil)
    go true e k = rw e (level_tidy o.nodes h.0)
    go false e k = rw e k

pub over_kept : (n : ℕ) (l : List MarkedLabel) → Over n (unmark_labels l) → Over n (kept_labels l)
over_kept n [] h = tt
over_kept n (m ∷ l) h = go (removed m.changes) (over_kept n l h.1)
  where
    go : (b : Bool) → Over n (kept_labels l) → Over n (cond b (kept_labels l) (relabelled m.label m.changes ∷ kept_labels l))
    go true k = k
    go false k = (h.0, k)

pub rising_kept : (l : List MarkedLabel) → Rising (unmark_labels l) → Rising (kept_labels l)
rising_kept [] h = tt
rising_kept (m ∷ l) h = go (removed m.changes) (rising_kept l h.1)
  where
    go : (b : Bool) → Rising (kept_labels l) → Rising (cond b (kept_labels l) (relabelled m.label m.changes ∷ kept_labels l))
    go true k = k
    go false k = (over_kept m.label.id l h.0, k)

level_children : (a : NodeChanges) (k : Forest) → Level (or_else a.content nil) → Level (a.first ⊕ (a.into ⊕ (k ⊕ a.last))) → Level (children_after a k)
level_children a k p q = go a.content refl
  where
    go : (o : Option Forest) → a.content ≡ o → Level (children_after a k)
    go None e = rw e q
    go (Some c) e = let w : Level c = rw e at p in rw e w

pub level_after : (l : List Change) (d : Forest) → TidyChanges l → Level d → Level (all_stages_at_once (mark l d))
level_after l nil n h = tt
level_after l (node r as' k f) n h = go (tidy_on r.id l n) (level_after l k n h.1) (level_after l f n h.2)
  where
    here : List Change
    here = changes_on r.id l

    a : NodeChanges
    a = node_changes here

    come : List Label
    come = replacing_labels (mark_labels l as') ++ root_labels a.attributes

    below : Forest
    below = all_stages_at_once (mark l k)

    middle : Bool → Forest
    middle b = cond b (or_else a.replaced nil) (node (relabelled r a) (insert_labels come (kept_labels (mark_labels l as'))) (children_after a below) nil)

    body : (b : Bool) → TidyChanges here → Level below → Level (middle b)
    body true t hk = level_first ReplaceNode here t
    body false t hk = (
      rising_insert_labels come (kept_labels (mark_labels l as')) (rising_kept (mark_labels l as') (rw (unmark_mark_labels l as') h.0)),
      level_children a below (level_first ReplaceContent here t)
          (level-⊕ a.first _ (level_joined InsertFirst here t) (level-⊕ a.into _ (level_joined InsertInto here t) (level-⊕ below a.last hk (level_joined InsertLast here t)))),
      tt,
    )

    go : TidyChanges here → Level below → Level (all_stages_at_once (mark l f)) → Level (all_stages_at_once (mark l (node r as' k f)))
    go t hk hf =
        level-⊕ a.before _ (level_joined InsertBefore here t)
        (level-⊕ (middle (removed a)) _ (body (removed a) t hk) (level-⊕ a.after _ (level_joined InsertAfter here t) hf))

module _ (d : Forest) (l : List Change) (s : Ready d l) where
  unfoldable pub reduced_of : MarkedForest
  reduced_of = reduced_marks (mark l d)

  pub fresh : Fresh l
  fresh t p = s.present t (omega (arith, s.distinct t))

  pub unmark_reduced : unmark reduced_of ≡ d
  unfolding reduced_of
  unmark_reduced = reduced_unmark (mark l d) ∙ unmark_mark l d

  pub single : (t : ℕ) → count t d ≤ 1
  single t = omega (arith, s.distinct t)

  pub reduced_brought : (w : ℕ → ℕ) → brought w reduced_of ≤ weigh_nodes w l
  unfolding reduced_of
  reduced_brought w = omega (arith, reduced_brings w (mark l d), mark_brings w l d single)

  -- the document and what the reduced list brings, the changed document and what the inverse list brings: each identifier once
  pub once_reduced : (t : ℕ) → count t d + count_nodes t (changes_in_order reduced_of) ≤ 1
  once_reduced t =
      omega (arith, s.distinct t, reduced_brought (is_it t), count_nodes_weigh t l, count_nodes_weigh t (changes_in_order reduced_of), weigh_in_order (is_it t) reduced_of)

  pub none_lost : removed_run reduced_of ≡ nil
  unfolding reduced_of
  none_lost = go d s.spared
    where
      go : (e : Forest) → RootSpared l e → removed_run (reduced_marks (mark l e)) ≡ nil
      go nil h = refl
      go (node r as' k f) h = rw (h.2, h.1)

  -- the changed document and what the inverse list brings weigh as much as the document and what the reduced list brings
  pub reduced_balances : (w : ℕ → ℕ) → weigh w (unmark (inverse_marks reduced_of)) + (brought w (inverse_marks reduced_of) + weigh w (removed_run reduced_of))
      ≡ weigh w (unmark reduced_of) + brought w reduced_of
  unfolding reduced_of
  reduced_balances w = inverse_balances w (reduced_marks (mark l d)) (settled (mark l d) nil) (gathered_all (without_overridden (mark l d)) nil) s.fits

  pub once_inverse : (t : ℕ) → count t (unmark (inverse_marks reduced_of)) + count_nodes t (changes_in_order (inverse_marks reduced_of)) ≤ 1
  once_inverse t =
      omega (
        arith,
        s.distinct t,
        reduced_brought (is_it t),
        count_nodes_weigh t l,
        count_weigh t d,
        ap (weigh (is_it t)) unmark_reduced,
        reduced_balances (is_it t),
        ap (weigh (is_it t)) none_lost,
        count_weigh t (unmark (inverse_marks reduced_of)),
        count_nodes_weigh t (changes_in_order (inverse_marks reduced_of)),
        weigh_in_order (is_it t) (inverse_marks reduced_of),
      )

  fresh_reduced : Fresh (changes_in_order reduced_of)
  fresh_reduced t p = off t reduced_of (rw unmark_reduced (omega (arith, once_reduced t)))

  before_root : before_first (mark l d) nil ≡ nil
  before_root = go d s.spared
    where
      go : (e : Forest) → RootSpared l e → before_first (mark l e) nil ≡ nil
      go nil h = refl
      go (node r as' k f) h = h.0

  pub after_reduced : all_stages_at_once reduced_of ≡ apply l d
  unfolding reduced_of
  after_reduced = reduced_same_at_root (mark l d) before_root ∙ sym (stages l fresh d (level_tidy d s.tidy))

  pub mark_reduced : mark (changes_in_order reduced_of) d ≡ reduced_of
  mark_reduced = ap (λ x. mark (changes_in_order reduced_of) x) (sym unmark_reduced) ∙ marks_back reduced_of (λ t. rw unmark_reduced (single t))

  pub reduced_same : apply (reduced d l) d ≡ apply l d
  unfolding reduced reduced_of
  reduced_same = stages (changes_in_order reduced_of) fresh_reduced d (level_tidy d s.tidy) ∙ ap all_stages_at_once mark_reduced ∙ after_reduced

  pub unmark_inverse : unmark (inverse_marks reduced_of) ≡ apply l d
  unfolding reduced_of
  unmark_inverse = inverse_unmark (reduced_marks (mark l d)) (gathered_all (without_overridden (mark l d)) nil) ∙ after_reduced

  pub single_inverse : (t : ℕ) → count t (unmark (inverse_marks reduced_of)) ≤ 1
  single_inverse t = omega (arith, once_inverse t)

  fresh_inverse : Fresh (changes_in_order (inverse_marks reduced_of))
  fresh_inverse t p = off t (inverse_marks reduced_of) (omega (arith, once_inverse t))

  pub level_changed : Level (apply l d)
  level_changed = rw (stages l fresh d (level_tidy d s.tidy)) (level_after l d s.neat (level_tidy d s.tidy))

  pub inverse_back : apply (inverse d l) (apply l d) ≡ d
  unfolding inverse reduced_of
  inverse_back =
      rw (← unmark_inverse)
      (stages (changes_in_order (inverse_marks reduced_of)) fresh_inverse (unmark (inverse_marks reduced_of)) (rw unmark_inverse level_changed)
      ∙ ap all_stages_at_once (marks_back (inverse_marks reduced_of) single_inverse) ∙ back)
    where
      back : all_stages_at_once (inverse_marks reduced_of) ≡ d
      back = (rw none_lost at (inverse_leads_back reduced_of (rw unmark_reduced s.tidy))) ∙ unmark_reduced
