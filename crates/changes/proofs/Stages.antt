-- The five stages do what the marks do in one pass.
use Rattle.std.proofs.Common.{◌≡◌, ℕ, ◌<◌, ◌≤◌, Bool, true, false, cond, ltb, List, [], ◌∷◌, ◌++◌, Some, None, Option, sym, refl, ap, ◌∙◌, inl, inr, arith}
use Rattle.std.proofs.lemmas.Bool.{ltb-true, ltb-false, lt-ltb, cases_lt}
use Rattle.records.specs.declared.operations.Code.{Code}
use Rattle.records.specs.declared.operations.Code.TheVariants.{ReplaceNode, Delete, InsertBefore, InsertAfter, InsertFirst, InsertInto, InsertLast, InsertAttributes, ReplaceContent}
use Rattle.document.specs.Tree.{Forest, count, Label, count_labels, node, nil, Above}
use Rattle.document.proofs.Counting.{one_refl}
use Rattle.changes.specs.Changes.{Change, changes_on, ◌⊕◌, insert_label, insert_labels, is_some, first_of, count_nodes, joined_nodes, or_else, nodes_given, root_labels}
use Rattle.changes.specs.Stages.{edited, edited_labels, without_change, replacements, stage_2_before_after_first_last, stage_3_replaced_nodes, stage_4_replaced_content, stage_5_deletions, apply, stage_1_into_attributes_values_names}
use Rattle.changes.specs.Marks.{replacing_labels, mark_labels, mark, kept_labels, all_stages_at_once, NodeChanges, node_changes, removed, relabelled, children_after}
use Rattle.changes.proofs.Rows.{⊕-nil, ⊕-assoc}
use Rattle.changes.proofs.Counting.{count_joined, count_on, count_first, count_roots, count_labels-++}
use Rattle.changes.proofs.Inverting.{above_less, Tidy}

-- no node of a row is a target
abbrev pub Still : List Change → Forest → Type 0
Still l g = (t : ℕ) → 1 ≤ count t g → changes_on t l ≡ []

abbrev pub StillLabels : List Change → List Label → Type 0
StillLabels l g = (t : ℕ) → 1 ≤ count_labels t g → changes_on t l ≡ []

still_head : (l : List Change) (r : Label) (as' : List Label) (k f : Forest) → Still l (node r as' k f) → changes_on r.id l ≡ []
still_head l r as' k f h = let u = one_refl r.id in h r.id (omega arith)

still_labels_head : (l : List Change) (r : Label) (rs : List Label) → StillLabels l (r ∷ rs) → changes_on r.id l ≡ []
still_labels_head l r rs h = let u = one_refl r.id in h r.id (omega arith)

still_edited : (l : List Change) (rs : List Label) → StillLabels l rs → edited_labels l rs ≡ rs
still_edited l [] h = refl
still_edited l (r ∷ rs) h = rw (still_labels_head l r rs h, still_edited l rs (λ t p. h t (omega arith)))

still_without : (c : Code) (l : List Change) (rs : List Label) → StillLabels l rs → without_change c l rs ≡ rs
still_without c l [] h = refl
still_without c l (r ∷ rs) h = rw (still_labels_head l r rs h, still_without c l rs (λ t p. h t (omega arith)))

still_replacements : (l : List Change) (rs : List Label) → StillLabels l rs → replacements l rs ≡ []
still_replacements l [] h = refl
still_replacements l (r ∷ rs) h = rw (still_labels_head l r rs h, still_replacements l rs (λ t p. h t (omega arith)))

module _ (l : List Change) where
  still_stage_2 : (g : Forest) → Still l g → stage_2_before_after_first_last l g ≡ g
  still_stage_2 nil h = refl
  still_stage_2 (node r as' k f) h = rw (still_head l r as' k f h, still_stage_2 k (λ t p. h t (omega arith)), still_stage_2 f (λ t p. h t (omega arith))) (rw (⊕-nil k))

  still_stage_3 : (g : Forest) → Still l g → stage_3_replaced_nodes l g ≡ g
  still_stage_3 nil h = refl
  still_stage_3 (node r as' k f) h = rw (
    still_head l r as' k f h,
    still_stage_3 k (λ t p. h t (omega arith)),
    still_stage_3 f (λ t p. h t (omega arith)),
    still_replacements l as' (λ t p. h t (omega arith)),
    still_without ReplaceNode l as' (λ t p. h t (omega arith)),
  )

  still_stage_4 : (g : Forest) → Still l g → stage_4_replaced_content l g ≡ g
  still_stage_4 nil h = refl
  still_stage_4 (node r as' k f) h = rw (still_head l r as' k f h, still_stage_4 k (λ t p. h t (omega arith)), still_stage_4 f (λ t p. h t (omega arith)))

  still_stage_5 : (g : Forest) → Still l g → stage_5_deletions l g ≡ g
  still_stage_5 nil h = refl
  still_stage_5 (node r as' k f) h = rw (
    still_head l r as' k f h,
    still_stage_5 k (λ t p. h t (omega arith)),
    still_stage_5 f (λ t p. h t (omega arith)),
    still_without Delete l as' (λ t p. h t (omega arith)),
  )

  stage_2-⊕ : (f g : Forest) → stage_2_before_after_first_last l (f ⊕ g) ≡ stage_2_before_after_first_last l f ⊕ stage_2_before_after_first_last l g
  stage_2-⊕ nil g = refl
  stage_2-⊕ (node r as' k f) g = simp (stage_2-⊕ f g, ⊕-assoc)

  stage_3-⊕ : (f g : Forest) → stage_3_replaced_nodes l (f ⊕ g) ≡ stage_3_replaced_nodes l f ⊕ stage_3_replaced_nodes l g
  stage_3-⊕ nil g = refl
  stage_3-⊕ (node r as' k f) g = simp (stage_3-⊕ f g, ⊕-assoc)

  stage_4-⊕ : (f g : Forest) → stage_4_replaced_content l (f ⊕ g) ≡ stage_4_replaced_content l f ⊕ stage_4_replaced_content l g
  stage_4-⊕ nil g = refl
  stage_4-⊕ (node r as' k f) g = rw (stage_4-⊕ f g)

  stage_5-⊕ : (f g : Forest) → stage_5_deletions l (f ⊕ g) ≡ stage_5_deletions l f ⊕ stage_5_deletions l g
  stage_5-⊕ nil g = refl
  stage_5-⊕ (node r as' k f) g = simp (stage_5-⊕ f g, ⊕-assoc)

-- attributes, which stand in ascending identifiers
abbrev pub Over : ℕ → List Label → Type 0
Over n [] = Unit {0}
Over n (r ∷ l) = (n ≤ r.id) × Over n l

abbrev pub Rising : List Label → Type 0
Rising [] = Unit {0}
Rising (r ∷ l) = Over r.id l × Rising l

abbrev pub Level : Forest → Type 0
Level nil = Unit {0}
Level (node r as' k f) = Rising as' × Level k × Level f

over_above : (n : ℕ) (l : List Label) → Above n l → Over n l
over_above n [] h = tt
over_above n (r ∷ l) h = (omega arith, over_above n l (above_less n r.id l (omega arith) h.1))

pub rising_above : (n : ℕ) (l : List Label) → Above n l → Rising l
rising_above n [] h = tt
rising_above n (r ∷ l) h = (over_above r.id l h.1, rising_above r.id l h.1)

pub level_tidy : (d : Forest) → Tidy d → Level d
level_tidy nil h = tt
level_tidy (node r as' k f) h = (rising_above 0 as' h.0, level_tidy k h.1, level_tidy f h.2)

over_less : (m n : ℕ) (l : List Label) → m ≤ n → Over n l → Over m l
over_less m n [] h o = tt
over_less m n (r ∷ l) h o = (omega arith, over_less m n l h o.1)

over_insert : (n : ℕ) (x : Label) (l : List Label) → n ≤ x.id → Over n l → Over n (insert_label x l)
over_insert n x [] h o = (h, tt)
over_insert n x (y ∷ l) h o = go (ltb x.id y.id) refl (over_insert n x l h o.1)
  where
    go : (b : Bool) → ltb x.id y.id ≡ b → Over n (insert_label x l) → Over n (insert_label x (y ∷ l))
    go true e k = rw e (h, (o.0, o.1))
    go false e k = rw e (o.0, k)

rising_insert : (x : Label) (l : List Label) → Rising l → Rising (insert_label x l)
rising_insert x [] h = (tt, tt)
rising_insert x (y ∷ l) h = go (ltb x.id y.id) refl (rising_insert x l h.1)
  where
    go : (b : Bool) → ltb x.id y.id ≡ b → Rising (insert_label x l) → Rising (insert_label x (y ∷ l))
    go true e k = let u = ltb-true x.id y.id e in rw e ((omega arith, over_less x.id y.id l (omega arith) h.0), h)
    go false e k = let u = ltb-false x.id y.id e in rw e (over_insert y.id x l (omega arith) h.0, k)

pub rising_insert_labels : (xs l : List Label) → Rising l → Rising (insert_labels xs l)
rising_insert_labels [] l h = h
rising_insert_labels (x ∷ xs) l h = rising_insert x (insert_labels xs l) (rising_insert_labels xs l h)

over_without : (n : ℕ) (c : Code) (ops : List Change) (l : List Label) → Over n l → Over n (without_change c ops l)
over_without n c ops [] h = tt
over_without n c ops (r ∷ l) h = go (is_some (first_of c (changes_on r.id ops))) refl (over_without n c ops l h.1)
  where
    go : (b : Bool) → is_some (first_of c (changes_on r.id ops)) ≡ b → Over n (without_change c ops l) → Over n (without_change c ops (r ∷ l))
    go true e k = rw e k
    go false e k = rw e (h.0, k)

rising_without : (c : Code) (ops : List Change) (l : List Label) → Rising l → Rising (without_change c ops l)
rising_without c ops [] h = tt
rising_without c ops (r ∷ l) h = go (is_some (first_of c (changes_on r.id ops))) refl (rising_without c ops l h.1)
  where
    go : (b : Bool) → is_some (first_of c (changes_on r.id ops)) ≡ b → Rising (without_change c ops l) → Rising (without_change c ops (r ∷ l))
    go true e k = rw e k
    go false e k = rw e (over_without r.id c ops l h.0, k)

insert_under : (x : Label) (n : ℕ) (l : List Label) → x.id < n → Over n l → insert_label x l ≡ x ∷ l
insert_under x n [] h o = refl
insert_under x n (y ∷ l) h o = rw (lt-ltb x.id y.id (omega arith))

-- an attribute with no changes may be put in before or after others are taken out
without_insert : (c : Code) (ops : List Change) (x : Label) (l : List Label) → changes_on x.id ops ≡ [] → Rising l
    → without_change c ops (insert_label x l) ≡ insert_label x (without_change c ops l)
without_insert c ops x [] q h = rw q
without_insert c ops x (y ∷ l) q h = go (ltb x.id y.id) (is_some (first_of c (changes_on y.id ops))) refl refl (without_insert c ops x l q h.1)
  where
    go : (b s : Bool) → ltb x.id y.id ≡ b → is_some (first_of c (changes_on y.id ops)) ≡ s
        → without_change c ops (insert_label x l) ≡ insert_label x (without_change c ops l)
        → without_change c ops (insert_label x (y ∷ l)) ≡ insert_label x (without_change c ops (y ∷ l))
    go true true e s k = rw (e, s, q) (sym (insert_under x y.id (without_change c ops l) (ltb-true x.id y.id e) (over_without y.id c ops l h.0)))
    go true false e s k = rw (s, e, q) (rw s)
    go false true e s k = rw (e, s) k
    go false false e s k = rw (s, e) (rw (s, k))

without_insert_labels : (c : Code) (ops : List Change) (xs l : List Label) → StillLabels ops xs → Rising l
    → without_change c ops (insert_labels xs l) ≡ insert_labels xs (without_change c ops l)
without_insert_labels c ops [] l s h = refl
without_insert_labels c ops (x ∷ xs) l s h =
    without_insert c ops x (insert_labels xs l) (still_labels_head ops x xs s) (rising_insert_labels xs l h)
    ∙ ap (λ z. insert_label x z) (without_insert_labels c ops xs l (λ t p. s t (omega arith)) h)

replacements_insert : (ops : List Change) (x : Label) (l : List Label) → changes_on x.id ops ≡ [] → replacements ops (insert_label x l) ≡ replacements ops l
replacements_insert ops x [] q = rw q
replacements_insert ops x (y ∷ l) q = go (ltb x.id y.id) refl (replacements_insert ops x l q)
  where
    go : (b : Bool) → ltb x.id y.id ≡ b → replacements ops (insert_label x l) ≡ replacements ops l → replacements ops (insert_label x (y ∷ l)) ≡ replacements ops (y ∷ l)
    go true e k = rw (e, q)
    go false e k = rw (e, k)

replacements_insert_labels : (ops : List Change) (xs l : List Label) → StillLabels ops xs → replacements ops (insert_labels xs l) ≡ replacements ops l
replacements_insert_labels ops [] l s = refl
replacements_insert_labels ops (x ∷ xs) l s = replacements_insert ops x (insert_labels xs l) (still_labels_head ops x xs s)
    ∙ replacements_insert_labels ops xs l (λ t p. s t (omega arith))

replacements_edited : (ops : List Change) (l : List Label) → replacements ops (edited_labels ops l) ≡ replacing_labels (mark_labels ops l)
replacements_edited ops [] = refl
replacements_edited ops (r ∷ l) = rw (replacements_edited ops l)

over_edited : (n : ℕ) (ops : List Change) (l : List Label) → Over n l → Over n (edited_labels ops l)
over_edited n ops [] h = tt
over_edited n ops (r ∷ l) h = (h.0, over_edited n ops l h.1)

rising_edited : (ops : List Change) (l : List Label) → Rising l → Rising (edited_labels ops l)
rising_edited ops [] h = tt
rising_edited ops (r ∷ l) h = (over_edited r.id ops l h.0, rising_edited ops l h.1)

without_edited : (ops : List Change) (l : List Label) → without_change Delete ops (without_change ReplaceNode ops (edited_labels ops l)) ≡ kept_labels (mark_labels ops l)
without_edited ops [] = refl
without_edited ops (r ∷ l) = go (first_of ReplaceNode (changes_on r.id ops)) (is_some (first_of Delete (changes_on r.id ops))) refl refl (without_edited ops l)
  where
    go : (o : Option Change) (b : Bool) → first_of ReplaceNode (changes_on r.id ops) ≡ o → is_some (first_of Delete (changes_on r.id ops)) ≡ b
        → without_change Delete ops (without_change ReplaceNode ops (edited_labels ops l)) ≡ kept_labels (mark_labels ops l)
        → without_change Delete ops (without_change ReplaceNode ops (edited_labels ops (r ∷ l))) ≡ kept_labels (mark_labels ops (r ∷ l))
    go (Some o) b e s k = rw e k
    go None true e s k = rw (e, s) k
    go None false e s k = rw (e, s, k)

insert_labels-++ : (xs ys l : List Label) → insert_labels (xs ++ ys) l ≡ insert_labels xs (insert_labels ys l)
insert_labels-++ [] ys l = refl
insert_labels-++ (x ∷ xs) ys l = rw (insert_labels-++ xs ys l)

-- the attributes of a node that stays, after all stages: x come in, and those for replaced ones
abbrev after_stage_3 : List Change → List Label → List Label → List Label
after_stage_3 ops x l = insert_labels (replacements ops (insert_labels x (edited_labels ops l))) (without_change ReplaceNode ops (insert_labels x (edited_labels ops l)))

attributes_after_stages : (ops : List Change) (x l : List Label) → StillLabels ops x → StillLabels ops (replacing_labels (mark_labels ops l)) → Rising l
    → without_change Delete ops (after_stage_3 ops x l) ≡ insert_labels (replacing_labels (mark_labels ops l) ++ x) (kept_labels (mark_labels ops l))
attributes_after_stages ops x l sx sn h =
    rw (replacements_insert_labels ops x (edited_labels ops l) sx, replacements_edited ops l, without_insert_labels ReplaceNode ops x (edited_labels ops l) sx (rising_edited ops l h))
    (without_insert_labels Delete ops new (insert_labels x kept) sn (rising_insert_labels x kept rising)
    ∙ ap (λ z. insert_labels new z) (without_insert_labels Delete ops x kept sx rising ∙ ap (λ z. insert_labels x z) (without_edited ops l))
    ∙ sym (insert_labels-++ new x (kept_labels (mark_labels ops l))))
  where
    new : List Label
    new = replacing_labels (mark_labels ops l)

    kept : List Label
    kept = without_change ReplaceNode ops (edited_labels ops l)

    rising : Rising kept
    rising = rising_without ReplaceNode ops (edited_labels ops l) (rising_edited ops l h)

-- the nodes that a list inserts are no targets of it
abbrev pub Fresh : List Change → Type 0
Fresh l = (t : ℕ) → 1 ≤ count_nodes t l → changes_on t l ≡ []

module _ (l : List Change) (fresh : Fresh l) where
  still_joined : (c : Code) (s : ℕ) → Still l (joined_nodes c (changes_on s l))
  still_joined c s t p = fresh t (omega (arith, count_joined t c (changes_on s l), count_on t s l))

  still_first : (c : Code) (s : ℕ) → Still l (or_else (nodes_given (first_of c (changes_on s l))) nil)
  still_first c s t p = fresh t (omega (arith, count_first t c (changes_on s l), count_on t s l))

  still_roots : (g : Forest) → Still l g → StillLabels l (root_labels g)
  still_roots g h t p = h t (omega (arith, count_roots t g))

  still_new : (rs : List Label) → StillLabels l (replacing_labels (mark_labels l rs))
  still_new [] t p = absurd (omega arith)
  still_new (r ∷ rs) t p = elim (cases_lt 0 (count_labels t (replacing_labels (mark_labels l rs)))) [
    | inl q ↦ still_new rs t (omega arith)
    | inr q ↦ still_roots (or_else (nodes_given (first_of ReplaceNode (changes_on r.id l))) nil) (still_first ReplaceNode r.id) t
        (omega (arith, count_labels-++ t (root_labels (or_else (nodes_given (first_of ReplaceNode (changes_on r.id l))) nil)) (replacing_labels (mark_labels l rs))))
  ]

  pub stages : (d : Forest) → Level d → apply l d ≡ all_stages_at_once (mark l d)
  unfolding apply
  stages nil h = refl
  stages (node r as' k f) h =
      go (still_joined InsertBefore r.id) (still_joined InsertAfter r.id) (still_joined InsertFirst r.id) (still_joined InsertInto r.id)
      (still_joined InsertLast r.id) (stages k h.1) (stages f h.2)
    where
      here : List Change
      here = changes_on r.id l

      a : NodeChanges
      a = node_changes here

      come : List Label
      come = root_labels (joined_nodes InsertAttributes here)

      below : Forest
      below = stage_3_replaced_nodes l (stage_2_before_after_first_last l (stage_1_into_attributes_values_names l k))

      labels : List Label
      labels = insert_labels (replacing_labels (mark_labels l as') ++ come) (kept_labels (mark_labels l as'))

      -- the node itself, by what is done to it: replaced, deleted, its content replaced, or none of these
      body : (by deleted new : Option Change) → first_of ReplaceNode here ≡ by → first_of Delete here ≡ deleted → first_of ReplaceContent here ≡ new
          → Still l (or_else (nodes_given (first_of ReplaceNode here)) nil) → Still l (or_else (nodes_given (first_of ReplaceContent here)) nil)
          → Still l (joined_nodes InsertFirst here) → Still l (joined_nodes InsertInto here) → Still l (joined_nodes InsertLast here)
          → apply l k ≡ all_stages_at_once (mark l k) → without_change Delete l (after_stage_3 l come as') ≡ labels
          → stage_5_deletions l (stage_4_replaced_content l (or_else (nodes_given (first_of ReplaceNode here))
          (node (edited l r) (after_stage_3 l come as') (joined_nodes InsertFirst here ⊕ (joined_nodes InsertInto here ⊕ below) ⊕ joined_nodes InsertLast here) nil)))
          ≡ cond (removed a) (or_else (nodes_given (first_of ReplaceNode here)) nil) (node (relabelled r a) labels (children_after a (all_stages_at_once (mark l k))) nil)
      body (Some o) deleted new e_by e_deleted e_new h_by h_new h_first h_into h_last hk ha =
          let w : Still l o.nodes = rw e_by at h_by in rw (e_by, still_stage_4 l o.nodes w, still_stage_5 l o.nodes w)
      body None (Some o) new e_by e_deleted e_new h_by h_new h_first h_into h_last hk ha = rw (e_by, e_deleted)
      body None None (Some o) e_by e_deleted e_new h_by h_new h_first h_into h_last hk ha =
          let w : Still l o.nodes = rw e_new at h_new in rw (e_by, e_deleted, e_new, ha, still_stage_5 l o.nodes w)
      body None None None e_by e_deleted e_new h_by h_new h_first h_into h_last hk ha =
          rw (e_by, e_deleted, e_new, ha) (simp (stage_4-⊕ l, stage_5-⊕ l, still_stage_4 l, still_stage_5 l, hk, ⊕-assoc))

      go : Still l (joined_nodes InsertBefore here) → Still l (joined_nodes InsertAfter here)
          → Still l (joined_nodes InsertFirst here) → Still l (joined_nodes InsertInto here) → Still l (joined_nodes InsertLast here)
          → apply l k ≡ all_stages_at_once (mark l k) → apply l f ≡ all_stages_at_once (mark l f) → apply l (node r as' k f) ≡ all_stages_at_once (mark l (node r as' k f))
      go h_before h_after h_first h_into h_last hk hf =
          simp (stage_2-⊕ l, stage_3-⊕ l, stage_4-⊕ l, stage_5-⊕ l, still_stage_2 l, still_stage_3 l, still_stage_4 l, still_stage_5 l)
          (rw (
            body (first_of ReplaceNode here) (first_of Delete here) (first_of ReplaceContent here) refl refl refl (still_first ReplaceNode r.id) (still_first ReplaceContent r.id)
                h_first h_into h_last hk
                (attributes_after_stages l come as' (still_roots (joined_nodes InsertAttributes here) (still_joined InsertAttributes r.id)) (still_new as') h.0),
            hf,
          ))
