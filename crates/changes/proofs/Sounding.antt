-- The changed document is sound.
use Rattle.std.proofs.Common.{◌≡◌, ℕ, ◌+◌, ◌<◌, ◌≤◌, Bool, true, false, cond, eqb, ltb, List, [], ◌∷◌, ◌++◌, Some, None, Option, refl, arith}
use Rattle.std.proofs.lemmas.Bool.{and_from, and_parts, eqb-false}
use Rattle.records.specs.Formed.{fields_suit_kind}
use Rattle.records.specs.declared.nodes.Kind.{Kind}
use Rattle.records.specs.declared.nodes.Kind.TheVariants.{Attribute, Element, Text}
use Rattle.document.specs.Tree.{Label, Formed, Attributes, Forest, nil, node, one, count_labels, count, Above, count_names, Holds, Sound}
use Rattle.document.proofs.Counting.{above_uncounted, one_refl, one_zero}
use Rattle.document.proofs.Gathering.{formed_above}
use Rattle.document.proofs.Tested.{some_none}
use Rattle.changes.specs.Changes.{insert_label, insert_labels, root_labels, or_else, ◌⊕◌}
use Rattle.changes.specs.Marks.{MarkedLabel, replacing_labels, relabelled, NodeChanges, unmark, unmark_labels, kept_labels, removed, MarkedForest, children_after, all_stages_at_once, no_marks, marked}
use Rattle.changes.specs.Inverse.{old_if_new, removed_labels, labels_undone}
use Rattle.changes.proofs.Counting.{count-⊕}
use Rattle.changes.proofs.Reducing.{kept_not_replaced}
use Rattle.changes.proofs.Stages.{Over, Rising, rising_insert_labels, rising_above}
use Rattle.changes.proofs.Fitting.{AttributeRow, Among, FitLabels, Fit, Given, Revalued, Renamed, Fitting, Instead, Content, sound-⊕}
use Rattle.changes.proofs.Keeping.{unmark_labels_nil, unmark_nil, beside_sound, inside_sound}
use Rattle.changes.proofs.Leading.{rising_kept}
use Rattle.changes.proofs.Naming.{name_is, names_by_labels, count_names-++, Named}

-- ATTRIBUTES AFTER THE CHANGES: attributes still
attributes_insert : (x : Label) (l : List Label) → x.kind ≡ Attribute → Formed x → Attributes l → Attributes (insert_label x l)
attributes_insert x [] p q h = (p, q, tt)
attributes_insert x (y ∷ l) p q h = go (ltb x.id y.id) (attributes_insert x l p q h.2)
  where
    go : (b : Bool) → Attributes (insert_label x l) → Attributes (cond b (x ∷ y ∷ l) (y ∷ insert_label x l))
    go true k = (p, q, h)
    go false k = (h.0, h.1, k)

attributes_inserts : (xs l : List Label) → Attributes xs → Attributes l → Attributes (insert_labels xs l)
attributes_inserts [] l h k = k
attributes_inserts (x ∷ xs) l h k = attributes_insert x (insert_labels xs l) h.0 h.1 (attributes_inserts xs l h.2 k)

attributes-++ : (xs ys : List Label) → Attributes xs → Attributes ys → Attributes (xs ++ ys)
attributes-++ [] ys h k = k
attributes-++ (x ∷ xs) ys h k = (h.0, h.1, attributes-++ xs ys h.2 k)

row_attributes : (f : Forest) → AttributeRow f → Attributes (root_labels f)
row_attributes nil h = tt
row_attributes (node r as' k f) h = (h.0, h.1, row_attributes f h.4)

among_attributes : (κ : Kind) (f : Forest) → Among κ f → Attributes (root_labels f)
among_attributes Element f h = row_attributes f h
among_attributes Attribute f h = rw h tt
among_attributes Text f h = rw h tt

replacing_attributes : (l : List MarkedLabel) → FitLabels l → Attributes (replacing_labels l)
replacing_attributes [] h = tt
replacing_attributes (m ∷ l) h =
    attributes-++ (root_labels (or_else m.changes.replaced nil)) (replacing_labels l) (own m.changes.replaced h.0.replaced) (replacing_attributes l h.1)
  where
    own : (o : Option Forest) → Given AttributeRow o → Attributes (root_labels (or_else o nil))
    own None q = tt
    own (Some f) q = row_attributes f q

-- new name and value suit the kind
formed_relabelled : (κ : Kind) (r : Label) (a : NodeChanges) → r.kind ≡ κ → Formed r → Revalued κ a.revalued → Renamed κ a.renamed → Formed (relabelled r a)
formed_relabelled κ r a e h v n =
    and_from (ltb 0 r.id) (fields_suit_kind r.kind (or_else a.renamed r.name) (or_else a.revalued r.value)) u.0
    (rw e (fields κ a.renamed a.revalued v n (rw e at u.1)))
  where
    u : (ltb 0 r.id ≡ true) × (fields_suit_kind r.kind r.name r.value ≡ true)
    u = and_parts (ltb 0 r.id) (fields_suit_kind r.kind r.name r.value) h

    fields : (μ : Kind) (o p : Option ℕ) → Revalued μ p → Renamed μ o → fields_suit_kind μ r.name r.value ≡ true
        → fields_suit_kind μ (or_else o r.name) (or_else p r.value) ≡ true
    fields Element None p w q t = rw w t
    fields Element (Some m) p w q t = rw (w, q) (and_parts (ltb 0 r.name) (eqb r.value 0) t).1
    fields Attribute None p w q t = t
    fields Attribute (Some m) p w q t = q
    fields Text o p w q t = rw q t

kept_attributes : (l : List MarkedLabel) → Attributes (unmark_labels l) → FitLabels l → Attributes (kept_labels l)
kept_attributes [] s h = tt
kept_attributes (m ∷ l) s h = go (removed m.changes) (kept_attributes l s.2 h.1)
  where
    go : (b : Bool) → Attributes (kept_labels l) → Attributes (cond b (kept_labels l) (relabelled m.label m.changes ∷ kept_labels l))
    go true k = k
    go false k = (s.0, formed_relabelled Attribute m.label m.changes s.0 s.1 h.0.revalued h.0.renamed, k)

-- in ascending identifiers
over_zero : (l : List Label) → Over 0 l
over_zero [] = tt
over_zero (r ∷ l) = (omega arith, over_zero l)

attributes_above_zero : (l : List Label) → Attributes l → count_labels 0 l ≡ 0
attributes_above_zero [] h = refl
attributes_above_zero (r ∷ l) h = omega (arith, above_uncounted r.id (formed_above r h.1), attributes_above_zero l h.2)

above_rising : (n : ℕ) (l : List Label) → Over n l → Rising l → count_labels n l ≡ 0 → ((t : ℕ) → count_labels t l ≤ 1) → Above n l
above_rising n [] o h z c = tt
above_rising n (r ∷ l) o h z c = (less, above_rising r.id l h.0 h.1 (omega (arith, c r.id, one_refl r.id)) (λ t. omega (arith, c t)))
  where
    less : n < r.id
    less = let w : ¬ (r.id ≡ n) = eqb-false r.id n (one_zero (eqb r.id n) (omega arith)) in let v = o.0 in omega arith

-- with no name twice
count_names_insert : (n : ℕ) (x : Label) (l : List Label) → count_names n (insert_label x l) ≡ one (eqb x.name n) + count_names n l
count_names_insert n x [] = refl
count_names_insert n x (y ∷ l) = go (ltb x.id y.id) (count_names_insert n x l)
  where
    go : (b : Bool) → count_names n (insert_label x l) ≡ one (eqb x.name n) + count_names n l
        → count_names n (cond b (x ∷ y ∷ l) (y ∷ insert_label x l)) ≡ one (eqb x.name n) + count_names n (y ∷ l)
    go true h = refl
    go false h = omega arith

pub count_names_inserts : (n : ℕ) (xs l : List Label) → count_names n (insert_labels xs l) ≡ count_names n xs + count_names n l
count_names_inserts n [] l = omega arith
count_names_inserts n (x ∷ xs) l = omega (arith, count_names_insert n x (insert_labels xs l), count_names_inserts n xs l)

new_name_counts : (n : ℕ) (o : Option ℕ) (m : ℕ) → one (eqb (or_else o m) n) + name_is n (old_if_new o m) ≡ one (eqb m n) + name_is n o
new_name_counts n None m = refl
new_name_counts n (Some v) m = omega arith

-- the names that come, those that stay, those that went and the old ones of those renamed are the old and the given ones
pub names_balance : (n : ℕ) (l : List MarkedLabel)
    → count_names n (replacing_labels l) + (count_names n (kept_labels l) + (count_names n (removed_labels l) + names_by_labels n (labels_undone l)))
    ≤ count_names n (unmark_labels l) + names_by_labels n l
names_balance n [] = omega arith
names_balance n (m ∷ l) = go (removed m.changes) refl (names_balance n l)
  where
    a : NodeChanges
    a = m.changes

    plus : count_names n (replacing_labels (m ∷ l)) ≡ count_names n (root_labels (or_else a.replaced nil)) + count_names n (replacing_labels l)
    plus = count_names-++ n (root_labels (or_else a.replaced nil)) (replacing_labels l)

    go : (b : Bool) → removed a ≡ b
        → count_names n (replacing_labels l) + (count_names n (kept_labels l) + (count_names n (removed_labels l) + names_by_labels n (labels_undone l)))
        ≤ count_names n (unmark_labels l) + names_by_labels n l
        → count_names n (replacing_labels (m ∷ l)) + (count_names n (kept_labels (m ∷ l)) + (count_names n (removed_labels (m ∷ l)) + names_by_labels n (labels_undone (m ∷ l))))
        ≤ count_names n (unmark_labels (m ∷ l)) + names_by_labels n (m ∷ l)
    go true e h = rw e (omega (arith, plus))
    go false e h =
        let z : count_names n (root_labels (or_else a.replaced nil)) ≡ 0 = rw (kept_not_replaced a.replaced a.deleted e) in
        rw e (omega (arith, plus, new_name_counts n a.renamed m.label.name))

-- the attributes of a node that stays
labels_sound : (κ : Kind) (a : NodeChanges) (as' : List MarkedLabel) → Attributes (unmark_labels as') → Above 0 (unmark_labels as') → Fitting κ a → FitLabels as'
    → ((n : ℕ) → count_names n (unmark_labels as') + (count_names n (root_labels a.attributes) + names_by_labels n as') ≤ 1)
    → ((t : ℕ) → count_labels t (insert_labels (replacing_labels as' ++ root_labels a.attributes) (kept_labels as')) ≤ 1)
    → Attributes (insert_labels (replacing_labels as' ++ root_labels a.attributes) (kept_labels as'))
    × Above 0 (insert_labels (replacing_labels as' ++ root_labels a.attributes) (kept_labels as'))
    × ((n : ℕ) → count_names n (insert_labels (replacing_labels as' ++ root_labels a.attributes) (kept_labels as')) ≤ 1)
labels_sound κ a as' s o h l names once = (
  all,
  above_rising 0 after (over_zero after) (rising_insert_labels come (kept_labels as') (rising_kept as' (rising_above 0 (unmark_labels as') o))) (attributes_above_zero after all) once,
  λ n. omega (arith, count_names_inserts n come (kept_labels as'), count_names-++ n (replacing_labels as') (root_labels a.attributes), names_balance n as', names n),
)
  where
    come : List Label
    come = replacing_labels as' ++ root_labels a.attributes

    after : List Label
    after = insert_labels come (kept_labels as')

    all : Attributes after
    all = attributes_inserts come (kept_labels as')
        (attributes-++ (replacing_labels as') (root_labels a.attributes) (replacing_attributes as' l) (among_attributes κ a.attributes h.attributes)) (kept_attributes as' s l)

-- a text keeps nothing below it
holds_after : (κ : Kind) (a : NodeChanges) (as' : List MarkedLabel) (k : MarkedForest) → Holds κ (unmark_labels as') (unmark k) → Fitting κ a
    → Holds κ (insert_labels (replacing_labels as' ++ root_labels a.attributes) (kept_labels as')) (children_after a (all_stages_at_once k))
holds_after Element a as' k s h = tt
holds_after Attribute a as' k s h = absurd s
holds_after Text a as' k s h =
    rw (unmark_labels_nil as' s.0, unmark_nil k s.1, h.attributes, h.content, h.first, h.into, h.last) (refl, refl)

pub instead_sound : (κ : Kind) (as' : List Label) (k : Forest) (o : Option Forest) → Holds κ as' k → Given (Instead κ) o → Sound (or_else o nil)
instead_sound κ as' k None s h = tt
instead_sound Element as' k (Some f) s h = h
instead_sound Attribute as' k (Some f) s h = absurd s
instead_sound Text as' k (Some f) s h = h

pub content_sound : (κ : Kind) (c : Forest) → Content κ (Some c) → Sound c
content_sound Element c h = h.0
content_sound Attribute c h = absurd (some_none c h)
content_sound Text c h = absurd (some_none c h)

pub sound_after : (m : MarkedForest) → Sound (unmark m) → Fit m → Named m → ((t : ℕ) → count t (all_stages_at_once m) ≤ 1) → Sound (all_stages_at_once m)
sound_after no_marks s h n c = tt
sound_after (marked r a as' k f) s h n c =
    sound-⊕ a.before _ (beside_sound r.kind a.before h.0.before)
    (sound-⊕ mid _ (middle (removed a) refl (sound_after k s.3 h.2 n.1))
    (sound-⊕ a.after _ (beside_sound r.kind a.after h.0.after) (sound_after f s.4 h.3 n.2 (λ t. omega (arith, c t, split t)))))
  where
    labels : List Label
    labels = insert_labels (replacing_labels as' ++ root_labels a.attributes) (kept_labels as')

    mid : Forest
    mid = cond (removed a) (or_else a.replaced nil) (node (relabelled r a) labels (children_after a (all_stages_at_once k)) nil)

    split : (t : ℕ) → count t (all_stages_at_once (marked r a as' k f)) ≡ count t a.before + (count t mid + (count t a.after + count t (all_stages_at_once f)))
    split t = omega (
      arith,
      count-⊕ t a.before (mid ⊕ (a.after ⊕ all_stages_at_once f)),
      count-⊕ t mid (a.after ⊕ all_stages_at_once f),
      count-⊕ t a.after (all_stages_at_once f),
    )

    children : (o : Option Forest) → a.content ≡ o → (((t : ℕ) → count t (all_stages_at_once k) ≤ 1) → Sound (all_stages_at_once k))
        → ((t : ℕ) → count t (children_after a (all_stages_at_once k)) ≤ 1) → Sound (children_after a (all_stages_at_once k))
    children (Some x) e q b = rw e (content_sound r.kind x (rw e at h.0.content))
    children None e q b =
        rw e (sound-⊕ a.first _ (inside_sound r.kind a.first h.0.first)
        (sound-⊕ a.into _ (inside_sound r.kind a.into h.0.into)
        (sound-⊕ (all_stages_at_once k) a.last (q (λ t. let u = rw e at (b t) in
        omega (
          arith,
          count-⊕ t a.first (a.into ⊕ (all_stages_at_once k ⊕ a.last)),
          count-⊕ t a.into (all_stages_at_once k ⊕ a.last),
          count-⊕ t (all_stages_at_once k) a.last,
        )))
        (inside_sound r.kind a.last h.0.last))))

    middle : (b : Bool) → removed a ≡ b → (((t : ℕ) → count t (all_stages_at_once k) ≤ 1) → Sound (all_stages_at_once k)) → Sound mid
    middle true e q = rw e (instead_sound r.kind (unmark_labels as') (unmark k) a.replaced s.1 h.0.replaced)
    middle false e q =
        let whole : (t : ℕ) → count t mid ≤ 1 = λ t. omega (arith, c t, split t) in
        let inner : (t : ℕ) → one (eqb r.id t) + (count_labels t labels + (count t (children_after a (all_stages_at_once k)) + 0)) ≤ 1 = λ t. rw e at (whole t) in
        rw e (
          formed_relabelled r.kind r a refl s.0 h.0.revalued h.0.renamed,
          holds_after r.kind a as' k s.1 h.0,
          labels_sound r.kind a as' s.2.0 s.2.1 h.0 h.1 n.0 (λ t. omega (arith, inner t)),
          children a.content refl q (λ t. omega (arith, inner t)),
          tt,
        )
