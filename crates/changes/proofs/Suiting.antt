-- The changes of a marked document suit that document, where its marks fit.
use Rattle.std.proofs.Common.{◌≡◌, ℕ, ◌+◌, ◌≤◌, Bool, true, false, cond, not, ◌&&◌, ◌||◌, eqb, ltb, List, [], ◌∷◌, ◌++◌, Some, None, Option, sym, refl, ◌∙◌, true≢false, arith}
use Rattle.std.proofs.lemmas.Bool.{and_from, or_right, or_left, not_from_false, lt-ltb, eq-eqb, and_right}
use Rattle.records.specs.Formed.{fields_suit_code, code_number}
use Rattle.records.specs.declared.nodes.Kind.{Kind}
use Rattle.records.specs.declared.nodes.Kind.TheVariants.{Element, Attribute, Text}
use Rattle.records.specs.declared.operations.Code.{Code}
use Rattle.records.specs.declared.operations.Code.TheVariants.{Rename, InsertBefore, InsertAfter, InsertFirst, InsertInto, InsertLast, InsertAttributes, Delete, ReplaceNode, ReplaceValue, ReplaceContent}
use Rattle.document.specs.Tree.{Forest, Sound, node, Label, Holds, nil, one, Attributes, count, count_labels}
use Rattle.document.specs.Table.{is_attribute}
use Rattle.document.proofs.Counting.{one_refl, one_zero}
use Rattle.document.proofs.Gathering.{formed_above}
use Rattle.document.proofs.Tested.{some_none}
use Rattle.changes.specs.Changes.{Change, same_code, is_some, first_of, changes_on}
use Rattle.changes.specs.Marks.{NodeChanges, MarkedLabel, unmark, unmark_labels, MarkedForest, no_marks, marked}
use Rattle.changes.specs.Reduced.{insertion, deletion_of, replacement, new_value, new_name, changes_by_code, label_changes_in_order, changes_in_order}
use Rattle.changes.specs.Overriding.{stands_in}
use Rattle.changes.specs.Tests.{FormedChange, SoundRoots, nodes_suit, target_suits, RootHolds, no_attribute_roots, attribute_roots, is_empty, is_element, one_text_or_none, is_text, Found, find, kind_suits, spares_root, root_is, find_label, first_refused, second_of_code, only_once}
use Rattle.changes.proofs.Weighing.{total}
use Rattle.changes.proofs.Fitting.{Fit, AttributeRow, Beside, Inside, Among, Instead, Content, Revalued, Renamed, Each, Fitting, each-++, FitLabels}
use Rattle.changes.proofs.Finding.{find_label_itself, find_label_behind, find_itself, find_attribute, find_below, find_behind}
use Rattle.changes.proofs.Passing.{RootStays}

-- EACH CHANGE alone: a change of a known kind of target passes
pub record FitsHere (d : Forest) (o : Change) : Type 0 where
  pub formed : FormedChange o
  pub sound : SoundRoots o.nodes
  pub nodes_fit : nodes_suit o.code o.nodes ≡ true
  pub present : stands_in o.target d ≡ true
  pub target_fits : target_suits d o ≡ true

-- sound rows as the tests on the nodes of a change see them
holds_root_back : (κ : Kind) (as' : List Label) (k : Forest) → Holds κ as' k → RootHolds κ as' k × (not (is_attribute κ) ≡ true)
holds_root_back Element as' k h = (tt, refl)
holds_root_back Attribute as' k h = absurd h
holds_root_back Text as' k h = (h, refl)

pub roots_sound : (f : Forest) → Sound f → SoundRoots f × (no_attribute_roots f ≡ true)
roots_sound nil s = (tt, refl)
roots_sound (node r as' k f) s =
    let u = holds_root_back r.kind as' k s.1 in
    let v = roots_sound f s.4 in
    ((s.0, u.0, s.2, s.3, v.0), and_from (not (is_attribute r.kind)) (no_attribute_roots f) u.1 v.1)

roots_row : (f : Forest) → AttributeRow f → SoundRoots f × (attribute_roots f ≡ true)
roots_row nil h = (tt, refl)
roots_row (node r as' k f) h =
    let v = roots_row f h.4 in
    rw (h.2, h.3, h.0) ((rw h.0 at h.1, (refl, refl), (tt, tt, λ t. omega arith), tt, v.0), v.1)

-- what fits beside, into and in the stead of a node, as the tests see it
beside_given : (κ : Kind) (f : Forest) → Beside κ f → is_empty f ≡ false → SoundRoots f × (no_attribute_roots f ≡ true) × (not (is_attribute κ) ≡ true)
beside_given Element f h e = let u = roots_sound f h in (u.0, u.1, refl)
beside_given Attribute f h e = absurd (true≢false (rw h at e))
beside_given Text f h e = let u = roots_sound f h in (u.0, u.1, refl)

inside_given : (κ : Kind) (f : Forest) → Inside κ f → is_empty f ≡ false → SoundRoots f × (no_attribute_roots f ≡ true) × (is_element κ ≡ true)
inside_given Element f h e = let u = roots_sound f h in (u.0, u.1, refl)
inside_given Attribute f h e = absurd (true≢false (rw h at e))
inside_given Text f h e = absurd (true≢false (rw h at e))

among_given : (κ : Kind) (f : Forest) → Among κ f → is_empty f ≡ false → SoundRoots f × (attribute_roots f ≡ true) × (is_element κ ≡ true)
among_given Element f h e = let u = roots_row f h in (u.0, u.1, refl)
among_given Attribute f h e = absurd (true≢false (rw h at e))
among_given Text f h e = absurd (true≢false (rw h at e))

instead_given : (κ : Kind) (f : Forest) → Instead κ f
    → SoundRoots f × ((attribute_roots f || no_attribute_roots f) ≡ true) × (cond (is_attribute κ) (attribute_roots f) (no_attribute_roots f) ≡ true)
instead_given Element f h = let u = roots_sound f h in (u.0, or_right (attribute_roots f) (no_attribute_roots f) u.1, u.1)
instead_given Attribute f h = let u = roots_row f h in (u.0, or_left (attribute_roots f) (no_attribute_roots f) u.1, u.1)
instead_given Text f h = let u = roots_sound f h in (u.0, or_right (attribute_roots f) (no_attribute_roots f) u.1, u.1)

content_given : (κ : Kind) (f : Forest) → Content κ (Some f) → SoundRoots f × (one_text_or_none f ≡ true) × (is_element κ ≡ true)
content_given Element f h = ((roots_sound f h.0).0, h.1, refl)
content_given Attribute f h = absurd (some_none f h)
content_given Text f h = absurd (some_none f h)

value_kind : (κ : Kind) (v : ℕ) → Revalued κ (Some v) → not (is_element κ) ≡ true
value_kind Element v h = absurd (some_none v h)
value_kind Attribute v h = refl
value_kind Text v h = refl

name_kind : (κ : Kind) (n : ℕ) → Renamed κ (Some n) → (ltb 0 n ≡ true) × (not (is_text κ) ≡ true)
name_kind Element n h = (h, refl)
name_kind Attribute n h = (h, refl)
name_kind Text n h = absurd (some_none n h)

module _ (d : Forest) (t : ℕ) (x : Found) (e : find t d ≡ Some x) (pos : ltb 0 t ≡ true) (there : stands_in t d ≡ true) where
  -- whether the root's changes spare it
  here : (o : Change) → o.target ≡ t → fields_suit_code o.code o.name o.value ≡ true → SoundRoots o.nodes → nodes_suit o.code o.nodes ≡ true
      → kind_suits o.code x.kind o.nodes ≡ true → (spares_root o.code || not (root_is t d)) ≡ true → FitsHere d o
  here o q f s n k w = record {
    formed = rw (q, pos) f;
    sound = s;
    nodes_fit = n;
    present = rw q there;
    target_fits = rw (q, e) (and_from (kind_suits o.code x.kind o.nodes) (spares_root o.code || not (root_is t d)) k w);
  }

  insertion_fits : (c : Code) (f : Forest) → fields_suit_code c 0 0 ≡ true
      → (is_empty f ≡ false → SoundRoots f × (nodes_suit c f ≡ true) × (kind_suits c x.kind f ≡ true) × ((spares_root c || not (root_is t d)) ≡ true))
      → Each (FitsHere d) (insertion t c f)
  insertion_fits c nil w h = tt
  insertion_fits c (node r as' k f) w h =
      let u = h refl in
      (here (record { target = t; code = c; nodes = node r as' k f; name = 0; value = 0 }) refl w u.0 u.1 u.2 u.3, tt)

  some_nodes : (f : Forest) (b : Bool) → is_empty f ≡ false → b ≡ true → (not (is_empty f) && b) ≡ true
  some_nodes f b e q = and_from (not (is_empty f)) b (not_from_false (is_empty f) e) q

  -- nothing stands beside the root, and it does not go
  not_root : (root_is t d ≡ true → ⊥) → not (root_is t d) ≡ true
  not_root h = go (root_is t d) refl
    where
      go : (b : Bool) → root_is t d ≡ b → not (root_is t d) ≡ true
      go true q = absurd (h q)
      go false q = rw q

  module _ (a : NodeChanges) (h : Fitting x.kind a) (stays : root_is t d ≡ true → RootStays a) where
    before_fits : Each (FitsHere d) (insertion t InsertBefore a.before)
    before_fits = insertion_fits InsertBefore a.before refl (λ q. let u = beside_given x.kind a.before h.before q in
        (u.0, some_nodes a.before (no_attribute_roots a.before) q u.1, u.2, not_root (λ w. true≢false (rw (stays w).0 at q))))

    after_fits : Each (FitsHere d) (insertion t InsertAfter a.after)
    after_fits = insertion_fits InsertAfter a.after refl (λ q. let u = beside_given x.kind a.after h.after q in
        (u.0, some_nodes a.after (no_attribute_roots a.after) q u.1, u.2, not_root (λ w. true≢false (rw (stays w).1 at q))))

    first_fits_here : Each (FitsHere d) (insertion t InsertFirst a.first)
    first_fits_here = insertion_fits InsertFirst a.first refl (λ q. let u = inside_given x.kind a.first h.first q in
        (u.0, some_nodes a.first (no_attribute_roots a.first) q u.1, u.2, refl))

    into_fits : Each (FitsHere d) (insertion t InsertInto a.into)
    into_fits = insertion_fits InsertInto a.into refl (λ q. let u = inside_given x.kind a.into h.into q in
        (u.0, some_nodes a.into (no_attribute_roots a.into) q u.1, u.2, refl))

    last_fits : Each (FitsHere d) (insertion t InsertLast a.last)
    last_fits = insertion_fits InsertLast a.last refl (λ q. let u = inside_given x.kind a.last h.last q in
        (u.0, some_nodes a.last (no_attribute_roots a.last) q u.1, u.2, refl))

    attributes_fit : Each (FitsHere d) (insertion t InsertAttributes a.attributes)
    attributes_fit = insertion_fits InsertAttributes a.attributes refl (λ q. let u = among_given x.kind a.attributes h.attributes q in
        (u.0, some_nodes a.attributes (attribute_roots a.attributes) q u.1, u.2, refl))

    deletion_fits_here : (b : Bool) → a.deleted ≡ b → Each (FitsHere d) (deletion_of t b)
    deletion_fits_here false e = tt
    deletion_fits_here true e =
        (here (record { target = t; code = Delete; nodes = nil; name = 0; value = 0 }) refl refl tt refl refl (not_root (λ w. true≢false (sym e ∙ (stays w).2))), tt)

    replacement_fits : (o : Option Forest) → a.replaced ≡ o → Each (FitsHere d) (replacement t ReplaceNode o)
    replacement_fits None e = tt
    replacement_fits (Some f) e =
        let u = instead_given x.kind f (rw e at h.replaced) in
        (here (record { target = t; code = ReplaceNode; nodes = f; name = 0; value = 0 }) refl refl u.0 u.1 u.2 (not_root (λ w. some_none f (sym e ∙ (stays w).3))), tt)

    value_fits : (o : Option ℕ) → a.revalued ≡ o → Each (FitsHere d) (new_value t o)
    value_fits None e = tt
    value_fits (Some v) e =
        (here (record { target = t; code = ReplaceValue; nodes = nil; name = 0; value = v }) refl refl tt refl (value_kind x.kind v (rw e at h.revalued)) refl, tt)

    content_fits : (o : Option Forest) → a.content ≡ o → Each (FitsHere d) (replacement t ReplaceContent o)
    content_fits None e = tt
    content_fits (Some f) e =
        let u = content_given x.kind f (rw e at h.content) in
        (here (record { target = t; code = ReplaceContent; nodes = f; name = 0; value = 0 }) refl refl u.0 u.1 u.2 refl, tt)

    name_fits : (o : Option ℕ) → a.renamed ≡ o → Each (FitsHere d) (new_name t o)
    name_fits None e = tt
    name_fits (Some n) e =
        let u = name_kind x.kind n (rw e at h.renamed) in
        (here (record { target = t; code = Rename; nodes = nil; name = n; value = 0 }) refl (rw u.0) tt refl u.1 refl, tt)

    pub changes_fit : Each (FitsHere d) (changes_by_code t a)
    changes_fit =
        each-++ (FitsHere d) (insertion t InsertBefore a.before) _ before_fits (each-++ (FitsHere d) (insertion t InsertAfter a.after) _ after_fits
        (each-++ (FitsHere d) (insertion t InsertFirst a.first) _ first_fits_here (each-++ (FitsHere d) (insertion t InsertInto a.into) _ into_fits
        (each-++ (FitsHere d) (insertion t InsertLast a.last) _ last_fits (each-++ (FitsHere d) (insertion t InsertAttributes a.attributes) _ attributes_fit
        (each-++ (FitsHere d) (deletion_of t a.deleted) _ (deletion_fits_here a.deleted refl)
        (each-++ (FitsHere d) (replacement t ReplaceNode a.replaced) _ (replacement_fits a.replaced refl)
        (each-++ (FitsHere d) (new_value t a.revalued) _ (value_fits a.revalued refl)
        (each-++ (FitsHere d) (replacement t ReplaceContent a.content) _ (content_fits a.content refl) (name_fits a.renamed refl))))))))))

-- ALL CHANGES of a marked part of a document
-- the part stands in the document, and the root is not in it
abbrev pub Within : Forest → (ℕ → ℕ) → (ℕ → Option Found) → Type 0
Within d counts found = (t : ℕ) → 1 ≤ counts t → (find t d ≡ found t) × (1 ≤ count t d) × (root_is t d ≡ false)

module _ (d : Forest) where
  labels_fit_here : (p : ℕ) (l : List MarkedLabel) → Attributes (unmark_labels l) → FitLabels l → ((t : ℕ) → count_labels t (unmark_labels l) ≤ 1)
      → Within d (λ t. count_labels t (unmark_labels l)) (λ t. find_label p t (unmark_labels l)) → Each (FitsHere d) (label_changes_in_order l)
  labels_fit_here p [] s h c w = tt
  labels_fit_here p (m ∷ l) s h c w =
      let u = w m.label.id (omega (arith, one_refl m.label.id)) in
      each-++ (FitsHere d) (changes_by_code m.label.id m.changes) _
      (changes_fit d m.label.id (record { kind = m.label.kind; element = p }) (u.0 ∙ find_label_itself p m.label (unmark_labels l)) (formed_above m.label s.1)
      (lt-ltb 0 (count m.label.id d) u.1) m.changes (rw s.0 h.0) (λ q. absurd (true≢false (sym q ∙ u.2))))
      (labels_fit_here p l s.2 h.1 (λ t. omega (arith, c t))
      (λ t q. let v = w t (omega arith) in (v.0 ∙ find_label_behind p t m.label (unmark_labels l) (c t) q, v.1, v.2)))

  pub marks_fit_here : (m : MarkedForest) → Sound (unmark m) → Fit m → ((t : ℕ) → count t (unmark m) ≤ 1)
      → Within d (λ t. count t (unmark m)) (λ t. find t (unmark m)) → Each (FitsHere d) (changes_in_order m)
  marks_fit_here no_marks s h c w = tt
  marks_fit_here (marked r a as' k f) s h c w =
      let u = w r.id (omega (arith, one_refl r.id)) in
      each-++ (FitsHere d) (changes_by_code r.id a) _
      (changes_fit d r.id (record { kind = r.kind; element = r.id }) (u.0 ∙ find_itself r (unmark_labels as') (unmark k) (unmark f)) (formed_above r s.0)
      (lt-ltb 0 (count r.id d) u.1) a h.0 (λ q. absurd (true≢false (sym q ∙ u.2))))
      (each-++ (FitsHere d) (label_changes_in_order as') _
      (labels_fit_here r.id as' s.2.0 h.1 (λ t. omega (arith, c t))
      (λ t q. let v = w t (omega arith) in (v.0 ∙ find_attribute r (unmark_labels as') (unmark k) (unmark f) t (c t) q, v.1, v.2)))
      (each-++ (FitsHere d) (changes_in_order k) _
      (marks_fit_here k s.3 h.2 (λ t. omega (arith, c t))
      (λ t q. let v = w t (omega arith) in (v.0 ∙ find_below r (unmark_labels as') (unmark k) (unmark f) t (c t) q, v.1, v.2)))
      (marks_fit_here f s.4 h.3 (λ t. omega (arith, c t))
      (λ t q. let v = w t (omega arith) in (v.0 ∙ find_behind r (unmark_labels as') (unmark k) (unmark f) t (c t) q, v.1, v.2)))))

-- a document, whose root stays
abbrev pub RootKept : MarkedForest → Type 0
RootKept no_marks = Unit {0}
RootKept (marked r a as' k f) = RootStays a

pub document_fits : (m : MarkedForest) → Sound (unmark m) → ((t : ℕ) → count t (unmark m) ≤ 1) → Fit m → RootKept m → Each (FitsHere (unmark m)) (changes_in_order m)
document_fits no_marks s c h q = tt
document_fits (marked r a as' k f) s c h q =
    each-++ (FitsHere d) (changes_by_code r.id a) _
    (changes_fit d r.id (record { kind = r.kind; element = r.id }) (find_itself r (unmark_labels as') (unmark k) (unmark f)) (formed_above r s.0)
    (lt-ltb 0 (count r.id d) (omega (arith, one_refl r.id))) a h.0 (λ e. q))
    (each-++ (FitsHere d) (label_changes_in_order as') _
    (labels_fit_here d r.id as' s.2.0 h.1 (λ t. omega (arith, c t))
    (λ t p. (find_attribute r (unmark_labels as') (unmark k) (unmark f) t (c t) p, omega arith, one_zero (eqb r.id t) (omega (arith, c t)))))
    (each-++ (FitsHere d) (changes_in_order k) _
    (marks_fit_here d k s.3 h.2 (λ t. omega (arith, c t))
    (λ t p. (find_below r (unmark_labels as') (unmark k) (unmark f) t (c t) p, omega arith, one_zero (eqb r.id t) (omega (arith, c t)))))
    (marks_fit_here d f s.4 h.3 (λ t. omega (arith, c t))
    (λ t p. (find_behind r (unmark_labels as') (unmark k) (unmark f) t (c t) p, omega arith, one_zero (eqb r.id t) (omega (arith, c t)))))))
  where
    d : Forest
    d = node r (unmark_labels as') (unmark k) (unmark f)

-- ONE CHANGE of a code on a target
abbrev pub pair : ℕ → Code → Change → ℕ
pair t c o = one (same_code o.code c && eqb o.target t)

pub total-++ : (g : Change → ℕ) (l k : List Change) → total g (l ++ k) ≡ total g l + total g k
total-++ g [] k = omega arith
total-++ g (o ∷ l) k = omega (arith, total-++ g l k)

insertion_pair : (t : ℕ) (c : Code) (s : ℕ) (b : Code) (f : Forest) → total (pair t c) (insertion s b f) ≤ one (same_code b c && eqb s t)
insertion_pair t c s b nil = omega arith
insertion_pair t c s b (node r as' k f) = omega arith

deletion_pair : (t : ℕ) (c : Code) (s : ℕ) (b : Bool) → total (pair t c) (deletion_of s b) ≤ one (same_code Delete c && eqb s t)
deletion_pair t c s true = omega arith
deletion_pair t c s false = omega arith

replacement_pair : (t : ℕ) (c : Code) (s : ℕ) (b : Code) (o : Option Forest) → total (pair t c) (replacement s b o) ≤ one (same_code b c && eqb s t)
replacement_pair t c s b None = omega arith
replacement_pair t c s b (Some f) = omega arith

value_pair : (t : ℕ) (c : Code) (s : ℕ) (o : Option ℕ) → total (pair t c) (new_value s o) ≤ one (same_code ReplaceValue c && eqb s t)
value_pair t c s None = omega arith
value_pair t c s (Some v) = omega arith

name_pair : (t : ℕ) (c : Code) (s : ℕ) (o : Option ℕ) → total (pair t c) (new_name s o) ≤ one (same_code Rename c && eqb s t)
name_pair t c s None = omega arith
name_pair t c s (Some v) = omega arith

abbrev each_code : Bool → Code → ℕ
each_code b c =
    one (same_code InsertBefore c && b) + (one (same_code InsertAfter c && b) + (one (same_code InsertFirst c && b) + (one (same_code InsertInto c && b)
    + (one (same_code InsertLast c && b) + (one (same_code InsertAttributes c && b) + (one (same_code Delete c && b) + (one (same_code ReplaceNode c && b)
    + (one (same_code ReplaceValue c && b) + (one (same_code ReplaceContent c && b) + one (same_code Rename c && b))))))))))

one_code : (b : Bool) (c : Code) → each_code b c ≤ one b
one_code b InsertBefore = omega arith
one_code b InsertAfter = omega arith
one_code b InsertFirst = omega arith
one_code b InsertInto = omega arith
one_code b InsertLast = omega arith
one_code b InsertAttributes = omega arith
one_code b Delete = omega arith
one_code b ReplaceNode = omega arith
one_code b ReplaceValue = omega arith
one_code b ReplaceContent = omega arith
one_code b Rename = omega arith

by_code_pair : (t : ℕ) (c : Code) (s : ℕ) (a : NodeChanges) → total (pair t c) (changes_by_code s a) ≤ one (eqb s t)
by_code_pair t c s a =
    simp total-++ (omega (
      arith,
      insertion_pair t c s InsertBefore a.before,
      insertion_pair t c s InsertAfter a.after,
      insertion_pair t c s InsertFirst a.first,
      insertion_pair t c s InsertInto a.into,
      insertion_pair t c s InsertLast a.last,
      insertion_pair t c s InsertAttributes a.attributes,
      deletion_pair t c s a.deleted,
      replacement_pair t c s ReplaceNode a.replaced,
      value_pair t c s a.revalued,
      replacement_pair t c s ReplaceContent a.content,
      name_pair t c s a.renamed,
      one_code (eqb s t) c,
    ))

labels_pair : (t : ℕ) (c : Code) (l : List MarkedLabel) → total (pair t c) (label_changes_in_order l) ≤ count_labels t (unmark_labels l)
labels_pair t c [] = omega arith
labels_pair t c (m ∷ l) = omega (
  arith,
  total-++ (pair t c) (changes_by_code m.label.id m.changes) (label_changes_in_order l),
  by_code_pair t c m.label.id m.changes,
  labels_pair t c l,
)

pub marks_pair : (t : ℕ) (c : Code) (m : MarkedForest) → total (pair t c) (changes_in_order m) ≤ count t (unmark m)
marks_pair t c no_marks = omega arith
marks_pair t c (marked r a as' k f) =
    omega (
      arith,
      total-++ (pair t c) (changes_by_code r.id a) (label_changes_in_order as' ++ (changes_in_order k ++ changes_in_order f)),
      total-++ (pair t c) (label_changes_in_order as') (changes_in_order k ++ changes_in_order f),
      total-++ (pair t c) (changes_in_order k) (changes_in_order f),
      by_code_pair t c r.id a,
      labels_pair t c as',
      marks_pair t c k,
      marks_pair t c f,
    )

found_counts : (t : ℕ) (c : Code) (e : List Change) → is_some (first_of c (changes_on t e)) ≡ true → 1 ≤ total (pair t c) e
found_counts t c [] h = absurd (true≢false (sym h))
found_counts t c (o ∷ e) h = go (eqb o.target t) (same_code o.code c) refl refl (found_counts t c e)
  where
    go : (a b : Bool) → eqb o.target t ≡ a → same_code o.code c ≡ b → (is_some (first_of c (changes_on t e)) ≡ true → 1 ≤ total (pair t c) e)
        → 1 ≤ total (pair t c) (o ∷ e)
    go true true p q k = rw (q, p) (omega arith)
    go true false p q k = let u : 1 ≤ total (pair t c) e = k (rw (p, q) at h) in omega arith
    go false b p q k = let u : 1 ≤ total (pair t c) e = k (rw p at h) in omega arith

pub once_passes : (e : List Change) (n : ℕ) (l : List Change) → ((t : ℕ) (c : Code) → total (pair t c) e + total (pair t c) l ≤ 1) → first_refused second_of_code e n l ≡ None
once_passes e n [] h = refl
once_passes e n (o ∷ l) h = rw none (once_passes (o ∷ e) (n + 1) l (λ t c. omega (arith, h t c)))
  where
    own : pair o.target o.code o ≡ 1
    own = rw (eq-eqb (code_number o.code) (code_number o.code) refl, eq-eqb o.target o.target refl)

    unseen : (b : Bool) → is_some (first_of o.code (changes_on o.target e)) ≡ b → is_some (first_of o.code (changes_on o.target e)) ≡ false
    unseen false q = q
    unseen true q = absurd (omega (arith, found_counts o.target o.code e q, h o.target o.code, own))

    none : second_of_code e o ≡ false
    none = and_right (only_once o.code) (is_some (first_of o.code (changes_on o.target e))) (unseen (is_some (first_of o.code (changes_on o.target e))) refl)
