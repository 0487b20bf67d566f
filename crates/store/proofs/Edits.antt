-- A node with another name or value.
use Rattle.std.proofs.Common.{◌≡◌, ℕ, ◌+◌, Bool, true, false, cond, ◌&&◌, eqb, ltb, List, [], ◌∷◌, ◌++◌, map, Some, None, Ok, Err, Option, sym, refl, ap, ◌∙◌, arith}
use mathlib.Core.List.{map-append}
use Rattle.std.specs.Option.{option_map}
use Rattle.std.proofs.lemmas.Bool.{both_ways, and_parts, and_from}
use Rattle.std.proofs.lemmas.Bool.Decides.{nat_tests}
use Rattle.records.specs.Formed.{fields_suit_kind}
use Rattle.records.specs.declared.nodes.Kind.{Kind}
use Rattle.records.specs.declared.nodes.Kind.TheVariants.{Element, Attribute, Text}
use Rattle.records.specs.declared.nodes.Node.{Node}
use Rattle.document.specs.Tree.{Label, Forest, nil, node, one, count_labels, count, size_labels, size, Above, Formed, Attributes}
use Rattle.document.specs.Listing.{row, attribute_rows, rows, listing}
use Rattle.faults.specs.declared.StoreFault.TheVariants.{Misformed, Unsuited}
use Rattle.store.specs.Kept.{Shaped, AtMostOne, Kept}
use Rattle.store.specs.Views.{View, view, first_of, first_label, or_else, attribute_view, node_view, view_attribute, view_in}
use Rattle.store.specs.Writes.{named, valued, edit_labels, edit_tree, edited}
use Rattle.store.specs.Says.{Answer, after, is_element, is_text, rename_of, set_value_of}
use Rattle.store.specs.Listed.{renamed_row, revalued_row}
use Rattle.store.specs.Links.{reshown, RenameReshows, SetValueReshows}
use Rattle.store.specs.Statements.{RenameChangesOne, SetValueChangesOne, RenameKeeps, SetValueKeeps}
use Rattle.store.proofs.Along.{Steps, along, mapped_else}
use Rattle.store.proofs.Shapes.{label_kind, holds_others, holds_other_labels}

-- identifiers and kinds stay
pub record Edit (e : Label → Label) : Type 0 where
  pub ids : (r : Label) → (e r).id ≡ r.id
  pub kinds : (r : Label) → (e r).kind ≡ r.kind

naming : (m : ℕ) → Edit (named m)
naming m = record { ids = λ r. refl; kinds = λ r. refl }

valuing : (v : ℕ) → Edit (valued v)
valuing v = record { ids = λ r. refl; kinds = λ r. refl }

module _ (t : ℕ) (e : Label → Label) (same : Edit e) where
  abbrev pub edit_label : Label → Label
  edit_label r = cond (eqb r.id t) (e r) r

  label_id : (r : Label) → (edit_label r).id ≡ r.id
  label_id r = go (eqb r.id t)
    where
      go : (b : Bool) → (cond b (e r) r).id ≡ r.id
      go true = same.ids r
      go false = refl

  edited_node : (r : Label) (as' : List Label) (k f : Forest) → edited t e (node r as' k f) ≡ node (edit_label r) (edit_labels t e as') (edited t e k) (edited t e f)
  edited_node r as' k f = go (eqb r.id t)
    where
      go : (b : Bool) → cond b (node (e r) (edit_labels t e as') (edited t e k) (edited t e f)) (node r (edit_labels t e as') (edited t e k) (edited t e f))
          ≡ node (cond b (e r) r) (edit_labels t e as') (edited t e k) (edited t e f)
      go true = refl
      go false = refl

  -- the rows, one by one
  module _ (E : Node → Node) (rows_same : (p : ℕ) (r : Label) → row p (edit_label r) ≡ E (row p r)) where
    edited_labels : (p : ℕ) (as' : List Label) → attribute_rows p (edit_labels t e as') ≡ map E (attribute_rows p as')
    edited_labels p [] = refl
    edited_labels p (r ∷ l) = rw (rows_same p r, edited_labels p l)

    pub edited_rows : (p : ℕ) (d : Forest) → rows p (edited t e d) ≡ map E (rows p d)
    edited_rows p nil = refl
    edited_rows p (node r as' k f) =
        let A = attribute_rows r.id as' in
        let K = rows r.id k in
        let F = rows p f in
        let u : rows p (edited t e (node r as' k f)) ≡ row p (edit_label r) ∷ (attribute_rows r.id (edit_labels t e as') ++ (rows r.id (edited t e k) ++ rows p (edited t e f))) =
        ap (λ (x : Forest). rows p x) (edited_node r as' k f)
        ∙ ap (λ (i : ℕ). row p (edit_label r) ∷ (attribute_rows i (edit_labels t e as') ++ (rows i (edited t e k) ++ rows p (edited t e f)))) (label_id r) in
        let w : map E (rows p (node r as' k f)) ≡ E (row p r) ∷ (map E A ++ (map E K ++ map E F)) = rw (map-append E A (K ++ F), map-append E K F) in
        u ∙ rw (rows_same p r, edited_labels r.id as', edited_rows r.id k, edited_rows p f) (sym w)

    -- the views, one by one
    first_edited : (d : Forest) → first_of (edited t e d) ≡ first_of d
    first_edited nil = refl
    first_edited (node r as' k f) = ap first_of (edited_node r as' k f) ∙ label_id r

    first_label_edited : (as' : List Label) → first_label (edit_labels t e as') ≡ first_label as'
    first_label_edited [] = refl
    first_label_edited (r ∷ l) = label_id r

    attribute_reshown : (q : ℕ) (r : Label) (l : List Label) → attribute_view q (edit_label r) (edit_labels t e l) ≡ reshown E (attribute_view q r l)
    attribute_reshown q r l =
        ap (λ (x : Node). attribute_seen x (first_label (edit_labels t e l))) (rows_same q r) ∙ ap (λ (i : ℕ). attribute_seen (E (row q r)) i) (first_label_edited l)
      where
        attribute_seen : Node → ℕ → View
        attribute_seen x i = record { row = x; left = 0; first_child = 0; next_sibling = 0; first_attribute = 0; next_attribute = i }

    node_reshown : (p l : ℕ) (r : Label) (as' : List Label) (k f : Forest) → node_view p l (edit_label r) (edit_labels t e as') (edited t e k) (edited t e f) ≡ reshown E (node_view p l r as' k f)
    node_reshown p l r as' k f =
        ap (λ (x : Node). node_seen x (first_of (edited t e k)) (first_of (edited t e f)) (first_label (edit_labels t e as'))) (rows_same p r)
        ∙ ap (λ (i : ℕ). node_seen (E (row p r)) i (first_of (edited t e f)) (first_label (edit_labels t e as'))) (first_edited k)
        ∙ ap (λ (i : ℕ). node_seen (E (row p r)) (first_of k) i (first_label (edit_labels t e as'))) (first_edited f)
        ∙ ap (λ (i : ℕ). node_seen (E (row p r)) (first_of k) (first_of f) i) (first_label_edited as')
      where
        node_seen : Node → ℕ → ℕ → ℕ → View
        node_seen x i j m = record { row = x; left = l; first_child = i; next_sibling = j; first_attribute = m; next_attribute = 0 }

    labels_reshown : (u q : ℕ) (as' : List Label) → view_attribute u q (edit_labels t e as') ≡ option_map (reshown E) (view_attribute u q as')
    labels_reshown u q [] = refl
    labels_reshown u q (r ∷ l) =
        ap (λ (i : ℕ). cond (eqb i u) (Some (attribute_view q (edit_label r) (edit_labels t e l))) (view_attribute u q (edit_labels t e l))) (label_id r)
        ∙ go (eqb r.id u) (labels_reshown u q l)
      where
        go : (b : Bool) → view_attribute u q (edit_labels t e l) ≡ option_map (reshown E) (view_attribute u q l)
            → cond b (Some (attribute_view q (edit_label r) (edit_labels t e l))) (view_attribute u q (edit_labels t e l)) ≡ option_map (reshown E) (cond b (Some (attribute_view q r l)) (view_attribute u q l))
        go true h = ap Some (attribute_reshown q r l)
        go false h = h

    pub edited_views : (u p l : ℕ) (d : Forest) → view_in u p l (edited t e d) ≡ option_map (reshown E) (view_in u p l d)
    edited_views u p l nil = refl
    edited_views u p l (node r as' k f) =
        ap (λ (x : Forest). view_in u p l x) (edited_node r as' k f)
        ∙ ap (λ (i : ℕ). cond (eqb i u) (Some seen_here) (or_else (view_attribute u i (edit_labels t e as')) (or_else (view_in u i 0 (edited t e k)) (view_in u p i (edited t e f))))) (label_id r)
        ∙ go (eqb r.id u) (edited_views u r.id 0 k) (edited_views u p r.id f)
      where
        seen_here : View
        seen_here = node_view p l (edit_label r) (edit_labels t e as') (edited t e k) (edited t e f)

        go : (b : Bool) → view_in u r.id 0 (edited t e k) ≡ option_map (reshown E) (view_in u r.id 0 k) → view_in u p r.id (edited t e f) ≡ option_map (reshown E) (view_in u p r.id f)
            → cond b (Some seen_here) (or_else (view_attribute u r.id (edit_labels t e as')) (or_else (view_in u r.id 0 (edited t e k)) (view_in u p r.id (edited t e f))))
            ≡ option_map (reshown E) (cond b (Some (node_view p l r as' k f)) (or_else (view_attribute u r.id as') (or_else (view_in u r.id 0 k) (view_in u p r.id f))))
        go true i j = ap Some (node_reshown p l r as' k f)
        go false i j =
            rw (labels_reshown u r.id as', i, j)
            (sym (mapped_else (reshown E) (view_attribute u r.id as') (or_else (view_in u r.id 0 k) (view_in u p r.id f))
            ∙ ap (λ (o : Option View). or_else (option_map (reshown E) (view_attribute u r.id as')) o) (mapped_else (reshown E) (view_in u r.id 0 k) (view_in u p r.id f))))

  -- identifiers and sizes
  count_edited_labels : (u : ℕ) (as' : List Label) → count_labels u (edit_labels t e as') ≡ count_labels u as'
  count_edited_labels u [] = refl
  count_edited_labels u (r ∷ l) = rw (label_id r, count_edited_labels u l)

  pub count_edited : (u : ℕ) (d : Forest) → count u (edited t e d) ≡ count u d
  count_edited u nil = refl
  count_edited u (node r as' k f) = ap (count u) (edited_node r as' k f) ∙ rw (label_id r, count_edited_labels u as', count_edited u k, count_edited u f)

  size_edited_labels : (as' : List Label) → size_labels (edit_labels t e as') ≡ size_labels as'
  size_edited_labels [] = refl
  size_edited_labels (r ∷ l) = rw (size_edited_labels l)

  pub size_edited : (d : Forest) → size (edited t e d) ≡ size d
  size_edited nil = refl
  size_edited (node r as' k f) = ap size (edited_node r as' k f) ∙ rw (size_edited_labels as', size_edited k, size_edited f)

  -- the shape
  above_edited : (m : ℕ) (as' : List Label) → Above m as' → Above m (edit_labels t e as')
  above_edited m [] a = tt
  above_edited m (r ∷ l) a = rw (label_id r) (a.0, above_edited r.id l a.1)

  still_one : (d : Forest) → AtMostOne d → AtMostOne (edited t e d)
  still_one nil h = tt
  still_one (node r as' k (node s bs m f)) h = absurd h
  still_one (node r as' k nil) h = go (eqb r.id t)
    where
      go : (b : Bool) → AtMostOne (cond b (node (e r) (edit_labels t e as') (edited t e k) nil) (node r (edit_labels t e as') (edited t e k) nil))
      go true = same.kinds r ∙ h
      go false = h

  module _ (v : View) (formed : (r : Label) → r.kind ≡ v.row.kind → Formed r → Formed (e r)) where
    attributes_edited : (as' : List Label) → v.row.kind ≡ Attribute → Attributes as' → Attributes (edit_labels t e as')
    attributes_edited [] h a = tt
    attributes_edited (r ∷ l) h a = go (eqb r.id t) (attributes_edited l h a.2)
      where
        go : (b : Bool) → Attributes (edit_labels t e l) → Attributes (cond b (e r) r ∷ edit_labels t e l)
        go true i = (same.kinds r ∙ a.0, formed r (a.0 ∙ sym h) a.1, i)
        go false i = (a.0, a.1, i)

    abbrev Claim : ℕ → ℕ → Forest → Forest → Type 0
    Claim p l d d' = Shaped d → Shaped d'

    none_edited : (as' : List Label) → count_labels t as' ≡ 0 → edit_labels t e as' ≡ as'
    none_edited [] z = refl
    none_edited (r ∷ l) z = go (eqb r.id t) z (none_edited l)
      where
        go : (b : Bool) → one b + count_labels t l ≡ 0 → (count_labels t l ≡ 0 → edit_labels t e l ≡ l) → cond b (e r) r ∷ edit_labels t e l ≡ r ∷ l
        go true z h = absurd (omega arith)
        go false z h = rw (h (omega arith))

    steps : Steps t (edit_labels t e) (edit_tree e) v Claim
    steps = record {
      at_node = λ p l r as' k f c w z₁ z₂ z₃ s.
          (formed r (ap (λ (u : View). u.row.kind) (sym w)) s.0, rw (same.kinds r) s.1, s.2, s.3, s.4, s.5);
      at_label = λ p l r as' k f c w z₁ z₂ z₃ s. (
        s.0,
        holds_other_labels t r.kind as' (edit_labels t e as') k s.1 (omega arith),
        attributes_edited as' (label_kind t r.id as' v s.2 w) s.2,
        above_edited 0 as' s.3,
        s.4,
        s.5,
      );
      below = λ p l r as' k k' f c z₁ o z₃ ih s. (s.0, holds_others t r.kind as' k k' s.1 o, s.2, s.3, ih s.4, s.5);
      behind = λ p l r as' k f f' c z₁ z₂ o ih s. (s.0, s.1, s.2, s.3, s.4, ih s.5);
    }

    pub edited_kept : (d : Forest) → view d t ≡ Some v → Kept d → Kept (edited t e d)
    edited_kept d at kept =
        record {
          root = still_one d kept.root;
          shaped = along t (edit_labels t e) (edit_tree e) none_edited v Claim steps d 0 0 (kept.distinct t) at kept.shaped;
          distinct = λ u. omega (arith, count_edited u d, kept.distinct u);
        }

-- ---- the two edits

named_suits : (c : Kind) (i nm vl m : ℕ) → is_text c ≡ false → ltb 0 m ≡ true → (ltb 0 i && fields_suit_kind c nm vl) ≡ true → (ltb 0 i && fields_suit_kind c m vl) ≡ true
named_suits Element i nm vl m k h s =
    let p = and_parts (ltb 0 i) (ltb 0 nm && eqb vl 0) s in
    and_from (ltb 0 i) (ltb 0 m && eqb vl 0) p.0 (and_from (ltb 0 m) (eqb vl 0) h (and_parts (ltb 0 nm) (eqb vl 0) p.1).1)
named_suits Attribute i nm vl m k h s = and_from (ltb 0 i) (ltb 0 m) (and_parts (ltb 0 i) (ltb 0 nm) s).0 h
named_suits Text i nm vl m k h s = absurd (both_ways true k refl)

valued_suits : (c : Kind) (i nm vl w : ℕ) → is_element c ≡ false → (ltb 0 i && fields_suit_kind c nm vl) ≡ true → (ltb 0 i && fields_suit_kind c nm w) ≡ true
valued_suits Element i nm vl w k s = absurd (both_ways true k refl)
valued_suits Attribute i nm vl w k s = s
valued_suits Text i nm vl w k s = s

above_nothing : (m : ℕ) → eqb m 0 ≡ false → ltb 0 m ≡ true
above_nothing m h = grind (arith, nat_tests)

named_row : (t m p : ℕ) (r : Label) → row p (edit_label t (named m) (naming m) r) ≡ renamed_row t m (row p r)
named_row t m p r = go (eqb r.id t)
  where
    go : (b : Bool) → row p (cond b (named m r) r) ≡ cond b (row p (named m r)) (row p r)
    go true = refl
    go false = refl

valued_row : (t v p : ℕ) (r : Label) → row p (edit_label t (valued v) (valuing v) r) ≡ revalued_row t v (row p r)
valued_row t v p r = go (eqb r.id t)
  where
    go : (b : Bool) → row p (cond b (valued v r) r) ≡ cond b (row p (valued v r)) (row p r)
    go true = refl
    go false = refl

pub rename_changes_one : RenameChangesOne
unfolding listing
rename_changes_one d t m h =
    ap (λ (r : Answer). rows 0 (after r (edited t (named m) d) d)) h ∙ edited_rows t (named m) (naming m) (renamed_row t m) (named_row t m) 0 d

pub rename_reshows : RenameReshows
rename_reshows d t m h u =
    ap (λ (r : Answer). view (after r (edited t (named m) d) d) u) h ∙ edited_views t (named m) (naming m) (renamed_row t m) (named_row t m) u 0 0 d

pub set_value_changes_one : SetValueChangesOne
unfolding listing
set_value_changes_one d t v h =
    ap (λ (r : Answer). rows 0 (after r (edited t (valued v) d) d)) h ∙ edited_rows t (valued v) (valuing v) (revalued_row t v) (valued_row t v) 0 d

pub set_value_reshows : SetValueReshows
set_value_reshows d t v h u =
    ap (λ (r : Answer). view (after r (edited t (valued v) d) d) u) h ∙ edited_views t (valued v) (valuing v) (revalued_row t v) (valued_row t v) u 0 0 d

pub rename_keeps : RenameKeeps
rename_keeps d t m kept = go (view d t) refl
  where
    at_kind : (v : View) → view d t ≡ Some v → (b c : Bool) → is_text v.row.kind ≡ b → eqb m 0 ≡ c
        → Kept (after (cond b (Err Unsuited) (cond c (Err Misformed) (Ok tt))) (edited t (named m) d) d) × (size (after (cond b (Err Unsuited) (cond c (Err Misformed) (Ok tt))) (edited t (named m) d) d) ≡ size d)
    at_kind v at true c e f = (kept, refl)
    at_kind v at false true e f = (kept, refl)
    at_kind v at false false e f =
        let pos = above_nothing m f in (
          edited_kept t (named m) (naming m) v (λ r k s. named_suits r.kind r.id r.name r.value m (ap is_text k ∙ e) pos s) d at kept,
          size_edited t (named m) (naming m) d,
        )

    go : (o : Option View) → view d t ≡ o → Kept (after (rename_of m o) (edited t (named m) d) d) × (size (after (rename_of m o) (edited t (named m) d) d) ≡ size d)
    go None at = (kept, refl)
    go (Some v) at = at_kind v at (is_text v.row.kind) (eqb m 0) refl refl

pub set_value_keeps : SetValueKeeps
set_value_keeps d t w kept = go (view d t) refl
  where
    at_kind : (v : View) → view d t ≡ Some v → (b : Bool) → is_element v.row.kind ≡ b
        → Kept (after (cond b (Err Unsuited) (Ok tt)) (edited t (valued w) d) d) × (size (after (cond b (Err Unsuited) (Ok tt)) (edited t (valued w) d) d) ≡ size d)
    at_kind v at true e = (kept, refl)
    at_kind v at false e = (
      edited_kept t (valued w) (valuing w) v (λ r k s. valued_suits r.kind r.id r.name r.value w (ap is_element k ∙ e) s) d at kept,
      size_edited t (valued w) (valuing w) d,
    )

    go : (o : Option View) → view d t ≡ o → Kept (after (set_value_of o) (edited t (valued w) d) d) × (size (after (set_value_of o) (edited t (valued w) d) d) ≡ size d)
    go None at = (kept, refl)
    go (Some v) at = at_kind v at (is_element v.row.kind) refl
