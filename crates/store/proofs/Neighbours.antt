-- The neighbours of a node, as the listing shows them.
use Rattle.std.proofs.Common.{◌≡◌, ℕ, ◌+◌, ◌≤◌, Bool, true, false, cond, not, ◌&&◌, eqb, ◌⊎◌, List, [], ◌∷◌, ◌++◌, length, take, drop, Some, sym, refl, ap, ◌∙◌, inl, inr, append_assoc, append-nil, arith, length-append}
use Rattle.std.proofs.lemmas.Bool.{eqb-true, eqb-false, eq-eqb, ne_eqb, both_ways, and_left}
use Rattle.records.specs.declared.nodes.Kind.{Kind}
use Rattle.records.specs.declared.nodes.Kind.TheVariants.{Element, Attribute, Text}
use Rattle.records.specs.declared.nodes.Node.{Node}
use Rattle.document.specs.Tree.{Label, Forest, nil, node, one, count_labels, count, Attributes, Holds}
use Rattle.document.specs.Listing.{row, attribute_rows, rows, listing}
use Rattle.document.specs.Table.{is_attribute}
use Rattle.document.proofs.Counting.{one_zero, one_refl, length_of_rows}
use Rattle.store.specs.Kept.{Shaped}
use Rattle.store.specs.Views.{View, first_of, first_label, attribute_view, node_view, view_attribute, view_in}
use Rattle.store.specs.Writes.{act, unchanged}
use Rattle.store.specs.Listed.{position, first_where, last_from, child_row, attribute_row}
use Rattle.store.specs.Statements.{NeighboursAreListed, SizeAndRootAreListed}
use Rattle.store.proofs.Along.{Steps, along}
use Rattle.store.proofs.Places.{take_front, drop_one_more, position_past, position_within, times_labels, times_rows}
use Rattle.store.proofs.Shapes.{no_zero}

-- ---- lists in which no row passes a test

abbrev pub Free : (Node → Bool) → List Node → Type 0
Free q [] = Unit {0}
Free q (x ∷ xs) = (q x ≡ false) × Free q xs

free-++ : (q : Node → Bool) (xs ys : List Node) → Free q xs → Free q ys → Free q (xs ++ ys)
free-++ q [] ys a b = b
free-++ q (x ∷ xs) ys a b = (a.0, free-++ q xs ys a.1 b)

first_skip : (q : Node → Bool) (xs ys : List Node) → Free q xs → first_where q (xs ++ ys) ≡ first_where q ys
first_skip q [] ys a = refl
first_skip q (x ∷ xs) ys a = rw a.0 (first_skip q xs ys a.1)

first_none : (q : Node → Bool) (xs : List Node) → Free q xs → first_where q xs ≡ 0
first_none q [] a = refl
first_none q (x ∷ xs) a = rw a.0 (first_none q xs a.1)

first_only : (q : Node → Bool) (xs ys : List Node) → Free q ys → first_where q (xs ++ ys) ≡ first_where q xs
first_only q [] ys a = first_none q ys a
first_only q (x ∷ xs) ys a = ap (λ (n : ℕ). cond (q x) x.id n) (first_only q xs ys a)

pub last_skip : (q : Node → Bool) (m : ℕ) (xs ys : List Node) → Free q xs → last_from q m (xs ++ ys) ≡ last_from q m ys
last_skip q m [] ys a = refl
last_skip q m (x ∷ xs) ys a = ap (λ (b : Bool). last_from q (cond b x.id m) (xs ++ ys)) a.0 ∙ last_skip q m xs ys a.1

-- ---- rows by their parents

-- a test that only rows below u pass
abbrev pub Below : ℕ → (Node → Bool) → Type 0
Below u q = (x : Node) → (x.parent ≡ u → ⊥) → q x ≡ false

pub child_below : (u : ℕ) → Below u (child_row u)
child_below u x h = and_left (eqb x.parent u) (not (is_attribute x.kind)) (ne_eqb x.parent u h)

attribute_below : (u : ℕ) → Below u (attribute_row u)
attribute_below u x h = and_left (eqb x.parent u) (is_attribute x.kind) (ne_eqb x.parent u h)

free_labels : (u : ℕ) (q : Node → Bool) → Below u q → (p : ℕ) (as' : List Label) → (p ≡ u → ⊥) → Free q (attribute_rows p as')
free_labels u q b p [] h = tt
free_labels u q b p (r ∷ l) h = (b (row p r) h, free_labels u q b p l h)

pub free_rows : (u : ℕ) (q : Node → Bool) → Below u q → (p : ℕ) (d : Forest) → (p ≡ u → ⊥) → count u d ≡ 0 → Free q (rows p d)
free_rows u q b p nil h z = tt
free_rows u q b p (node r as' k f) h z =
    let ne : r.id ≡ u → ⊥ = eqb-false r.id u (one_zero (eqb r.id u) (omega arith)) in (
      b (row p r) h,
      free-++ q (attribute_rows r.id as') (rows r.id k ++ rows p f) (free_labels u q b r.id as' ne)
          (free-++ q (rows r.id k) (rows p f) (free_rows u q b r.id k ne (omega arith)) (free_rows u q b p f h (omega arith))),
    )

-- attributes are no children, and children no attributes
and_no : (b : Bool) → (b && false) ≡ false
and_no true = refl
and_no false = refl

holds_kind : (c : Kind) (as' : List Label) (k : Forest) → Holds c as' k → is_attribute c ≡ false
holds_kind Element as' k h = refl
holds_kind Text as' k h = refl
holds_kind Attribute as' k h = absurd h

pub labels_no_children : (u p : ℕ) (as' : List Label) → Attributes as' → Free (child_row u) (attribute_rows p as')
labels_no_children u p [] a = tt
labels_no_children u p (r ∷ l) a = (rw a.0 (and_no (eqb p u)), labels_no_children u p l a.2)

trees_no_attributes : (p : ℕ) (d : Forest) → Shaped d → count p d ≡ 0 → Free (attribute_row p) (rows p d)
trees_no_attributes p nil s z = tt
trees_no_attributes p (node r as' k f) s z =
    let ne : r.id ≡ p → ⊥ = eqb-false r.id p (one_zero (eqb r.id p) (omega arith)) in (
      rw (holds_kind r.kind as' k s.1) (and_no (eqb p p)),
      free-++ (attribute_row p) (attribute_rows r.id as') (rows r.id k ++ rows p f) (free_labels p (attribute_row p) (attribute_below p) r.id as' ne)
          (free-++ (attribute_row p) (rows r.id k) (rows p f) (free_rows p (attribute_row p) (attribute_below p) r.id k ne (omega arith)) (trees_no_attributes p f s.5 (omega arith))),
    )

first_tree : (p : ℕ) (d : Forest) (ys : List Node) → Shaped d → Free (child_row p) ys → first_where (child_row p) (rows p d ++ ys) ≡ first_of d
first_tree p nil ys s a = first_none (child_row p) ys a
first_tree p (node r as' k f) ys s a = rw (eq-eqb p p refl, holds_kind r.kind as' k s.1)

first_attribute_row : (p : ℕ) (as' : List Label) (ys : List Node) → Attributes as' → Free (attribute_row p) ys → first_where (attribute_row p) (attribute_rows p as' ++ ys) ≡ first_label as'
first_attribute_row p [] ys a b = first_none (attribute_row p) ys b
first_attribute_row p (r ∷ l) ys a b = rw (eq-eqb p p refl, a.0)

-- ---- identifiers that differ

differ : (u w : ℕ) (d : Forest) → count u d ≡ 0 → 1 ≤ count w d → u ≡ w → ⊥
differ u w d z o e = let y : count w d ≡ 0 = rw (← e) z in omega arith

-- ---- the node t in a row of trees below p, behind l

record ShownIn (t : ℕ) (v : View) (p l : ℕ) (d : Forest) : Type 0 where
  front : List Node
  back : List Node
  split : rows p d ≡ front ++ (v.row ∷ back)
  place : length front ≡ position t (rows p d)
  owner : (v.row.parent ≡ p) ⊎ (1 ≤ count v.row.parent d)
  first_child : v.first_child ≡ first_where (child_row t) (rows p d)
  first_attribute : v.first_attribute ≡ first_where (attribute_row t) (rows p d)
  left : is_attribute v.row.kind ≡ false → (m : ℕ) → (v.row.parent ≡ p → m ≡ l) → ((v.row.parent ≡ p → ⊥) → m ≡ 0)
      → v.left ≡ last_from (child_row v.row.parent) m front
  no_left : is_attribute v.row.kind ≡ true → v.left ≡ 0
  next_sibling : is_attribute v.row.kind ≡ false → v.next_sibling ≡ first_where (child_row v.row.parent) back
  no_sibling : is_attribute v.row.kind ≡ true → v.next_sibling ≡ 0
  next_attribute : is_attribute v.row.kind ≡ true → v.next_attribute ≡ first_where (attribute_row v.row.parent) back
  no_attribute : is_attribute v.row.kind ≡ false → v.next_attribute ≡ 0

shown_node : (p l : ℕ) (r : Label) (as' : List Label) (k f : Forest) → Shaped (node r as' k f) → count r.id k ≡ 0 → count r.id f ≡ 0
    → count p (node r as' k f) ≡ 0 → ShownIn r.id (node_view p l r as' k f) p l (node r as' k f)
shown_node p l r as' k f s zk zf c =
    let ne : r.id ≡ p → ⊥ = eqb-false r.id p (one_zero (eqb r.id p) (omega arith)) in
    let ne' : p ≡ r.id → ⊥ = λ e. ne (sym e) in
    let A = attribute_rows r.id as' in
    let K = rows r.id k in
    let F = rows p f in
    let kind = holds_kind r.kind as' k s.1 in
    record {
      front = [];
      back = A ++ (K ++ F);
      split = refl;
      place = rw (eq-eqb r.id r.id refl);
      owner = inl refl;
      first_child =
          rw (child_below r.id (row p r) ne', first_skip (child_row r.id) A (K ++ F) (labels_no_children r.id r.id as' s.2))
          (sym (first_tree r.id k F s.4 (free_rows r.id (child_row r.id) (child_below r.id) p f ne' zf)));
      first_attribute =
          rw (attribute_below r.id (row p r) ne')
          (sym (first_attribute_row r.id as' (K ++ F) s.2
          (free-++ (attribute_row r.id) K F (trees_no_attributes r.id k s.4 zk) (free_rows r.id (attribute_row r.id) (attribute_below r.id) p f ne' zf))));
      left = λ h m a b. sym (a refl);
      no_left = λ h. absurd (both_ways (is_attribute r.kind) kind h);
      next_sibling = λ h.
          sym (first_skip (child_row p) A (K ++ F) (labels_no_children p r.id as' s.2)
          ∙ first_skip (child_row p) K F (free_rows p (child_row p) (child_below p) r.id k ne (omega arith))
          ∙ ap (λ (ys : List Node). first_where (child_row p) ys) (sym (append-nil F)) ∙ first_tree p f [] s.5 tt);
      no_sibling = λ h. absurd (both_ways (is_attribute r.kind) kind h);
      next_attribute = λ h. absurd (both_ways (is_attribute r.kind) kind h);
      no_attribute = λ h. refl;
    }

-- an attribute among those of p
record ShownLabel (t : ℕ) (v : View) (p : ℕ) (as' : List Label) : Type 0 where
  front : List Node
  back : List Node
  split : attribute_rows p as' ≡ front ++ (v.row ∷ back)
  place : length front ≡ position t (attribute_rows p as')
  parent : v.row.parent ≡ p
  kind : is_attribute v.row.kind ≡ true
  next : v.next_attribute ≡ first_where (attribute_row p) back
  no_left : v.left ≡ 0
  no_child : v.first_child ≡ 0
  no_sibling : v.next_sibling ≡ 0
  no_attribute : v.first_attribute ≡ 0

label_here : (p : ℕ) (r : Label) (l : List Label) → Attributes (r ∷ l) → ShownLabel r.id (attribute_view p r l) p (r ∷ l)
label_here p r l a =
    let R = attribute_rows p l in
    record {
      front = [];
      back = R;
      split = refl;
      place = rw (eq-eqb r.id r.id refl);
      parent = refl;
      kind = rw a.0;
      next = sym (ap (λ (ys : List Node). first_where (attribute_row p) ys) (sym (append-nil R)) ∙ first_attribute_row p l [] a.2 tt);
      no_left = refl;
      no_child = refl;
      no_sibling = refl;
      no_attribute = refl;
    }

shown_label : (t : ℕ) (v : View) (p : ℕ) (as' : List Label) → Attributes as' → view_attribute t p as' ≡ Some v → ShownLabel t v p as'
shown_label t v p [] a e = let z : ◌≡◌ {A = ℕ} 0 1 = cc in absurd (omega arith)
shown_label t v p (r ∷ l) a e = go (eqb r.id t) refl e (shown_label t v p l a.2)
  where
    go : (b : Bool) → eqb r.id t ≡ b → cond b (Some (attribute_view p r l)) (view_attribute t p l) ≡ Some v → (view_attribute t p l ≡ Some v → ShownLabel t v p l) → ShownLabel t v p (r ∷ l)
    go true h e ih =
        let w : attribute_view p r l ≡ v = cc in
        rw (← w, ← eqb-true r.id t h) (label_here p r l a)
    go false h e ih =
        let m = ih e in
        record {
          front = row p r ∷ m.front;
          back = m.back;
          split = ap (λ (ys : List Node). row p r ∷ ys) m.split;
          place = rw h (omega (arith, m.place));
          parent = m.parent;
          kind = m.kind;
          next = m.next;
          no_left = m.no_left;
          no_child = m.no_child;
          no_sibling = m.no_sibling;
          no_attribute = m.no_attribute;
        }

-- a test on rows below t, past what stands before the children and before the trees behind
module _ (t : ℕ) (q : Node → Bool) (only : Below t q) (p : ℕ) (r : Label) (as' : List Label) (k f : Forest) (np : p ≡ t → ⊥) (nr : r.id ≡ t → ⊥) where
  past_row : (ys : List Node) → first_where q (row p r ∷ (attribute_rows r.id as' ++ ys)) ≡ first_where q ys
  past_row ys = rw (only (row p r) np) (first_skip q (attribute_rows r.id as') ys (free_labels t q only r.id as' nr))

  only_children : count t f ≡ 0 → first_where q (rows p (node r as' k f)) ≡ first_where q (rows r.id k)
  only_children z = past_row (rows r.id k ++ rows p f) ∙ first_only q (rows r.id k) (rows p f) (free_rows t q only p f np z)

  only_behind : count t k ≡ 0 → first_where q (rows p (node r as' k f)) ≡ first_where q (rows p f)
  only_behind z = past_row (rows r.id k ++ rows p f) ∙ first_skip q (rows r.id k) (rows p f) (free_rows t q only r.id k nr z)

  nowhere : count t k ≡ 0 → count t f ≡ 0 → first_where q (rows p (node r as' k f)) ≡ 0
  nowhere z y = only_behind z ∙ first_none q (rows p f) (free_rows t q only p f np y)

module _ (t : ℕ) (v : View) where
  abbrev Claim : ℕ → ℕ → Forest → Forest → Type 0
  Claim p l d d' = Shaped d → ((u : ℕ) → count u d ≤ 1) → count p d ≡ 0 → ShownIn t v p l d

  abbrev P : ℕ
  P = v.row.parent

  at_label : (p l : ℕ) (r : Label) (as' : List Label) (k f : Forest) → eqb r.id t ≡ false → view_attribute t r.id as' ≡ Some v
      → count_labels t as' ≡ 1 → count t k ≡ 0 → count t f ≡ 0 → Claim p l (node r as' k f) (node r as' k f)
  at_label p l r as' k f e w z₁ z₂ z₃ s u c =
      let m = shown_label t v r.id as' s.2 w in
      let nr : r.id ≡ t → ⊥ = eqb-false r.id t e in
      let np : p ≡ t → ⊥ = differ p t (node r as' k f) c (omega arith) in
      let A = attribute_rows r.id as' in
      let K = rows r.id k in
      let F = rows p f in
      let self : count r.id k ≡ 0 = omega (arith, u r.id, one_refl r.id) in
      let self' : count r.id f ≡ 0 = omega (arith, u r.id, one_refl r.id) in
      let nrp : p ≡ r.id → ⊥ = differ p r.id (node r as' k f) c (omega (arith, one_refl r.id)) in
      let kind = m.kind in
      record {
        front = row p r ∷ m.front;
        back = m.back ++ (K ++ F);
        split = ap (λ (ys : List Node). row p r ∷ (ys ++ (K ++ F))) m.split ∙ ap (λ (ys : List Node). row p r ∷ ys) (append_assoc m.front (v.row ∷ m.back) (K ++ F));
        place = rw e (omega (arith, m.place, position_within t A (K ++ F) (omega (arith, times_labels t r.id as'))));
        owner = inr (rw m.parent (omega (arith, one_refl r.id)));
        first_child = m.no_child ∙ sym (nowhere t (child_row t) (child_below t) p r as' k f np nr z₂ z₃);
        first_attribute = m.no_attribute ∙ sym (nowhere t (attribute_row t) (attribute_below t) p r as' k f np nr z₂ z₃);
        left = λ h. absurd (both_ways (is_attribute v.row.kind) h kind);
        no_left = λ h. m.no_left;
        next_sibling = λ h. absurd (both_ways (is_attribute v.row.kind) h kind);
        no_sibling = λ h. m.no_sibling;
        next_attribute = λ h.
            m.next
            ∙ sym (first_only (attribute_row r.id) m.back (K ++ F)
            (free-++ (attribute_row r.id) K F (trees_no_attributes r.id k s.4 self) (free_rows r.id (attribute_row r.id) (attribute_below r.id) p f nrp self')))
            ∙ ap (λ (x : ℕ). first_where (attribute_row x) (m.back ++ (K ++ F))) (sym m.parent);
        no_attribute = λ h. absurd (both_ways (is_attribute v.row.kind) h kind);
      }

  below : (p l : ℕ) (r : Label) (as' : List Label) (k k' f : Forest) → eqb r.id t ≡ false
      → count_labels t as' ≡ 0 → 1 ≤ count t k → count t f ≡ 0 → Claim r.id 0 k k' → Claim p l (node r as' k f) (node r as' k' f)
  below p l r as' k k' f e z₁ o z₃ ih s u c =
      let self : count r.id k ≡ 0 = omega (arith, u r.id, one_refl r.id) in
      let m = ih s.4 (λ x. omega (arith, u x)) self in
      let nr : r.id ≡ t → ⊥ = eqb-false r.id t e in
      let np : p ≡ t → ⊥ = differ p t (node r as' k f) c (omega arith) in
      let A = attribute_rows r.id as' in
      let K = rows r.id k in
      let F = rows p f in
      let held = owned m.owner in
      let apart : p ≡ P → ⊥ = differ p P (node r as' k f) c held.0 in
      let free : (q : Node → Bool) → Below P q → Free q F = λ q b. free_rows P q b p f apart held.1 in
      record {
        front = row p r ∷ (A ++ m.front);
        back = m.back ++ F;
        split = rw m.split (simp append_assoc);
        place =
            rw e (omega (arith, m.place, length-append A m.front, position_past t A (K ++ F) (times_labels t r.id as' ∙ z₁), position_within t K F (omega (arith, times_rows t r.id k))));
        owner = inr held.0;
        first_child = m.first_child ∙ sym (only_children t (child_row t) (child_below t) p r as' k f np nr z₃);
        first_attribute = m.first_attribute ∙ sym (only_children t (attribute_row t) (attribute_below t) p r as' k f np nr z₃);
        left = λ h n a b.
            let zero : n ≡ 0 = b (λ x. apart (sym x)) in
            m.left h 0 (λ x. refl) (λ x. refl)
            ∙ sym (ap (λ (y : Bool). last_from (child_row P) (cond y r.id n) (A ++ m.front)) (child_below P (row p r) apart)
            ∙ last_skip (child_row P) n A m.front (labels_no_children P r.id as' s.2) ∙ ap (λ (y : ℕ). last_from (child_row P) y m.front) zero);
        no_left = m.no_left;
        next_sibling = λ h. m.next_sibling h ∙ sym (first_only (child_row P) m.back F (free (child_row P) (child_below P)));
        no_sibling = m.no_sibling;
        next_attribute = λ h. m.next_attribute h ∙ sym (first_only (attribute_row P) m.back F (free (attribute_row P) (attribute_below P)));
        no_attribute = m.no_attribute;
      }
    where
      owned : (P ≡ r.id) ⊎ (1 ≤ count P k) → (1 ≤ count P (node r as' k f)) × (count P f ≡ 0)
      owned (inl h) = rw h (omega (arith, one_refl r.id), omega (arith, u r.id, one_refl r.id))
      owned (inr h) = (omega arith, omega (arith, u P))

  behind : (p l : ℕ) (r : Label) (as' : List Label) (k f f' : Forest) → eqb r.id t ≡ false
      → count_labels t as' ≡ 0 → count t k ≡ 0 → 1 ≤ count t f → Claim p r.id f f' → Claim p l (node r as' k f) (node r as' k f')
  behind p l r as' k f f' e z₁ z₂ o ih s u c =
      let m = ih s.5 (λ x. omega (arith, u x)) (omega arith) in
      let nr : r.id ≡ t → ⊥ = eqb-false r.id t e in
      let np : p ≡ t → ⊥ = differ p t (node r as' k f) c (omega arith) in
      let A = attribute_rows r.id as' in
      let K = rows r.id k in
      let F = rows p f in
      let held : one (eqb r.id P) + count P k ≡ 0 = owned m.owner in
      let apart : r.id ≡ P → ⊥ = eqb-false r.id P (one_zero (eqb r.id P) (omega arith)) in
      let none : count P k ≡ 0 = omega arith in
      let skipped : (n : ℕ) → last_from (child_row P) n (A ++ (K ++ m.front)) ≡ last_from (child_row P) n m.front =
      λ n. last_skip (child_row P) n A (K ++ m.front) (labels_no_children P r.id as' s.2)
      ∙ last_skip (child_row P) n K m.front (free_rows P (child_row P) (child_below P) r.id k apart none) in
      record {
        front = row p r ∷ (A ++ (K ++ m.front));
        back = m.back;
        split = rw m.split (simp append_assoc);
        place =
            rw e (omega (arith, m.place, length-append A (K ++ m.front), length-append K m.front, position_past t A (K ++ F) (times_labels t r.id as' ∙ z₁), position_past t K F (times_rows t r.id k ∙ z₂)));
        owner = widened m.owner;
        first_child = m.first_child ∙ sym (only_behind t (child_row t) (child_below t) p r as' k f np nr z₂);
        first_attribute = m.first_attribute ∙ sym (only_behind t (attribute_row t) (attribute_below t) p r as' k f np nr z₂);
        left = λ h n a b. from_left m.front n (m.left h) b skipped;
        no_left = m.no_left;
        next_sibling = m.next_sibling;
        no_sibling = m.no_sibling;
        next_attribute = m.next_attribute;
        no_attribute = m.no_attribute;
      }
    where
      owned : (P ≡ p) ⊎ (1 ≤ count P f) → one (eqb r.id P) + count P k ≡ 0
      owned (inl h) = rw h (omega arith)
      owned (inr h) = omega (arith, u P)

      widened : (P ≡ p) ⊎ (1 ≤ count P f) → (P ≡ p) ⊎ (1 ≤ count P (node r as' k f))
      widened (inl h) = inl h
      widened (inr h) = inr (omega arith)

      from_left : (front : List Node) (n : ℕ) → ((m : ℕ) → (P ≡ p → m ≡ r.id) → ((P ≡ p → ⊥) → m ≡ 0) → v.left ≡ last_from (child_row P) m front)
          → ((P ≡ p → ⊥) → n ≡ 0)
          → ((n : ℕ) → last_from (child_row P) n (attribute_rows r.id as' ++ (rows r.id k ++ front)) ≡ last_from (child_row P) n front)
          → v.left ≡ last_from (child_row P) n (row p r ∷ (attribute_rows r.id as' ++ (rows r.id k ++ front)))
      from_left front n h b skip = go (eqb p P) refl
        where
          go : (y : Bool) → eqb p P ≡ y → v.left ≡ last_from (child_row P) n (row p r ∷ (attribute_rows r.id as' ++ (rows r.id k ++ front)))
          go true y =
              let here : child_row P (row p r) ≡ true = rw (y, holds_kind r.kind as' k s.1) in
              h r.id (λ x. refl) (λ x. absurd (x (sym (eqb-true p P y))))
              ∙ sym (ap (λ (z : Bool). last_from (child_row P) (cond z r.id n) (attribute_rows r.id as' ++ (rows r.id k ++ front))) here ∙ skip r.id)
          go false y =
              let ne : P ≡ p → ⊥ = λ x. eqb-false p P y (sym x) in
              let here : child_row P (row p r) ≡ false = child_below P (row p r) (eqb-false p P y) in
              h 0 (λ x. absurd (ne x)) (λ x. refl)
              ∙ sym (ap (λ (z : Bool). last_from (child_row P) (cond z r.id n) (attribute_rows r.id as' ++ (rows r.id k ++ front))) here ∙ skip n
              ∙ ap (λ (z : ℕ). last_from (child_row P) z front) (b ne))

  steps : Steps t unchanged node v Claim
  steps = record {
    at_node = λ p l r as' k f e w z₁ z₂ z₃ s u c.
        let same = eqb-true r.id t e in
        rw (w, ← same) (shown_node p l r as' k f s (rw same z₂) (rw same z₃) c);
    at_label = at_label;
    below = below;
    behind = behind;
  }

  shown_in : (d : Forest) → count t d ≤ 1 → view_in t 0 0 d ≡ Some v → Claim 0 0 d (act t unchanged node d)
  shown_in d = along t unchanged node (λ as' z. refl) v Claim steps d 0 0

-- ---- the whole document

from_split : (xs : List Node) (t : ℕ) (v : View) (front back : List Node) → xs ≡ front ++ (v.row ∷ back) → length front ≡ position t xs
    → (take (position t xs) xs ≡ front) × (drop (position t xs + 1) xs ≡ back)
from_split xs t v front back s e =
    (rw (← e, s) (take_front front (v.row ∷ back)), rw (← e, s) (drop_one_more front back v.row))

by_kind : (b : Bool) (x y z : ℕ) → (b ≡ true → x ≡ y) → (b ≡ false → x ≡ z) → x ≡ cond b y z
by_kind true x y z a c = a refl
by_kind false x y z a c = c refl

pub neighbours_are_listed : NeighboursAreListed
unfolding listing
neighbours_are_listed d t v kept at =
    let m = shown_in t v d (kept.distinct t) at kept.shaped kept.distinct (no_zero d kept.shaped) in
    let parts = from_split (rows 0 d) t v m.front m.back m.split m.place in
    let b = is_attribute v.row.kind in
    record {
      first_child = m.first_child;
      first_attribute = m.first_attribute;
      left = rw parts.0 (by_kind b v.left 0 _ m.no_left (λ h. m.left h 0 (λ x. refl) (λ x. refl)));
      next_sibling = rw parts.1 (by_kind b v.next_sibling 0 _ m.no_sibling m.next_sibling);
      next_attribute = rw parts.1 (by_kind b v.next_attribute _ 0 m.next_attribute m.no_attribute);
    }

pub size_and_root_are_listed : SizeAndRootAreListed
unfolding listing
size_and_root_are_listed d = (sym (length_of_rows 0 d), go d)
  where
    go : (d : Forest) → first_of d ≡ first_where (λ x. true) (rows 0 d)
    go nil = refl
    go (node r as' k f) = refl
