-- A childless node put in: one row more, the shape kept, and taking the node out leads back.
use Rattle.std.proofs.Common.{◌≡◌, ℕ, ◌+◌, ◌≤◌, Bool, true, false, cond, eqb, ltb, List, [], ◌∷◌, ◌++◌, Some, None, Ok, Option, sym, refl, ap, ◌∙◌, subst, arith}
use Rattle.std.proofs.lemmas.Bool.{eqb-true, eq-eqb, both_ways, ltb-true, le-ltb, lt-ltb}
use Rattle.records.specs.declared.nodes.Kind.TheVariants.{Element, Attribute}
use Rattle.records.specs.declared.nodes.Node.{Node}
use Rattle.document.specs.Tree.{Label, Forest, nil, node, one, count_labels, count, Above, Formed}
use Rattle.document.specs.Listing.{row, label, attribute_rows, rows}
use Rattle.document.specs.Table.{is_attribute}
use Rattle.document.proofs.Counting.{one_zero, length_attribute_rows, length_of_rows}
use Rattle.store.specs.Kept.{Shaped}
use Rattle.store.specs.Views.{View, node_view, or_else, view_attribute, view_in}
use Rattle.store.specs.Writes.{act, unchanged, insert_label, with_first, with_behind, with_attribute, lacking, without_tree, without}
use Rattle.store.specs.Says.{take_of}
use Rattle.store.specs.Listed.{position, read_at, smaller_labels, past_smaller, past_attributes, past_all}
use Rattle.store.proofs.Along.{Steps, along, untouched, absent, absent_label}
use Rattle.store.proofs.Places.{OneMore, more_here, more_behind, more_before, more_at, position_past, position_within, times_labels, times_rows}
use Rattle.store.proofs.Shapes.{label_kind, strictly_below, holds_nothing, holds_element, holds_others, attributes_more, above_more, lacking_none, lacking_inserted, above_zero}

-- d' is d, below p, with the new node n at place i of the rows
pub record Planted (n : Node) (p : ℕ) (d d' : Forest) (i : ℕ) : Type 0 where
  pub more : OneMore (rows p d) (rows p d') i n
  pub shaped : Shaped d'
  pub undone : without n.id d' ≡ d
  pub bare : (l : ℕ) → take_of (view_in n.id p l d') ≡ Ok tt

pub read_none : (t : ℕ) (h : List Label → Forest → ℕ) (d : Forest) → count t d ≡ 0 → read_at t h d ≡ 0
read_none t h nil z = refl
read_none t h (node r as' k f) z =
    let e : eqb r.id t ≡ false = one_zero (eqb r.id t) (omega arith) in
    rw e (omega (arith, read_none t h k (omega arith), read_none t h f (omega arith)))

-- a node that can be taken out of the first place where it is looked for
bare_first : (o q : Option View) → take_of o ≡ Ok tt → take_of (or_else o q) ≡ Ok tt
bare_first (Some v) q h = h
bare_first None q h = let z : ◌≡◌ {A = ℕ} 0 1 = cc in absurd (omega arith)

module _ (t : ℕ) (n : Node) where
  -- what is not n is not taken out with n
  kept_tree : (p : ℕ) (r : Label) (as' : List Label) (k f k₀ f₀ : Forest) → eqb r.id n.id ≡ false → count_labels n.id as' ≡ 0
      → without n.id k ≡ k₀ → without n.id f ≡ f₀ → without n.id (node r as' k f) ≡ node r as' k₀ f₀
  kept_tree p r as' k f k₀ f₀ e z i j = rw (e, lacking_none n.id as' z, i, j)

  none_there : (d : Forest) → count n.id d ≡ 0 → without n.id d ≡ d
  none_there d z = untouched n.id (lacking n.id) without_tree (lacking_none n.id) d z

  seen_below : (p l : ℕ) (r : Label) (as' : List Label) (k f : Forest) → eqb r.id n.id ≡ false → count_labels n.id as' ≡ 0
      → take_of (view_in n.id r.id 0 k) ≡ Ok tt → take_of (view_in n.id p l (node r as' k f)) ≡ Ok tt
  seen_below p l r as' k f e z h = rw (e, absent_label n.id r.id as' z) (bare_first (view_in n.id r.id 0 k) (view_in n.id p r.id f) h)

  seen_behind : (p l : ℕ) (r : Label) (as' : List Label) (k f : Forest) → eqb r.id n.id ≡ false → count_labels n.id as' ≡ 0 → count n.id k ≡ 0
      → take_of (view_in n.id p r.id f) ≡ Ok tt → take_of (view_in n.id p l (node r as' k f)) ≡ Ok tt
  seen_behind p l r as' k f e z w h = rw (e, absent_label n.id r.id as' z, absent n.id r.id 0 k w) h

  module _ (at : Label → List Label → Forest → Forest → Forest) (h : List Label → Forest → ℕ) (v : View) (child : is_attribute v.row.kind ≡ false) where
    abbrev Claim : ℕ → ℕ → Forest → Forest → Type 0
    Claim p l d d' = Shaped d → count n.id d ≡ 0 → Planted n p d d' (position t (rows p d) + read_at t h d)

    abbrev pub AtNode : Type 0
    AtNode = (p l : ℕ) (r : Label) (as' : List Label) (k f : Forest) → eqb r.id t ≡ true → v ≡ node_view p l r as' k f
        → Shaped (node r as' k f) → count n.id (node r as' k f) ≡ 0 → Planted n p (node r as' k f) (at r as' k f) (h as' k)

    planted_at : (p : ℕ) (d d' : Forest) (i j : ℕ) → i ≡ j → Planted n p d d' i → Planted n p d d' j
    planted_at p d d' i j e m =
        record { more = more_at (rows p d) (rows p d') i j n e m.more; shaped = m.shaped; undone = m.undone; bare = m.bare }

    steps : AtNode → Steps t unchanged at v Claim
    steps local = record {
      at_node = λ p l r as' k f e w z₁ z₂ z₃ s c.
          planted_at p (node r as' k f) (at r as' k f) (h as' k) _
          (rw e (omega (arith, read_none t h k z₂, read_none t h f z₃))) (local p l r as' k f e w s c);
      at_label = λ p l r as' k f e w z₁ z₂ z₃ s c. absurd (both_ways (is_attribute v.row.kind) child (rw (label_kind t r.id as' v s.2 w)));
      below = λ p l r as' k k' f e z₁ o z₃ ih s c.
          let m = ih s.4 (omega arith) in
          let e' : eqb r.id n.id ≡ false = one_zero (eqb r.id n.id) (omega arith) in
          let A = attribute_rows r.id as' in
          let K = rows r.id k in
          let K' = rows r.id k' in
          let F = rows p f in
          record {
            more =
                more_at (rows p (node r as' k f)) (rows p (node r as' k' f)) _ _ n
                (rw e (omega (arith, position_past t A (K ++ F) (times_labels t r.id as' ∙ z₁), position_within t K F (omega (arith, times_rows t r.id k)), read_none t h f z₃)))
                (more_behind (row p r ∷ []) (A ++ (K ++ F)) (A ++ (K' ++ F)) _ n (more_behind A (K ++ F) (K' ++ F) _ n (more_before F K K' _ n m.more)));
            shaped = (s.0, holds_others t r.kind as' k k' s.1 o, s.2, s.3, m.shaped, s.5);
            undone = kept_tree p r as' k' f k f e' (omega arith) m.undone (none_there f (omega arith));
            bare = λ m'. seen_below p m' r as' k' f e' (omega arith) (m.bare 0);
          };
      behind = λ p l r as' k f f' e z₁ z₂ o ih s c.
          let m = ih s.5 (omega arith) in
          let e' : eqb r.id n.id ≡ false = one_zero (eqb r.id n.id) (omega arith) in
          let A = attribute_rows r.id as' in
          let K = rows r.id k in
          let F = rows p f in
          let F' = rows p f' in
          record {
            more =
                more_at (rows p (node r as' k f)) (rows p (node r as' k f')) _ _ n
                (rw e (omega (arith, position_past t A (K ++ F) (times_labels t r.id as' ∙ z₁), position_past t K F (times_rows t r.id k ∙ z₂), read_none t h k z₂)))
                (more_behind (row p r ∷ []) (A ++ (K ++ F)) (A ++ (K ++ F')) _ n (more_behind A (K ++ F) (K ++ F') _ n (more_behind K F F' _ n m.more)));
            shaped = (s.0, s.1, s.2, s.3, s.4, m.shaped);
            undone = kept_tree p r as' k f' k f e' (omega arith) (none_there k (omega arith)) m.undone;
            bare = λ m'. seen_behind p m' r as' k f' e' (omega arith) (omega arith) (m.bare r.id);
          };
    }

    pub planted : AtNode → (d : Forest) (p l : ℕ) → count t d ≤ 1 → view_in t p l d ≡ Some v → Claim p l d (act t unchanged at d)
    planted local = along t unchanged at (λ as' z. refl) v Claim (steps local)

-- ---- the new node as first child of its parent

module _ (n : Node) (v : View) (child : is_attribute v.row.kind ≡ false) where
  kind_here : (p l : ℕ) (r : Label) (as' : List Label) (k f : Forest) → v ≡ node_view p l r as' k f → v.row.kind ≡ Element → r.kind ≡ Element
  kind_here p l r as' k f w e = ap (λ (u : View). u.row.kind) (sym w) ∙ e

  -- the new node alone, with trees behind it
  taken_here : (f : Forest) → count n.id f ≡ 0 → without n.id (node (label n) [] nil f) ≡ f
  taken_here f z = rw (eq-eqb n.id n.id refl) (none_there 0 n f z)

  bare_here : (p l : ℕ) (f : Forest) → take_of (view_in n.id p l (node (label n) [] nil f)) ≡ Ok tt
  bare_here p l f = rw (eq-eqb n.id n.id refl)

  pub as_first : v.row.kind ≡ Element → Formed (label n) → is_attribute n.kind ≡ false → AtNode n.parent n (with_first (label n)) past_attributes v child
  as_first element formed child_kind p l r as' k f e w s c =
      let e' : eqb r.id n.id ≡ false = one_zero (eqb r.id n.id) (omega arith) in
      let none : count_labels n.id as' ≡ 0 = omega arith in
      let A = attribute_rows r.id as' in
      let K = rows r.id k in
      let F = rows p f in
      let x : Node = row r.id (label n) in
      let same : x ≡ n = ap (λ (q : ℕ). row q (label n)) (eqb-true r.id n.parent e) in
      let d : Forest = node r as' k f in
      let d' : Forest = with_first (label n) r as' k f in
      record {
        more =
            subst (λ (y : Node). OneMore (rows p d) (rows p d') (past_attributes as' k) y) same
            (more_at (rows p d) (rows p d') _ _ x (omega (arith, length_attribute_rows r.id as'))
            (more_behind (row p r ∷ []) (A ++ (K ++ F)) (A ++ ((x ∷ K) ++ F)) _ x (more_behind A (K ++ F) ((x ∷ K) ++ F) _ x (more_before F K (x ∷ K) _ x (more_here K x)))));
        shaped = (
          s.0,
          holds_element r.kind as' (node (label n) [] nil k) (kind_here p l r as' k f w element),
          s.2,
          s.3,
          (formed, holds_nothing n.kind child_kind, tt, tt, tt, s.4),
          s.5,
        );
        undone = kept_tree n.parent n p r as' (node (label n) [] nil k) f k f e' none (taken_here k (omega arith)) (none_there n.parent n f (omega arith));
        bare = λ l'. seen_below n.parent n p l' r as' (node (label n) [] nil k) f e' none (bare_here r.id 0 k);
      }

  -- ---- behind a sibling

  pub as_next : (t : ℕ) → v.row.parent ≡ n.parent → Formed (label n) → is_attribute n.kind ≡ false → AtNode t n (with_behind (label n)) past_all v child
  as_next t parent formed child_kind p l r as' k f e w s c =
      let e' : eqb r.id n.id ≡ false = one_zero (eqb r.id n.id) (omega arith) in
      let none : count_labels n.id as' ≡ 0 = omega arith in
      let A = attribute_rows r.id as' in
      let K = rows r.id k in
      let F = rows p f in
      let x : Node = row p (label n) in
      let same : x ≡ n = ap (λ (q : ℕ). row q (label n)) (ap (λ (u : View). u.row.parent) (sym w) ∙ parent) in
      let d : Forest = node r as' k f in
      let d' : Forest = with_behind (label n) r as' k f in
      record {
        more =
            subst (λ (y : Node). OneMore (rows p d) (rows p d') (past_all as' k) y) same
            (more_at (rows p d) (rows p d') _ _ x (omega (arith, length_attribute_rows r.id as', length_of_rows r.id k))
            (more_behind (row p r ∷ []) (A ++ (K ++ F)) (A ++ (K ++ (x ∷ F))) _ x (more_behind A (K ++ F) (K ++ (x ∷ F)) _ x (more_behind K F (x ∷ F) _ x (more_here F x)))));
        shaped = (s.0, s.1, s.2, s.3, s.4, (formed, holds_nothing n.kind child_kind, tt, tt, tt, s.5));
        undone = kept_tree t n p r as' k (node (label n) [] nil f) k f e' none (none_there t n k (omega arith)) (taken_here f (omega arith));
        bare = λ l'. seen_behind t n p l' r as' k (node (label n) [] nil f) e' none (omega arith) (bare_here p r.id f);
      }

-- ---- among the attributes of its parent

smaller_none : (t m : ℕ) (as' : List Label) → Above m as' → t ≤ m → smaller_labels t as' ≡ 0
smaller_none t m [] a h = refl
smaller_none t m (r ∷ l) a h =
    rw (le-ltb r.id t (omega (arith, a.0))) (omega (arith, smaller_none t r.id l a.1 (omega (arith, a.0))))

labels_more : (q m : ℕ) (x : Label) (as' : List Label) → Above m as' → count_labels x.id as' ≡ 0
    → OneMore (attribute_rows q as') (attribute_rows q (insert_label x as')) (smaller_labels x.id as') (row q x)
labels_more q m x [] a z = more_here [] (row q x)
labels_more q m x (r ∷ l) a z = go (ltb x.id r.id) refl (labels_more q r.id x l a.1 (omega arith))
  where
    R : List Node
    R = attribute_rows q (r ∷ l)

    go : (b : Bool) → ltb x.id r.id ≡ b → OneMore (attribute_rows q l) (attribute_rows q (insert_label x l)) (smaller_labels x.id l) (row q x)
        → OneMore R (attribute_rows q (cond b (x ∷ (r ∷ l)) (r ∷ insert_label x l))) (one (ltb r.id x.id) + smaller_labels x.id l) (row q x)
    go true e ih =
        let lt = ltb-true x.id r.id e in
        more_at R (row q x ∷ R) 0 _ (row q x) (rw (le-ltb r.id x.id (omega arith)) (omega (arith, smaller_none x.id r.id l a.1 (omega arith)))) (more_here R (row q x))
    go false e ih =
        let apart : eqb r.id x.id ≡ false = one_zero (eqb r.id x.id) (omega arith) in
        more_at R (row q r ∷ attribute_rows q (insert_label x l)) _ _ (row q x) (rw (lt-ltb r.id x.id (strictly_below r.id x.id e apart)))
        (more_behind (row q r ∷ []) (attribute_rows q l) (attribute_rows q (insert_label x l)) _ (row q x) ih)

label_bare : (q : ℕ) (x : Label) (as' : List Label) → count_labels x.id as' ≡ 0 → take_of (view_attribute x.id q (insert_label x as')) ≡ Ok tt
label_bare q x [] z = rw (eq-eqb x.id x.id refl)
label_bare q x (r ∷ l) z = go (ltb x.id r.id) (label_bare q x l (omega arith))
  where
    other : eqb r.id x.id ≡ false
    other = one_zero (eqb r.id x.id) (omega arith)

    go : (b : Bool) → take_of (view_attribute x.id q (insert_label x l)) ≡ Ok tt → take_of (view_attribute x.id q (cond b (x ∷ (r ∷ l)) (r ∷ insert_label x l))) ≡ Ok tt
    go true h = rw (eq-eqb x.id x.id refl)
    go false h = rw other h

pub as_attribute : (n : Node) (v : View) (child : is_attribute v.row.kind ≡ false) → v.row.kind ≡ Element → Formed (label n) → n.kind ≡ Attribute
    → AtNode n.parent n (with_attribute (label n)) (past_smaller n.id) v child
as_attribute n v child element formed attribute p l r as' k f e w s c =
    let e' : eqb r.id n.id ≡ false = one_zero (eqb r.id n.id) (omega arith) in
    let none : count_labels n.id as' ≡ 0 = omega arith in
    let A = attribute_rows r.id as' in
    let A' = attribute_rows r.id (insert_label (label n) as') in
    let K = rows r.id k in
    let F = rows p f in
    let x : Node = row r.id (label n) in
    let same : x ≡ n = ap (λ (q : ℕ). row q (label n)) (eqb-true r.id n.parent e) in
    let d : Forest = node r as' k f in
    let d' : Forest = with_attribute (label n) r as' k f in
    record {
      more =
          subst (λ (y : Node). OneMore (rows p d) (rows p d') (past_smaller n.id as' k) y) same
          (more_at (rows p d) (rows p d') _ _ x (omega arith)
          (more_behind (row p r ∷ []) (A ++ (K ++ F)) (A' ++ (K ++ F)) _ x (more_before (K ++ F) A A' _ x (labels_more r.id 0 (label n) as' s.3 none))));
      shaped = (
        s.0,
        holds_element r.kind (insert_label (label n) as') k (kind_here n v child p l r as' k f w element),
        attributes_more (label n) as' attribute formed s.2,
        above_more 0 (label n) as' (above_zero (label n) formed) none s.3,
        s.4,
        s.5,
      );
      undone = rw (e', lacking_inserted (label n) as' none, none_there n.parent n k (omega arith), none_there n.parent n f (omega arith));
      bare = λ l'. rw e' (bare_first (view_attribute n.id r.id (insert_label (label n) as')) _ (label_bare r.id (label n) as' none));
    }
