-- A row linked in stands for a node put in.
use Rattle.std.proofs.Common.{◌≡◌, ℕ, ◌<◌, ◌≤◌, Bool, true, false, cond, ◌&&◌, ◌||◌, eqb, ◌⊎◌, List, [], ◌∷◌, Some, None, Ok, Option, sym, refl, ap, ◌∙◌, subst, inl, inr, arith}
use Rattle.std.specs.Option.{option_map}
use Rattle.std.proofs.lemmas.Bool.{eq-eqb, ne_eqb, eqb-true, eqb-false, cases_eq, cases_lt, lt-ltb, le-ltb, cond-true, cond-false, and_parts, false≢true}
use Rattle.records.specs.declared.nodes.Kind.{Kind}
use Rattle.records.specs.declared.nodes.Kind.TheVariants.{Element, Attribute, Text}
use Rattle.records.specs.declared.nodes.Node.{Node}
use Rattle.document.specs.Tree.{Label, Forest, nil, node, one, count_labels, size}
use Rattle.document.specs.Listing.{label}
use Rattle.document.specs.Table.{is_attribute}
use Rattle.store.specs.Kept.{Kept}
use Rattle.store.specs.Listed.{read_at}
use Rattle.store.specs.Views.{View, view}
use Rattle.store.specs.Says.{put_says, put_leaves, is_element, fits_root, fits_below}
use Rattle.store.specs.Links.{label_before, label_from, previous_label, next_label, attribute_before, attribute_from, previous_attribute, next_child, linked_child, linked_attribute, new_attribute}
use Rattle.store.proofs.Along.{seen, absent}
use Rattle.store.proofs.Shapes.{no_zero}
use Rattle.store.proofs.Puts as puts
use Rattle.store.proofs.Linking.{put_links_child, put_links_attribute}
use Rattle.store.proofs.Standing.{row_of_attributes}
use Rattle.store.proofs.Telling.{SeenLabels}
use Rattle.linked.specs.declared.row.Row.{Row}
use Rattle.linked.specs.declared.row.Siblings.{Siblings}
use Rattle.linked.specs.declared.row.Siblings.TheVariants.{Children, Attributes}
use Rattle.linked.specs.Rows.{row, row_of, with_left, row_among, siblings_of}
use Rattle.linked.specs.Tables.{changed, with_row, led, linked_in}
use Rattle.linked.specs.Stores.{rows_of}
use Rattle.linked.specs.Places.{neighbours}
use Rattle.linked.proofs.Finding.{none_around}
use Rattle.linked.proofs.Leading.{child_led, attribute_led}

-- ---- the row of attributes, for an identifier that is new
unseen_label : (v : ℕ → Option View) (p x : ℕ) (as' : List Label) → SeenLabels v p as' → v x ≡ None → count_labels x as' ≡ 0
unseen_label v p x [] s e = refl
unseen_label v p x (r ∷ l) s e =
    let ne : r.id ≡ x → ⊥ = λ q. let z : Some _ ≡ None = sym s.0 ∙ ap v q ∙ e in let y : ◌≡◌ {A = ℕ} 0 1 = cc in omega arith in
    let i = unseen_label v p x l s.1 e in
    let o : one (eqb r.id x) ≡ 0 = rw (ne_eqb r.id x ne) in
    omega arith

before_is_previous : (m x : ℕ) (as' : List Label) → count_labels x as' ≡ 0 → (label_before m x as' ≡ previous_label m x as') × (label_from x as' ≡ next_label x as')
before_is_previous m x [] z = (refl, refl)
before_is_previous m x (r ∷ l) z = go (cases_eq r.id x) (cases_lt r.id x) (before_is_previous r.id x l)
  where
    go : (r.id ≡ x) ⊎ (r.id ≡ x → ⊥) → (r.id < x) ⊎ (x ≤ r.id) → (count_labels x l ≡ 0 → (label_before r.id x l ≡ previous_label r.id x l) × (label_from x l ≡ next_label x l))
        → (label_before m x (r ∷ l) ≡ previous_label m x (r ∷ l)) × (label_from x (r ∷ l) ≡ next_label x (r ∷ l))
    go (inl e) h ih = absurd (omega (arith, ap one (eq-eqb r.id x e)))
    go (inr e) (inl h) ih = let i = ih (omega arith) in (rw (lt-ltb r.id x h, le-ltb x r.id (omega arith)) i.0, rw (lt-ltb r.id x h, le-ltb x r.id (omega arith)) i.1)
    go (inr e) (inr h) ih = (rw (le-ltb r.id x h, lt-ltb x r.id (omega arith)), rw (le-ltb r.id x h, lt-ltb x r.id (omega arith)))

module _ (d : Forest) (kept : Kept d) where
  pub nonzero : (i : ℕ) (x : View) → view d i ≡ Some x → i ≡ 0 → ⊥
  nonzero i x s z = let c = seen i 0 0 d x s in omega (arith, ap (λ (j : ℕ). Rattle.document.specs.Tree.count j d) z, no_zero d kept.shaped)

  around_new : (p x : ℕ) → view d x ≡ None
      → (attribute_before d p x ≡ read_at p (λ as' k. previous_label 0 x as') d) × (attribute_from d p x ≡ read_at p (λ as' k. next_label x as') d)
  around_new p x e =
      let r = row_of_attributes d kept p in
      let b = before_is_previous 0 x r.labels (unseen_label (view d) p x r.labels r.shows e) in
      (r.reads (label_before 0 x) refl ∙ b.0 ∙ sym (r.reads (previous_label 0 x) refl), r.reads (label_from x) refl ∙ b.1 ∙ sym (r.reads (next_label x) refl))

and_true : (b : Bool) → (b && true) ≡ b
and_true true = refl
and_true false = refl

and_false : (b : Bool) → (b && false) ≡ false
and_false true = refl
and_false false = refl

module _ (room : ℕ) (d : Forest) (n : Node) (l : ℕ) (kept : Kept d) (ok : put_says room d n l ≡ Ok tt) where
  -- the new row and the others
  by_identifier : (among : Siblings) (before : ℕ) (w : Row) → w.node ≡ n → Some w ≡ rows_of (put_leaves room d n l) n.id
      → ((u : ℕ) → (u ≡ n.id → ⊥) → changed w.next_sibling (with_left n.id) (led among n.parent before n.id (rows_of d)) u ≡ rows_of (put_leaves room d n l) u)
      → (u : ℕ) → linked_in among before w (rows_of d) u ≡ rows_of (put_leaves room d n l) u
  by_identifier among before w e here others u =
      subst (λ (x : Node). with_row x.id w (changed w.next_sibling (with_left x.id) (led among x.parent before x.id (rows_of d))) u ≡ rows_of (put_leaves room d n l) u) (sym e) (go (cases_eq u n.id))
    where
      go : (u ≡ n.id) ⊎ (u ≡ n.id → ⊥) → with_row n.id w (changed w.next_sibling (with_left n.id) (led among n.parent before n.id (rows_of d))) u ≡ rows_of (put_leaves room d n l) u
      go (inl q) = cond-true (eqb u n.id) _ _ (eq-eqb u n.id q) ∙ here ∙ ap (rows_of (put_leaves room d n l)) (sym q)
      go (inr q) = cond-false (eqb u n.id) _ _ (ne_eqb u n.id q) ∙ others u q

  -- ---- a child
  module _ (below : n.parent ≡ 0 → ⊥) (child : is_attribute n.kind ≡ false) where
    child_there : (u : ℕ) (v : View) → (u ≡ 0 → ⊥)
        → row v.row (cond (eqb u (next_child d n l)) n.id v.left) (cond (eqb u n.parent && eqb l 0) n.id v.first_child) (cond (eqb u l) n.id v.next_sibling) v.first_attribute v.next_attribute
        ≡ row_of (linked_child d n l u v)
    child_there u v there = go (cases_eq l 0)
      where
        go : (l ≡ 0) ⊎ (l ≡ 0 → ⊥)
            → row v.row (cond (eqb u (next_child d n l)) n.id v.left) (cond (eqb u n.parent && eqb l 0) n.id v.first_child) (cond (eqb u l) n.id v.next_sibling) v.first_attribute v.next_attribute
            ≡ row_of (linked_child d n l u v)
        go (inl z) = let e = eq-eqb l 0 z in let f = ne_eqb u l (λ q. there (q ∙ z)) in rw (e, f, and_true (eqb u n.parent))
        go (inr z) = let e = ne_eqb l 0 z in rw (e, and_false (eqb u n.parent))

    child_others : (u : ℕ) → (u ≡ n.id → ⊥) → changed (next_child d n l) (with_left n.id) (led Children n.parent l n.id (rows_of d)) u ≡ rows_of (put_leaves room d n l) u
    child_others u ne = go (view d u) refl ∙ ap (option_map row_of) (sym ((put_links_child room d n l kept ok below child).1 u ne))
      where
        go : (o : Option View) → view d u ≡ o → changed (next_child d n l) (with_left n.id) (led Children n.parent l n.id (rows_of d)) u ≡ option_map row_of (option_map (linked_child d n l u) (view d u))
        go None h =
            let z : rows_of d u ≡ None = ap (option_map row_of) h in
            none_around Children n.parent l n.id (next_child d n l) n.id (rows_of d) u z
            ∙ ap (λ (o : Option View). option_map row_of (option_map (linked_child d n l u) o)) (sym h)
        go (Some v) h =
            child_led (rows_of d) n.parent l n.id u n.id (next_child d n l) v (ap (option_map row_of) h) (nonzero d kept u v h)
            ∙ ap Some (child_there u v (nonzero d kept u v h)) ∙ ap (λ (o : Option View). option_map row_of (option_map (linked_child d n l u) o)) (sym h)

    child_put : (u : ℕ) → linked_in Children l (row n l 0 (next_child d n l) 0 0) (rows_of d) u ≡ rows_of (put_leaves room d n l) u
    child_put = by_identifier Children l (row n l 0 (next_child d n l) 0 0) refl (ap (option_map row_of) (sym (put_links_child room d n l kept ok below child).0)) child_others

  -- ---- an attribute
  module _ (attribute : n.kind ≡ Attribute) (new : view d n.id ≡ None) (first : l ≡ 0) where
    around : (attribute_before d n.parent n.id ≡ previous_attribute d n) × (attribute_from d n.parent n.id ≡ read_at n.parent (λ as' k. next_label n.id as') d)
    around = around_new d kept n.parent n.id new

    attribute_others : (u : ℕ) → (u ≡ n.id → ⊥) → changed 0 (with_left n.id) (led Attributes n.parent (attribute_before d n.parent n.id) n.id (rows_of d)) u ≡ rows_of (put_leaves room d n l) u
    attribute_others u ne = go (view d u) refl ∙ ap (option_map row_of) (sym ((put_links_attribute room d n l kept ok attribute).1 u ne))
      where
        go : (o : Option View) → view d u ≡ o
            → changed 0 (with_left n.id) (led Attributes n.parent (attribute_before d n.parent n.id) n.id (rows_of d)) u ≡ option_map row_of (option_map (linked_attribute n (previous_attribute d n) u) (view d u))
        go None h =
            let z : rows_of d u ≡ None = ap (option_map row_of) h in
            none_around Attributes n.parent (attribute_before d n.parent n.id) n.id 0 n.id (rows_of d) u z
            ∙ ap (λ (o : Option View). option_map row_of (option_map (linked_attribute n (previous_attribute d n) u) o)) (sym h)
        go (Some v) h =
            attribute_led (rows_of d) n.parent (attribute_before d n.parent n.id) n.id u n.id v (ap (option_map row_of) h) (nonzero d kept u v h)
            ∙ ap (λ (i : ℕ). Some (row_of (linked_attribute n i u v))) around.0 ∙ ap (λ (o : Option View). option_map row_of (option_map (linked_attribute n (previous_attribute d n) u) o)) (sym h)

    attribute_put : (u : ℕ) → linked_in Attributes (attribute_before d n.parent n.id) (row n l 0 0 0 (attribute_from d n.parent n.id)) (rows_of d) u ≡ rows_of (put_leaves room d n l) u
    attribute_put =
        by_identifier Attributes (attribute_before d n.parent n.id) (row n l 0 0 0 (attribute_from d n.parent n.id)) refl
        (same ∙ ap (option_map row_of) (sym (put_links_attribute room d n l kept ok attribute).0)) attribute_others
      where
        same : Some (row n l 0 0 0 (attribute_from d n.parent n.id)) ≡ option_map row_of (Some (new_attribute d n))
        same = rw (first, around.1)

  -- ---- the root
  module _ (top : n.parent ≡ 0) (empty : d ≡ nil) (first : l ≡ 0) where
    leaves_root : put_leaves room d n l ≡ node (label n) [] nil nil
    leaves_root = puts.leaves_accepted room d n l ok ∙ cond-true (eqb n.parent 0) _ _ (eq-eqb n.parent 0 top)

    seen_root : (u : ℕ) (b : Bool) → eqb n.id u ≡ b → rows_of (put_leaves room d n l) u ≡ cond b (Some (row n 0 0 0 0 0)) None
    seen_root u true e = ap (λ (f : Forest). rows_of f u) leaves_root ∙ rw e (ap (λ (p : ℕ). Some (row (record { id = n.id; parent = p; kind = n.kind; name = n.name; value = n.value }) 0 0 0 0 0)) (sym top))
    seen_root u false e = ap (λ (f : Forest). rows_of f u) leaves_root ∙ rw e refl

    nothing_behind : next_child d n l ≡ 0
    nothing_behind = rw (empty, first)

    root_put : (u : ℕ) → linked_in Children l (row n l 0 (next_child d n l) 0 0) (rows_of d) u ≡ rows_of (put_leaves room d n l) u
    root_put =
        by_identifier Children l (row n l 0 (next_child d n l) 0 0) refl (same ∙ sym (seen_root n.id true (eq-eqb n.id n.id refl)))
        (λ u ne. none_around Children n.parent l n.id (next_child d n l) n.id (rows_of d) u (none u) ∙ sym (seen_root u false (ne_eqb n.id u (λ q. ne (sym q)))))
      where
        same : Some (row n l 0 (next_child d n l) 0 0) ≡ Some (row n 0 0 0 0 0)
        same = rw (nothing_behind, first)

        none : (u : ℕ) → rows_of d u ≡ None
        none u = ap (λ (f : Forest). rows_of f u) empty

  abbrev pub Shown : Siblings → Type 0
  Shown among = (u : ℕ) → linked_in among (neighbours d among n l).0 (row_among among n l (neighbours d among n l).1) (rows_of d) u ≡ rows_of (put_leaves room d n l) u

  accepted : puts.Accepted room d n l
  accepted = puts.accepted room d n l ok

  unknown : view d n.id ≡ None
  unknown = absent n.id 0 0 d accepted.new

  child_shown : is_attribute n.kind ≡ false → Shown Children
  child_shown k = go (eqb n.parent 0) refl accepted.suits
    where
      go : (b : Bool) → eqb n.parent 0 ≡ b → cond b (fits_root d n l) (fits_below d n l) ≡ true
          → (u : ℕ) → linked_in Children l (row n l 0 (next_child d n l) 0 0) (rows_of d) u ≡ rows_of (put_leaves room d n l) u
      go true e h =
          let t = and_parts (eqb (size d) 0) (is_element n.kind && eqb l 0) h in
          root_put (eqb-true n.parent 0 e) (puts.nothing_there d (eqb-true (size d) 0 t.0)) (eqb-true l 0 (and_parts (is_element n.kind) (eqb l 0) t.1).1)
      go false e h = child_put (eqb-false n.parent 0 e) k

  attribute_shown : n.kind ≡ Attribute → Shown Attributes
  attribute_shown k = attribute_put k unknown (go (eqb n.parent 0) accepted.suits)
    where
      go : (b : Bool) → cond b (fits_root d n l) (fits_below d n l) ≡ true → l ≡ 0
      go true h =
          let t = and_parts (eqb (size d) 0) (is_element n.kind && eqb l 0) h in
          eqb-true l 0 (and_parts (is_element n.kind) (eqb l 0) t.1).1
      go false h = left_none (eqb l 0) refl (rw k at (puts.below_there d n l h).left)
        where
          left_none : (b : Bool) → eqb l 0 ≡ b → (b || false) ≡ true → l ≡ 0
          left_none true e h = eqb-true l 0 e
          left_none false e h = absurd (false≢true h)

  pub put_shown : Shown (siblings_of n.kind)
  put_shown = go n.kind refl
    where
      go : (c : Kind) → n.kind ≡ c → Shown (siblings_of c)
      go Element e = child_shown (ap is_attribute e)
      go Attribute e = attribute_shown e
      go Text e = child_shown (ap is_attribute e)
