-- What a put changes in the views of the other nodes.
use Rattle.std.proofs.Common.{◌≡◌, ℕ, ◌+◌, ◌≤◌, Bool, true, false, cond, ◌&&◌, eqb, ltb, ◌⊎◌, List, [], ◌∷◌, Some, None, Ok, Option, sym, refl, ap, ◌∙◌, inl, inr, arith}
use Rattle.std.specs.Option.{option_map}
use Rattle.std.proofs.lemmas.Bool.{eqb-true, eqb-false, eq-eqb, ne_eqb, both_ways, and_parts}
use Rattle.records.specs.declared.nodes.Node.{Node}
use Rattle.document.specs.Tree.{Label, Forest, nil, node, one, count_labels, count, size}
use Rattle.document.specs.Listing.{row, label}
use Rattle.document.specs.Table.{is_attribute}
use Rattle.document.proofs.Counting.{one_zero, one_refl, eqb_sym}
use Rattle.store.specs.Kept.{Shaped, Kept}
use Rattle.store.specs.Views.{View, view, first_of, first_label, or_else, attribute_view, node_view, view_attribute, view_in}
use Rattle.store.specs.Writes.{act, unchanged, with_first, with_behind, with_attribute, insert_label}
use Rattle.store.specs.Says.{is_element, fits_root, put_says, put_leaves}
use Rattle.store.specs.Listed.{read_at}
use Rattle.store.specs.Links.{linked_first, linked_behind, linked_attribute, previous_label, next_label, next_child, linked_child, new_child, previous_attribute, new_attribute, PutLinksChild, PutLinksAttribute}
use Rattle.store.proofs.Along.{Steps, along, seen, seen_label, absent, absent_label}
use Rattle.store.proofs.Shapes.{label_kind, no_zero, no_zero_labels, above_zero}
use Rattle.store.proofs.Planting.{read_none}
use Rattle.store.proofs.Puts.{Accepted, accepted, leaves_accepted, BelowThere, below_there, sibling_there}
use Rattle.store.proofs.Unlinking.{assembled}

-- d changes to d': how u is seen after, by U, and how the new node x is seen
record Linked (other x u : ℕ) (U : View → View) (new : View) (p l : ℕ) (d d' : Forest) : Type 0 where
  first : first_of d' ≡ first_of d
  near : (other ≡ 0) ⊎ (1 ≤ count other d)
  after : view_in u p l d' ≡ option_map U (view_in u p l d)
  here : view_in x p l d' ≡ Some new

-- identifiers of one part stand in no other
elsewhere : (other : ℕ) (g : Forest) → (other ≡ 0) ⊎ (1 ≤ count other g) → (n : ℕ) → count other g + n ≤ 1 → (other ≡ 0 → n ≡ 0) → n ≡ 0
elsewhere other g (inl e) n h z = z e
elsewhere other g (inr o) n h z = omega arith

module _ (t x u other : ℕ) (U : View → View) (quiet : (u ≡ t → ⊥) → (u ≡ other → ⊥) → (v : View) → U v ≡ v) where
  -- parts where neither the anchor nor the other node stands
  part_same : (p l : ℕ) (g : Forest) → count t g ≡ 0 → count other g ≡ 0 → view_in u p l g ≡ option_map U (view_in u p l g)
  part_same p l g z y = go (view_in u p l g) refl
    where
      go : (o : Option View) → view_in u p l g ≡ o → o ≡ option_map U o
      go None e = refl
      go (Some v) e =
          let here = seen u p l g v e in
          ap Some (sym (quiet (λ h. let w : count u g ≡ 0 = rw h z in omega arith) (λ h. let w : count u g ≡ 0 = rw h y in omega arith) v))

  labels_same : (q : ℕ) (as' : List Label) → count_labels t as' ≡ 0 → count_labels other as' ≡ 0 → view_attribute u q as' ≡ option_map U (view_attribute u q as')
  labels_same q as' z y = go (view_attribute u q as') refl
    where
      go : (o : Option View) → view_attribute u q as' ≡ o → o ≡ option_map U o
      go None e = refl
      go (Some v) e =
          let here = seen_label u q as' v e in
          ap Some (sym (quiet (λ h. let w : count_labels u as' ≡ 0 = rw h z in omega arith) (λ h. let w : count_labels u as' ≡ 0 = rw h y in omega arith) v))

  -- a row of trees whose first is the other node, behind x
  shifted : (p l : ℕ) (g : Forest) → Shaped g → ((y : ℕ) → count y g ≤ 1) → count t g ≡ 0 → other ≡ first_of g
      → ((r : Label) (as' : List Label) (k f : Forest) → u ≡ other → (u ≡ t → ⊥) → node_view p x r as' k f ≡ U (node_view p l r as' k f))
      → view_in u p x g ≡ option_map U (view_in u p l g)
  shifted p l nil s c z e h = refl
  shifted p l (node r as' k f) s c z e h = go (eqb r.id u) refl
    where
      once : count_labels other as' + (count other k + count other f) ≡ 0
      once = rw e (omega (arith, c r.id, one_refl r.id))

      nt : r.id ≡ t → ⊥
      nt = eqb-false r.id t (one_zero (eqb r.id t) (omega arith))

      parts : or_else (view_attribute u r.id as') (or_else (view_in u r.id 0 k) (view_in u p r.id f))
          ≡ option_map U (or_else (view_attribute u r.id as') (or_else (view_in u r.id 0 k) (view_in u p r.id f)))
      parts = alike _ _ (labels_same r.id as' (omega arith) (omega (arith, once))) (alike _ _ (part_same r.id 0 k (omega arith) (omega (arith, once))) (part_same p r.id f (omega arith) (omega (arith, once))))
        where
          alike : (o q : Option View) → o ≡ option_map U o → q ≡ option_map U q → or_else o q ≡ option_map U (or_else o q)
          alike None q a b = b
          alike (Some v) q a b = a

      go : (b : Bool) → eqb r.id u ≡ b
          → cond b (Some (node_view p x r as' k f)) (or_else (view_attribute u r.id as') (or_else (view_in u r.id 0 k) (view_in u p r.id f)))
          ≡ option_map U (cond b (Some (node_view p l r as' k f)) (or_else (view_attribute u r.id as') (or_else (view_in u r.id 0 k) (view_in u p r.id f))))
      go true b = let same = eqb-true r.id u b in ap Some (h r as' k f (sym same ∙ sym e) (λ y. nt (same ∙ y)))
      go false b = parts

  -- Q: what is known of the row where t stands
  module _ (at : Label → List Label → Forest → Forest → Forest) (w new : View) (child : is_attribute w.row.kind ≡ false) (Q : Forest → Type 0) where
    abbrev Claim : ℕ → ℕ → Forest → Forest → Type 0
    Claim p l d d' = Shaped d → ((y : ℕ) → count y d ≤ 1) → count x d ≡ 0 → Q d → Linked other x u U new p l d d'

    record Passed : Type 0 where
      down : (r : Label) (as' : List Label) (k f : Forest) → eqb r.id t ≡ false → count t f ≡ 0 → Q (node r as' k f) → Q k
      right : (r : Label) (as' : List Label) (k f : Forest) → eqb r.id t ≡ false → count t k ≡ 0 → Q (node r as' k f) → Q f

    abbrev AtNode : Type 0
    AtNode = (p l : ℕ) (r : Label) (as' : List Label) (k f : Forest) → eqb r.id t ≡ true → w ≡ node_view p l r as' k f
        → count_labels t as' ≡ 0 → count t k ≡ 0 → count t f ≡ 0 → Claim p l (node r as' k f) (at r as' k f)

    steps : AtNode → Passed → Steps t unchanged at w Claim
    steps local pass = record {
      at_node = local;
      at_label = λ p l r as' k f e s z₁ z₂ z₃ sh c n q. absurd (both_ways (is_attribute w.row.kind) child (rw (label_kind t r.id as' w sh.2 s)));
      below = λ p l r as' k k' f e z₁ o z₃ ih sh c n q.
          let m = ih sh.4 (λ y. omega (arith, c y)) (omega arith) (pass.down r as' k f e z₃ q) in
          let far : count_labels other as' + (one (eqb r.id other) + count other f) ≡ 0 =
          elsewhere other k m.near _ (omega (arith, c other)) (λ h. rw (h, ne_eqb r.id 0 (λ y. omega (arith, above_zero r sh.0))) (omega (arith, no_zero_labels as' sh.2, no_zero f sh.5))) in
          let nx : eqb r.id x ≡ false = one_zero (eqb r.id x) (omega arith) in
          record {
            first = refl;
            near = wider m.near (omega arith);
            after =
                assembled U u p l r as' as' k k' f f (labels_same r.id as' z₁ (omega (arith, far))) m.after (part_same p r.id f z₃ (omega (arith, far)))
                (λ h. ◌∙◌ {b = node_view p l r as' k f} (ap (λ (i : ℕ). record { row = row p r; left = l; first_child = i; next_sibling = first_of f; first_attribute = first_label as'; next_attribute = 0 }) m.first)
                (sym (quiet (apart r.id t e h) (apart r.id other (one_zero (eqb r.id other) (omega (arith, far))) h) (node_view p l r as' k f))));
            here = rw (nx, absent_label x r.id as' (omega arith), m.here);
          };
      behind = λ p l r as' k f f' e z₁ z₂ o ih sh c n q.
          let m = ih sh.5 (λ y. omega (arith, c y)) (omega arith) (pass.right r as' k f e z₂ q) in
          let far : count_labels other as' + (one (eqb r.id other) + count other k) ≡ 0 =
          elsewhere other f m.near _ (omega (arith, c other)) (λ h. rw (h, ne_eqb r.id 0 (λ y. omega (arith, above_zero r sh.0))) (omega (arith, no_zero_labels as' sh.2, no_zero k sh.4))) in
          let nx : eqb r.id x ≡ false = one_zero (eqb r.id x) (omega arith) in
          record {
            first = refl;
            near = wider m.near (omega arith);
            after =
                assembled U u p l r as' as' k k f f' (labels_same r.id as' z₁ (omega (arith, far))) (part_same r.id 0 k z₂ (omega (arith, far))) m.after
                (λ h. ◌∙◌ {b = node_view p l r as' k f} (ap (λ (i : ℕ). record { row = row p r; left = l; first_child = first_of k; next_sibling = i; first_attribute = first_label as'; next_attribute = 0 }) m.first)
                (sym (quiet (apart r.id t e h) (apart r.id other (one_zero (eqb r.id other) (omega (arith, far))) h) (node_view p l r as' k f))));
            here = rw (nx, absent_label x r.id as' (omega arith), absent x r.id 0 k (omega arith), m.here);
          };
    }
      where
        wider : {m n : ℕ} → (other ≡ 0) ⊎ (1 ≤ m) → m ≤ n → (other ≡ 0) ⊎ (1 ≤ n)
        wider (inl e) h = inl e
        wider (inr o) h = inr (omega arith)

        apart : (a b : ℕ) → eqb a b ≡ false → eqb a u ≡ true → u ≡ b → ⊥
        apart a b e h y = eqb-false a b e (eqb-true a u h ∙ y)

    linked : AtNode → Passed → (d : Forest) → count t d ≤ 1 → view d t ≡ Some w → Claim 0 0 d (act t unchanged at d)
    linked local pass d = along t unchanged at (λ as' z. refl) w Claim (steps local pass) d 0 0

-- ---- as first child, and behind a sibling

first_near : (g : Forest) → (first_of g ≡ 0) ⊎ (1 ≤ count (first_of g) g)
first_near nil = inl refl
first_near (node r as' k f) = inr (omega (arith, one_refl r.id))

wider : (other m n : ℕ) → (other ≡ 0) ⊎ (1 ≤ m) → m ≤ n → (other ≡ 0) ⊎ (1 ≤ n)
wider other m n (inl e) h = inl e
wider other m n (inr o) h = inr (omega arith)

-- nothing more need be known
abbrev Anything : Forest → Type 0
Anything d = Unit {0}

module _ (n : Node) (u : ℕ) (w : View) (child : is_attribute w.row.kind ≡ false) (ne : u ≡ n.id → ⊥) where
  not_new : eqb n.id u ≡ false
  not_new = ne_eqb n.id u (λ e. ne (sym e))

  quiet_first : (u ≡ n.parent → ⊥) → (u ≡ w.first_child → ⊥) → (v : View) → linked_first n w.first_child u v ≡ v
  quiet_first a b v = rw (ne_eqb u n.parent a, ne_eqb u w.first_child b)

  quiet_behind : (t : ℕ) → (u ≡ t → ⊥) → (u ≡ w.next_sibling → ⊥) → (v : View) → linked_behind n t w.next_sibling u v ≡ v
  quiet_behind t a b v = rw (ne_eqb u t a, ne_eqb u w.next_sibling b)

  new_first : ℕ → View
  new_first l = record { row = n; left = l; first_child = 0; next_sibling = w.first_child; first_attribute = 0; next_attribute = 0 }

  local_first : (l₀ : ℕ) → l₀ ≡ 0 → AtNode n.parent n.id u w.first_child (linked_first n w.first_child u) quiet_first (with_first (label n)) w (new_first l₀) child Anything
  unfolding new_first
  local_first l₀ zero p l r as' k f e s z₁ z₂ z₃ sh c fresh any =
      let U : View → View = linked_first n w.first_child u in
      let next : w.first_child ≡ first_of k = ap (λ (v : View). v.first_child) s in
      let close : (w.first_child ≡ 0) ⊎ (1 ≤ count w.first_child k) = rw next (first_near k) in
      let far : count_labels w.first_child as' + (one (eqb r.id w.first_child) + count w.first_child f) ≡ 0 =
      elsewhere w.first_child k close _ (omega (arith, c w.first_child))
      (λ h. rw (h, ne_eqb r.id 0 (λ y. omega (arith, above_zero r sh.0))) (omega (arith, no_zero_labels as' sh.2, no_zero f sh.5))) in
      let nx : eqb r.id n.id ≡ false = one_zero (eqb r.id n.id) (omega arith) in
      let same : row r.id (label n) ≡ n = ap (λ (q : ℕ). row q (label n)) (eqb-true r.id n.parent e) in
      record {
        first = refl;
        near = wider w.first_child (count w.first_child k) _ close (omega arith);
        after =
            assembled U u p l r as' as' k (node (label n) [] nil k) f f
            (labels_same n.parent n.id u w.first_child U quiet_first r.id as' z₁ (omega (arith, far)))
            (rw not_new
            (shifted n.parent n.id u w.first_child U quiet_first r.id 0 k sh.4 (λ y. omega (arith, c y)) z₂ next
            (λ r' as'' k' f' a b. rw (ne_eqb u n.parent b, eq-eqb u w.first_child a))))
            (part_same n.parent n.id u w.first_child U quiet_first p r.id f z₃ (omega (arith, far)))
            (λ h.
            let here = eqb-true r.id u h in
            let eu : eqb u n.parent ≡ true = rw (← here) e in
            let eo : eqb u w.first_child ≡ false = rw (← here) (one_zero (eqb r.id w.first_child) (omega (arith, far))) in
            rw (eu, eo));
        here = rw (nx, absent_label n.id r.id as' (omega arith), eq-eqb n.id n.id refl, same, ← next, zero);
      }

  new_behind : ℕ → View
  new_behind l = record { row = n; left = l; first_child = 0; next_sibling = w.next_sibling; first_attribute = 0; next_attribute = 0 }

  local_behind : (t : ℕ) → w.row.parent ≡ n.parent → AtNode t n.id u w.next_sibling (linked_behind n t w.next_sibling u) (quiet_behind t) (with_behind (label n)) w (new_behind t) child Anything
  unfolding new_behind
  local_behind t parent p l r as' k f e s z₁ z₂ z₃ sh c fresh any =
      let U : View → View = linked_behind n t w.next_sibling u in
      let next : w.next_sibling ≡ first_of f = ap (λ (v : View). v.next_sibling) s in
      let close : (w.next_sibling ≡ 0) ⊎ (1 ≤ count w.next_sibling f) = rw next (first_near f) in
      let far : count_labels w.next_sibling as' + (one (eqb r.id w.next_sibling) + count w.next_sibling k) ≡ 0 =
      elsewhere w.next_sibling f close _ (omega (arith, c w.next_sibling))
      (λ h. rw (h, ne_eqb r.id 0 (λ y. omega (arith, above_zero r sh.0))) (omega (arith, no_zero_labels as' sh.2, no_zero k sh.4))) in
      let nx : eqb r.id n.id ≡ false = one_zero (eqb r.id n.id) (omega arith) in
      let same : row p (label n) ≡ n = ap (λ (q : ℕ). row q (label n)) (ap (λ (v : View). v.row.parent) (sym s) ∙ parent) in
      record {
        first = refl;
        near = wider w.next_sibling (count w.next_sibling f) _ close (omega arith);
        after =
            assembled U u p l r as' as' k k f (node (label n) [] nil f)
            (labels_same t n.id u w.next_sibling U (quiet_behind t) r.id as' z₁ (omega (arith, far)))
            (part_same t n.id u w.next_sibling U (quiet_behind t) r.id 0 k z₂ (omega (arith, far)))
            (rw not_new
            (shifted t n.id u w.next_sibling U (quiet_behind t) p r.id f sh.5 (λ y. omega (arith, c y)) z₃ next
            (λ r' as'' k' f' a b. rw (ne_eqb u t b, eq-eqb u w.next_sibling a))))
            (λ h.
            let here = eqb-true r.id u h in
            let eu : eqb u t ≡ true = rw (← here) e in
            let eo : eqb u w.next_sibling ≡ false = rw (← here) (one_zero (eqb r.id w.next_sibling) (omega (arith, far))) in
            rw (eu, eo));
        here = rw (nx, absent_label n.id r.id as' (omega arith), absent n.id r.id 0 k (omega arith), eq-eqb n.id n.id refl, same, ← next, eqb-true r.id t e);
      }

-- ---- among the attributes of its parent

-- the previous attribute is the one before, or one of the list
previous_in : (m x : ℕ) (as' : List Label) → (previous_label m x as' ≡ m) ⊎ (1 ≤ count_labels (previous_label m x as') as')
previous_in m x [] = inl refl
previous_in m x (r ∷ l) = go (ltb x r.id) (previous_in r.id x l)
  where
    go : (b : Bool) → (previous_label r.id x l ≡ r.id) ⊎ (1 ≤ count_labels (previous_label r.id x l) l)
        → (cond b m (previous_label r.id x l) ≡ m) ⊎ (1 ≤ one (eqb r.id (cond b m (previous_label r.id x l))) + count_labels (cond b m (previous_label r.id x l)) l)
    go true h = inl refl
    go false (inl e) = inr (rw (eq-eqb r.id (previous_label r.id x l) (sym e)) (omega arith))
    go false (inr o) = inr (omega arith)

-- x comes first behind m exactly where m is its previous attribute
first_inserted : (m : ℕ) (x : Label) (as' : List Label) → count_labels m as' ≡ 0 → first_label (insert_label x as') ≡ cond (eqb (previous_label m x.id as') m) x.id (first_label as')
first_inserted m x [] z = rw (eq-eqb m m refl)
first_inserted m x (r ∷ l) z = go (ltb x.id r.id) (previous_in r.id x.id l)
  where
    go : (b : Bool) → (previous_label r.id x.id l ≡ r.id) ⊎ (1 ≤ count_labels (previous_label r.id x.id l) l)
        → first_label (cond b (x ∷ (r ∷ l)) (r ∷ insert_label x l)) ≡ cond (eqb (cond b m (previous_label r.id x.id l)) m) x.id r.id
    go true h = rw (eq-eqb m m refl)
    go false (inl e) = rw (ne_eqb (previous_label r.id x.id l) m (λ y. eqb-false r.id m (one_zero (eqb r.id m) (omega arith)) (sym e ∙ y)))
    go false (inr o) = rw (ne_eqb (previous_label r.id x.id l) m (λ y. let w : count_labels (previous_label r.id x.id l) l ≡ 0 = rw y (omega arith) in omega arith))

-- the new attribute
new_inserted : (q : ℕ) (x : Label) (as' : List Label) → count_labels x.id as' ≡ 0
    → view_attribute x.id q (insert_label x as') ≡ Some (record { row = row q x; left = 0; first_child = 0; next_sibling = 0; first_attribute = 0; next_attribute = next_label x.id as' })
new_inserted q x [] z = rw (eq-eqb x.id x.id refl)
new_inserted q x (r ∷ l) z = go (ltb x.id r.id) (new_inserted q x l (omega arith))
  where
    other : eqb r.id x.id ≡ false
    other = one_zero (eqb r.id x.id) (omega arith)

    seen_as : ℕ → Option View
    seen_as i = Some (record { row = row q x; left = 0; first_child = 0; next_sibling = 0; first_attribute = 0; next_attribute = i })

    go : (b : Bool) → view_attribute x.id q (insert_label x l) ≡ seen_as (next_label x.id l)
        → view_attribute x.id q (cond b (x ∷ (r ∷ l)) (r ∷ insert_label x l)) ≡ seen_as (cond b r.id (next_label x.id l))
    go true h = rw (eq-eqb x.id x.id refl)
    go false h = rw other h

module _ (n : Node) (u prev : ℕ) (ne : u ≡ n.id → ⊥) where
  quiet_attribute : (u ≡ n.parent → ⊥) → (u ≡ prev → ⊥) → (v : View) → linked_attribute n prev u v ≡ v
  quiet_attribute a b v = rw (ne_eqb u n.parent a, ne_eqb u prev b)

  -- the other attributes; m is the one before
  labels_linked : (q m : ℕ) (as' : List Label) → ((y : ℕ) → count_labels y as' ≤ 1) → count_labels n.parent as' ≡ 0 → count_labels m as' ≡ 0 → prev ≡ previous_label m n.id as'
      → view_attribute u q (insert_label (label n) as') ≡ option_map (linked_attribute n prev u) (view_attribute u q as')
  labels_linked q m [] c t z e = rw (ne_eqb n.id u (λ y. ne (sym y)))
  labels_linked q m (r ∷ l) c t z e = go (ltb n.id r.id) e (labels_linked q r.id l (λ y. omega (arith, c y)) (omega arith) (omega (arith, c r.id, one_refl r.id)))
    where
      at : (b : Bool) → eqb r.id u ≡ b → prev ≡ previous_label r.id n.id l → view_attribute u q (insert_label (label n) l) ≡ option_map (linked_attribute n prev u) (view_attribute u q l)
          → cond b (Some (attribute_view q r (insert_label (label n) l))) (view_attribute u q (insert_label (label n) l)) ≡ option_map (linked_attribute n prev u) (cond b (Some (attribute_view q r l)) (view_attribute u q l))
      at false h e ih = ih
      at true h e ih =
          let here = eqb-true r.id u h in
          let away : eqb u n.parent ≡ false = rw (← here) (one_zero (eqb r.id n.parent) (omega arith)) in
          let next : first_label (insert_label (label n) l) ≡ cond (eqb u prev) n.id (first_label l) =
          first_inserted r.id (label n) l (omega (arith, c r.id, one_refl r.id)) ∙ rw (← e, here, eqb_sym prev u) in
          rw (away, next)

      go : (b : Bool) → prev ≡ cond b m (previous_label r.id n.id l) → (prev ≡ previous_label r.id n.id l → view_attribute u q (insert_label (label n) l) ≡ option_map (linked_attribute n prev u) (view_attribute u q l))
          → view_attribute u q (cond b (label n ∷ (r ∷ l)) (r ∷ insert_label (label n) l)) ≡ option_map (linked_attribute n prev u) (view_attribute u q (r ∷ l))
      go true e ih = rw (ne_eqb n.id u (λ y. ne (sym y))) (labels_same n.parent n.id u prev (linked_attribute n prev u) quiet_attribute q (r ∷ l) t (ap (λ (y : ℕ). count_labels y (r ∷ l)) e ∙ z))
      go false e ih = at (eqb r.id u) refl e (ih e)

-- identifiers of the attributes stand in no other part
not_elsewhere : (other m k : ℕ) → (other ≡ 0) ⊎ (1 ≤ m) → m + k ≤ 1 → (other ≡ 0 → k ≡ 0) → k ≡ 0
not_elsewhere other m k (inl e) h z = z e
not_elsewhere other m k (inr o) h z = omega arith

module _ (n : Node) (u prev next : ℕ) (w : View) (child : is_attribute w.row.kind ≡ false) (ne : u ≡ n.id → ⊥) where
  abbrev previous_here : List Label → Forest → ℕ
  previous_here as' k = previous_label 0 n.id as'

  abbrev next_here : List Label → Forest → ℕ
  next_here as' k = next_label n.id as'

  -- the attributes before and behind n are known from the whole row
  abbrev Between : Forest → Type 0
  Between d = (prev ≡ read_at n.parent previous_here d) × (next ≡ read_at n.parent next_here d)

  abbrev new_here : View
  new_here = record { row = n; left = 0; first_child = 0; next_sibling = 0; first_attribute = 0; next_attribute = next }

  read_down : (h : List Label → Forest → ℕ) (r : Label) (as' : List Label) (k f : Forest) → eqb r.id n.parent ≡ false → count n.parent f ≡ 0
      → read_at n.parent h (node r as' k f) ≡ read_at n.parent h k
  read_down h r as' k f e z = rw e (omega (arith, read_none n.parent h f z))

  read_right : (h : List Label → Forest → ℕ) (r : Label) (as' : List Label) (k f : Forest) → eqb r.id n.parent ≡ false → count n.parent k ≡ 0
      → read_at n.parent h (node r as' k f) ≡ read_at n.parent h f
  read_right h r as' k f e z = rw e (omega (arith, read_none n.parent h k z))

  read_here : (h : List Label → Forest → ℕ) (r : Label) (as' : List Label) (k f : Forest) → eqb r.id n.parent ≡ true → count n.parent k ≡ 0 → count n.parent f ≡ 0
      → read_at n.parent h (node r as' k f) ≡ h as' k
  read_here h r as' k f e z y = rw e (omega (arith, read_none n.parent h k z, read_none n.parent h f y))

  local_attribute : AtNode n.parent n.id u prev (linked_attribute n prev u) (quiet_attribute n u prev ne) (with_attribute (label n)) w new_here child Between
  local_attribute p l r as' k f e s z₁ z₂ z₃ sh c fresh q =
      let U : View → View = linked_attribute n prev u in
      let previous : prev ≡ previous_label 0 n.id as' = q.0 ∙ read_here previous_here r as' k f e z₂ z₃ in
      let following : next ≡ next_label n.id as' = q.1 ∙ read_here next_here r as' k f e z₂ z₃ in
      let close : (prev ≡ 0) ⊎ (1 ≤ count_labels prev as') = rw previous (previous_in 0 n.id as') in
      let far : one (eqb r.id prev) + (count prev k + count prev f) ≡ 0 =
      not_elsewhere prev (count_labels prev as') _ close (omega (arith, c prev))
      (λ h. rw (h, ne_eqb r.id 0 (λ y. omega (arith, above_zero r sh.0))) (omega (arith, no_zero k sh.4, no_zero f sh.5))) in
      let nx : eqb r.id n.id ≡ false = one_zero (eqb r.id n.id) (omega arith) in
      let none : count_labels n.id as' ≡ 0 = omega arith in
      let same : row r.id (label n) ≡ n = ap (λ (i : ℕ). row i (label n)) (eqb-true r.id n.parent e) in
      let first' : first_label (insert_label (label n) as') ≡ cond (eqb prev 0) n.id (first_label as') =
      first_inserted 0 (label n) as' (no_zero_labels as' sh.2) ∙ ap (λ (i : ℕ). cond (eqb i 0) n.id (first_label as')) (sym previous) in
      record {
        first = refl;
        near = wider prev (count_labels prev as') _ close (omega arith);
        after =
            assembled U u p l r as' (insert_label (label n) as') k k f f
            (labels_linked n u prev ne r.id 0 as' (λ y. omega (arith, c y)) z₁ (no_zero_labels as' sh.2) previous)
            (part_same n.parent n.id u prev U (quiet_attribute n u prev ne) r.id 0 k z₂ (omega (arith, far)))
            (part_same n.parent n.id u prev U (quiet_attribute n u prev ne) p r.id f z₃ (omega (arith, far)))
            (λ h.
            let here = eqb-true r.id u h in
            let eu : eqb u n.parent ≡ true = rw (← here) e in
            let eo : eqb u prev ≡ false = rw (← here) (one_zero (eqb r.id prev) (omega (arith, far))) in
            rw (eu, eo, first'));
        here = rw (nx, new_inserted r.id (label n) as' none, same, ← following);
      }

  passed : Passed n.parent n.id u prev (linked_attribute n prev u) (quiet_attribute n u prev ne) (with_attribute (label n)) w new_here child Between
  passed = record {
    down = λ r as' k f e z q. (q.0 ∙ read_down previous_here r as' k f e z, q.1 ∙ read_down next_here r as' k f e z);
    right = λ r as' k f e z q. (q.0 ∙ read_right previous_here r as' k f e z, q.1 ∙ read_right next_here r as' k f e z);
  }

-- ---- the statement

mapped_same : (f g : View → View) → ((v : View) → f v ≡ g v) → (o : Option View) → option_map f o ≡ option_map g o
mapped_same f g h None = refl
mapped_same f g h (Some v) = ap Some (h v)

module _ (room : ℕ) (d : Forest) (n : Node) (l : ℕ) (kept : Kept d) (says : put_says room d n l ≡ Ok tt) (below : n.parent ≡ 0 → ⊥) (kind : is_attribute n.kind ≡ false) where
  a : Accepted room d n l
  a = accepted room d n l says

  at_parent : BelowThere d n l
  at_parent = below_there d n l (rw (ne_eqb n.parent 0 below) at a.suits)

  put_is : (b : Bool) → eqb l 0 ≡ b → put_leaves room d n l ≡ cond b (act n.parent unchanged (with_first (label n)) d) (act l unchanged (with_behind (label n)) d)
  put_is b e = leaves_accepted room d n l says ∙ rw (ne_eqb n.parent 0 below, kind, e)

  seen_after : (b : Bool) → eqb l 0 ≡ b → (u : ℕ) → (u ≡ n.id → ⊥)
      → (view (put_leaves room d n l) n.id ≡ Some (new_child d n l)) × (view (put_leaves room d n l) u ≡ option_map (linked_child d n l u) (view d u))
  unfolding new_first new_behind
  seen_after true e u ne =
      let p = at_parent.parent in
      let w = p.v in
      let m =
      linked n.parent n.id u w.first_child (linked_first n w.first_child u) (quiet_first n u w p.child ne) (with_first (label n)) w (new_first n u w p.child ne l) p.child Anything
      (local_first n u w p.child ne l (eqb-true l 0 e)) (record { down = λ r as' k f x y z. tt; right = λ r as' k f x y z. tt }) d (kept.distinct n.parent) p.at kept.shaped kept.distinct a.new tt in
      let same : (v : View) → linked_child d n l u v ≡ linked_first n w.first_child u v = λ v. rw (e, p.at) in
      let next : next_child d n l ≡ w.first_child = rw (e, p.at) in (
        rw (put_is true e) (m.here ∙ ap (λ (i : ℕ). Some (record { row = n; left = l; first_child = 0; next_sibling = i; first_attribute = 0; next_attribute = 0 })) (sym next)),
        rw (put_is true e) (m.after ∙ sym (mapped_same (linked_child d n l u) (linked_first n w.first_child u) same (view d u))),
      )
  seen_after false e u ne =
      let p = sibling_there d n l at_parent e in
      let w = p.v in
      let m =
      linked l n.id u w.next_sibling (linked_behind n l w.next_sibling u) (quiet_behind n u w p.child ne l) (with_behind (label n)) w (new_behind n u w p.child ne l) p.child Anything
      (local_behind n u w p.child ne l p.parent) (record { down = λ r as' k f x y z. tt; right = λ r as' k f x y z. tt }) d (kept.distinct l) p.at kept.shaped kept.distinct a.new tt in
      let same : (v : View) → linked_child d n l u v ≡ linked_behind n l w.next_sibling u v = λ v. rw (e, p.at) in
      let next : next_child d n l ≡ w.next_sibling = rw (e, p.at) in (
        rw (put_is false e) (m.here ∙ ap (λ (i : ℕ). Some (record { row = n; left = l; first_child = 0; next_sibling = i; first_attribute = 0; next_attribute = 0 })) (sym next)),
        rw (put_is false e) (m.after ∙ sym (mapped_same (linked_child d n l u) (linked_behind n l w.next_sibling u) same (view d u))),
      )

  links_child : (view (put_leaves room d n l) n.id ≡ Some (new_child d n l))
      × ((u : ℕ) → (u ≡ n.id → ⊥) → view (put_leaves room d n l) u ≡ option_map (linked_child d n l u) (view d u))
  links_child = ((seen_after (eqb l 0) refl (n.id + 1) (λ h. omega arith)).0, λ u ne. (seen_after (eqb l 0) refl u ne).1)

pub put_links_child : PutLinksChild
put_links_child room d n l kept says below kind = links_child room d n l kept says below kind

pub put_links_attribute : PutLinksAttribute
put_links_attribute room d n l kept says kind = ((seen_after (n.id + 1) (λ h. omega arith)).0, λ u ne. (seen_after u ne).1)
  where
    a : Accepted room d n l
    a = accepted room d n l says

    -- an attribute is no root
    below : n.parent ≡ 0 → ⊥
    below e = no_root (fits_root_kind (rw (eq-eqb n.parent 0 e) at a.suits))
      where
        fits_root_kind : fits_root d n l ≡ true → is_element n.kind ≡ true
        fits_root_kind h = (and_parts (is_element n.kind) (eqb l 0) (and_parts (eqb (size d) 0) (is_element n.kind && eqb l 0) h).1).0

        no_root : is_element n.kind ≡ true → ⊥
        no_root h = both_ways (is_element n.kind) (rw kind) h

    there : BelowThere d n l
    there = below_there d n l (rw (ne_eqb n.parent 0 below) at a.suits)

    put_is : put_leaves room d n l ≡ act n.parent unchanged (with_attribute (label n)) d
    put_is = leaves_accepted room d n l says ∙ rw (ne_eqb n.parent 0 below, kind)

    seen_after : (u : ℕ) → (u ≡ n.id → ⊥) → (view (put_leaves room d n l) n.id ≡ Some (new_attribute d n)) × (view (put_leaves room d n l) u ≡ option_map (linked_attribute n (previous_attribute d n) u) (view d u))
    seen_after u ne =
        let p = there.parent in
        let prev = previous_attribute d n in
        let next = (new_attribute d n).next_attribute in
        let m =
        linked n.parent n.id u prev (linked_attribute n prev u) (quiet_attribute n u prev ne) (with_attribute (label n)) p.v (new_attribute d n) p.child (Between n u prev next p.v p.child ne)
        (local_attribute n u prev next p.v p.child ne) (passed n u prev next p.v p.child ne) d (kept.distinct n.parent) p.at kept.shaped kept.distinct a.new (refl, refl) in
        (rw put_is m.here, rw put_is m.after)
