-- Which nodes have a link to the node that is taken out.
use Rattle.std.proofs.Common.{◌≡◌, ℕ, ◌<◌, Bool, true, false, cond, ◌&&◌, eqb, ltb, ◌⊎◌, List, [], ◌∷◌, Some, None, Option, sym, refl, ap, ◌∙◌, subst, inl, inr, arith}
use Rattle.std.specs.Option.{option_map}
use Rattle.std.proofs.lemmas.Bool.{eq-eqb, ne_eqb, eqb-true, lt-ltb, le-ltb, true≢false, and_from, and_parts}
use Rattle.document.specs.Tree.{Label, Forest, count, Attributes, Above}
use Rattle.document.specs.Table.{is_attribute}
use Rattle.store.specs.Kept.{Kept}
use Rattle.store.specs.Views.{View, view, view_attribute, attribute_view, first_label}
use Rattle.store.specs.Links.{passed_on, unlinked, label_before, attribute_before, relinked_past, relinked_past_child, relinked_past_attribute, TakeRelinks}
use Rattle.store.proofs.Along.{seen}
use Rattle.store.proofs.Shapes.{no_zero}
use Rattle.store.proofs.Standing.{Leads, NodeStands, AttributeStands, stands}
use Rattle.store.proofs.Telling.{SeenLabels}
use Rattle.store.proofs.Unlinking.{take_unlinks}

-- two tests that hold together are one
pub both : (a b : Bool) → (a ≡ true → b ≡ true) → (b ≡ true → a ≡ true) → a ≡ b
both true true f g = refl
both true false f g = sym (f refl)
both false true f g = g refl
both false false f g = refl

known : (o : Option View) (w : View) (P : View → Type 0) → o ≡ Some w → Leads o P → P w
known o w P e h = subst (λ (q : Option View). Leads q P) e h

module _ (v : ℕ → Option View) (p : ℕ) where
  leads_to : (o : Option View) (w : View) (P : View → Type 0) → o ≡ Some w → P w → Leads o P
  leads_to o w P e h = subst (λ (q : Option View). Leads q P) (sym e) h

  -- an attribute that another leads to
  first_in_chain : (as' : List Label) (t : ℕ) → SeenLabels v p as' → Attributes as' → first_label as' ≡ t → (t ≡ 0 → ⊥)
      → (label_before 0 t as' ≡ 0) × Leads (v t) (λ w. (is_attribute w.row.kind ≡ true) × (w.row.parent ≡ p))
  first_in_chain [] t s k e n = absurd (n (sym e))
  first_in_chain (r ∷ l) t s k e n =
      let below : ltb r.id t ≡ false = le-ltb r.id t (omega arith) in
      (rw below, leads_to (v t) (attribute_view p r l) (λ w. (is_attribute w.row.kind ≡ true) × (w.row.parent ≡ p)) (ap v (sym e) ∙ s.0) (ap is_attribute k.0, refl))

  next_in_chain : (m : ℕ) (as' : List Label) (u t : ℕ) (y : View) → SeenLabels v p as' → Attributes as' → Above m as' → view_attribute u p as' ≡ Some y → y.next_attribute ≡ t → (t ≡ 0 → ⊥)
      → (label_before m t as' ≡ u) × (m < t) × Leads (v t) (λ w. (is_attribute w.row.kind ≡ true) × (w.row.parent ≡ p))
  next_in_chain m [] u t y s k a e q n = let z : ◌≡◌ {A = ℕ} 0 1 = cc in absurd (omega arith)
  next_in_chain m (r ∷ l) u t y s k a e q n = go (eqb r.id u) refl e (next_in_chain r.id l u t y s.1 k.2 a.1)
    where
      Goal : ℕ → List Label → Type 0
      Goal m l = (label_before m t l ≡ u) × (m < t) × Leads (v t) (λ w. (is_attribute w.row.kind ≡ true) × (w.row.parent ≡ p))

      here : (l : List Label) → SeenLabels v p l → Attributes l → Above r.id l → first_label l ≡ t → r.id ≡ u → Goal m (r ∷ l)
      here [] s k b e f = absurd (n (sym e))
      here (x ∷ l) s k b e f =
          let c : ltb r.id t ≡ true = lt-ltb r.id t (omega arith) in
          let c' : ltb x.id t ≡ false = le-ltb x.id t (omega arith) in
          let i = a.0 in
          (rw (c, c') f, omega arith, leads_to (v t) (attribute_view p x l) (λ w. (is_attribute w.row.kind ≡ true) × (w.row.parent ≡ p)) (ap v (sym e) ∙ s.0) (ap is_attribute k.0, refl))

      go : (b : Bool) → eqb r.id u ≡ b → cond b (Some (attribute_view p r l)) (view_attribute u p l) ≡ Some y
          → (view_attribute u p l ≡ Some y → y.next_attribute ≡ t → (t ≡ 0 → ⊥) → Goal r.id l) → Goal m (r ∷ l)
      go true h e ih =
          let z : y ≡ attribute_view p r l = cc in
          here l s.1 k.2 a.1 (ap (λ (w : View). w.next_attribute) (sym z) ∙ q) (eqb-true r.id u h)
      go false h e ih =
          let i = ih e q n in
          let c : ltb r.id t ≡ true = lt-ltb r.id t i.1 in
          let j = a.0 in
          (rw c i.0, omega arith, i.2)

  -- what leads to an attribute: the one before it, or the element
  before_in_chain : (m : ℕ) (as' : List Label) (t : ℕ) (x : View) → SeenLabels v p as' → Above m as' → view_attribute t p as' ≡ Some x
      → (((label_before m t as' ≡ m) × (first_label as' ≡ t)) ⊎ (Leads (v (label_before m t as')) (λ w. w.next_attribute ≡ t) × (m < label_before m t as'))) × (m < t)
  before_in_chain m [] t x s a e = let z : ◌≡◌ {A = ℕ} 0 1 = cc in absurd (omega arith)
  before_in_chain m (r ∷ l) t x s a e = go (eqb r.id t) refl e (before_in_chain r.id l t x s.1 a.1)
    where
      Goal : ℕ → List Label → Type 0
      Goal m l = (((label_before m t l ≡ m) × (first_label l ≡ t)) ⊎ (Leads (v (label_before m t l)) (λ w. w.next_attribute ≡ t) × (m < label_before m t l))) × (m < t)

      Led : ℕ → Type 0
      Led i = Leads (v i) (λ w. w.next_attribute ≡ t) × (m < i)

      behind : ltb r.id t ≡ true → ((label_before r.id t l ≡ r.id) × (first_label l ≡ t)) ⊎ (Leads (v (label_before r.id t l)) (λ w. w.next_attribute ≡ t) × (r.id < label_before r.id t l))
          → Led (label_before r.id t l)
      behind c (inl h) = subst Led (sym h.0) (leads_to (v r.id) (attribute_view p r l) (λ w. w.next_attribute ≡ t) s.0 h.1, a.0)
      behind c (inr h) = let i = a.0 in (h.0, omega (arith, h.1))

      go : (b : Bool) → eqb r.id t ≡ b → cond b (Some (attribute_view p r l)) (view_attribute t p l) ≡ Some x
          → (view_attribute t p l ≡ Some x → Goal r.id l) → Goal m (r ∷ l)
      go true h e ih =
          let i = eqb-true r.id t h in
          let c : ltb r.id t ≡ false = le-ltb r.id t (omega arith) in
          let j = a.0 in
          (inl (rw c, i), omega arith)
      go false h e ih =
          let i = ih e in
          let c : ltb r.id t ≡ true = lt-ltb r.id t i.1 in
          let j = a.0 in
          (inr (subst Led (sym (rw c refl)) (behind c i.0)), omega (arith, i.1))

module _ (d : Forest) (kept : Kept d) (t : ℕ) (w : View) (e : view d t ≡ Some w) (pos : t ≡ 0 → ⊥) (u : ℕ) (v : View) (h : view d u ≡ Some v) (there : u ≡ 0 → ⊥) where
  -- a node of the other kind
  apart : {X : Type 0} → is_attribute w.row.kind ≡ true → is_attribute w.row.kind ≡ false → X
  apart a b = absurd (true≢false (sym a ∙ b))

  -- links among children
  next_leads_to : v.next_sibling ≡ t → (w.left ≡ u) × (is_attribute w.row.kind ≡ false)
  next_leads_to q = go (stands d kept u v h)
    where
      go : NodeStands d u v ⊎ AttributeStands d u v → (w.left ≡ u) × (is_attribute w.row.kind ≡ false)
      go (inl n) = known (view d v.next_sibling) w (λ w. (w.left ≡ u) × (is_attribute w.row.kind ≡ false)) (ap (view d) q ∙ e) (n.next (λ z. pos (sym q ∙ z)))
      go (inr a) = absurd (pos (sym q ∙ a.next))

  left_leads_to : v.left ≡ t → w.next_sibling ≡ u
  left_leads_to q = go (stands d kept u v h)
    where
      go : NodeStands d u v ⊎ AttributeStands d u v → w.next_sibling ≡ u
      go (inl n) = known (view d v.left) w (λ w. w.next_sibling ≡ u) (ap (view d) q ∙ e) (n.left (λ z. pos (sym q ∙ z)))
      go (inr a) = absurd (pos (sym q ∙ a.left))

  child_leads_to : v.first_child ≡ t → (w.left ≡ 0) × (w.row.parent ≡ u) × (is_attribute w.row.kind ≡ false)
  child_leads_to q = go (stands d kept u v h)
    where
      go : NodeStands d u v ⊎ AttributeStands d u v → (w.left ≡ 0) × (w.row.parent ≡ u) × (is_attribute w.row.kind ≡ false)
      go (inl n) = known (view d v.first_child) w (λ w. (w.left ≡ 0) × (w.row.parent ≡ u) × (is_attribute w.row.kind ≡ false)) (ap (view d) q ∙ e) (n.child (λ z. pos (sym q ∙ z)))
      go (inr a) = absurd (pos (sym q ∙ a.child))

  -- links among attributes
  attribute_leads_to : v.first_attribute ≡ t → (is_attribute w.row.kind ≡ true) × (w.row.parent ≡ u) × (attribute_before d u t ≡ 0)
  attribute_leads_to q = go (stands d kept u v h)
    where
      go : NodeStands d u v ⊎ AttributeStands d u v → (is_attribute w.row.kind ≡ true) × (w.row.parent ≡ u) × (attribute_before d u t ≡ 0)
      go (inr a) = absurd (pos (sym q ∙ a.bare))
      go (inl n) =
          let c = n.chain in
          let o : v.first_attribute ≡ first_label n.labels = known (view d u) v (λ w. w.first_attribute ≡ first_label n.labels) h c.owner in
          let f = first_in_chain (view d) u n.labels t c.shows c.kinds (sym o ∙ q) pos in
          let k = known (view d t) w (λ w. (is_attribute w.row.kind ≡ true) × (w.row.parent ≡ u)) e f.1 in
          (k.0, k.1, c.reads (label_before 0 t) ∙ f.0)

  following_leads_to : v.next_attribute ≡ t → (is_attribute w.row.kind ≡ true) × (attribute_before d w.row.parent t ≡ u)
  following_leads_to q = go (stands d kept u v h)
    where
      go : NodeStands d u v ⊎ AttributeStands d u v → (is_attribute w.row.kind ≡ true) × (attribute_before d w.row.parent t ≡ u)
      go (inl n) = absurd (pos (sym q ∙ n.alone))
      go (inr a) =
          let c = a.chain in
          let f = next_in_chain (view d) v.row.parent 0 a.labels u t v c.shows c.kinds c.ascends a.among q pos in
          let k = known (view d t) w (λ w. (is_attribute w.row.kind ≡ true) × (w.row.parent ≡ v.row.parent)) e f.2 in
          (k.0, ap (λ (p : ℕ). attribute_before d p t) k.1 ∙ c.reads (label_before 0 t) ∙ f.0)

  -- the node u once t is taken out, where t is a child
  module _ (child : is_attribute w.row.kind ≡ false) (n : NodeStands d t w) where
    on_left : eqb v.left t ≡ eqb u w.next_sibling
    on_left = both _ _ (λ a. eq-eqb u w.next_sibling (sym (left_leads_to (eqb-true v.left t a)))) (λ b. eq-eqb v.left t (back (eqb-true u w.next_sibling b)))
      where
        back : u ≡ w.next_sibling → v.left ≡ t
        back q = (known (view d w.next_sibling) v (λ v. (v.left ≡ t) × (is_attribute v.row.kind ≡ false)) (ap (view d) (sym q) ∙ h) (n.next (λ z. there (q ∙ z)))).0

    on_next : eqb v.next_sibling t ≡ eqb u w.left
    on_next = both _ _ (λ a. eq-eqb u w.left (sym (next_leads_to (eqb-true v.next_sibling t a)).0)) (λ b. eq-eqb v.next_sibling t (back (eqb-true u w.left b)))
      where
        back : u ≡ w.left → v.next_sibling ≡ t
        back q = known (view d w.left) v (λ v. v.next_sibling ≡ t) (ap (view d) (sym q) ∙ h) (n.left (λ z. there (q ∙ z)))

    on_child : eqb v.first_child t ≡ (eqb u w.row.parent && eqb w.left 0)
    on_child = both _ _ to from
      where
        to : eqb v.first_child t ≡ true → (eqb u w.row.parent && eqb w.left 0) ≡ true
        to a = let c = child_leads_to (eqb-true v.first_child t a) in and_from _ _ (eq-eqb u w.row.parent (sym c.1)) (eq-eqb w.left 0 c.0)

        back : u ≡ w.row.parent → w.left ≡ 0 → v.first_child ≡ t
        back q z = known (view d w.row.parent) v (λ v. v.first_child ≡ t) (ap (view d) (sym q) ∙ h) (n.first z (λ y. there (q ∙ y)))

        from : (eqb u w.row.parent && eqb w.left 0) ≡ true → eqb v.first_child t ≡ true
        from b =
            let c = and_parts (eqb u w.row.parent) (eqb w.left 0) b in
            eq-eqb v.first_child t (back (eqb-true u w.row.parent c.0) (eqb-true w.left 0 c.1))

    no_attribute_link : (x on : ℕ) → (x ≡ t → is_attribute w.row.kind ≡ true) → passed_on t on x ≡ x
    no_attribute_link x on f = rw (ne_eqb x t (λ q. apart (f q) child))

    past_child : unlinked t w v ≡ relinked_past_child w u v
    past_child =
        rw (on_left, on_next, on_child, no_attribute_link v.first_attribute w.next_attribute (λ q. (attribute_leads_to q).0), no_attribute_link v.next_attribute w.next_attribute (λ q. (following_leads_to q).0))

  -- the node u once t is taken out, where t is an attribute
  module _ (a : AttributeStands d t w) where
    abbrev p : ℕ
    p = w.row.parent

    abbrev m : ℕ
    m = attribute_before d p t

    before : (((m ≡ 0) × (first_label a.labels ≡ t)) ⊎ (Leads (view d m) (λ x. x.next_attribute ≡ t) × (0 < m)))
    before =
        subst (λ (i : ℕ). ((i ≡ 0) × (first_label a.labels ≡ t)) ⊎ (Leads (view d i) (λ x. x.next_attribute ≡ t) × (0 < i))) (sym (a.chain.reads (label_before 0 t)))
        (before_in_chain (view d) p 0 a.labels t w a.chain.shows a.chain.ascends a.among).0

    on_following : eqb v.next_attribute t ≡ eqb u m
    on_following = both _ _ (λ q. eq-eqb u m (sym (following_leads_to (eqb-true v.next_attribute t q)).1)) (λ b. eq-eqb v.next_attribute t (back (eqb-true u m b) before))
      where
        back : u ≡ m → (((m ≡ 0) × (first_label a.labels ≡ t)) ⊎ (Leads (view d m) (λ x. x.next_attribute ≡ t) × (0 < m))) → v.next_attribute ≡ t
        back q (inl z) = absurd (there (q ∙ z.0))
        back q (inr z) = known (view d m) v (λ x. x.next_attribute ≡ t) (ap (view d) (sym q) ∙ h) z.0

    on_attribute : eqb v.first_attribute t ≡ (eqb u p && eqb m 0)
    on_attribute = both _ _ to from
      where
        to : eqb v.first_attribute t ≡ true → (eqb u p && eqb m 0) ≡ true
        to q =
            let c = attribute_leads_to (eqb-true v.first_attribute t q) in
            and_from _ _ (eq-eqb u p (sym c.1)) (eq-eqb m 0 (ap (λ (i : ℕ). attribute_before d i t) c.1 ∙ c.2))

        back : u ≡ p → m ≡ 0 → (((m ≡ 0) × (first_label a.labels ≡ t)) ⊎ (Leads (view d m) (λ x. x.next_attribute ≡ t) × (0 < m))) → v.first_attribute ≡ t
        back q z (inl f) = known (view d p) v (λ x. x.first_attribute ≡ first_label a.labels) (ap (view d) (sym q) ∙ h) a.chain.owner ∙ f.1
        back q z (inr f) = let i = f.1 in absurd (omega arith)

        from : (eqb u p && eqb m 0) ≡ true → eqb v.first_attribute t ≡ true
        from b =
            let c = and_parts (eqb u p) (eqb m 0) b in
            eq-eqb v.first_attribute t (back (eqb-true u p c.0) (eqb-true m 0 c.1) before)

    no_child_link : (x on : ℕ) → (x ≡ t → ⊥) → passed_on t on x ≡ x
    no_child_link x on f = rw (ne_eqb x t f)

    past_attribute : unlinked t w v ≡ relinked_past_attribute w m u v
    past_attribute =
        rw (
          on_following,
          on_attribute,
          no_child_link v.left w.left (λ q. there (sym (left_leads_to q) ∙ a.next)),
          no_child_link v.next_sibling w.next_sibling (λ q. apart a.kind (next_leads_to q).1),
          no_child_link v.first_child w.next_sibling (λ q. apart a.kind (child_leads_to q).2),
        )

  pub past : unlinked t w v ≡ relinked_past d t w u v
  past = go (stands d kept t w e)
    where
      go : NodeStands d t w ⊎ AttributeStands d t w → unlinked t w v ≡ relinked_past d t w u v
      go (inl n) = past_child n.kind n ∙ rw n.kind
      go (inr a) = past_attribute a ∙ rw a.kind

pub take_relinks : TakeRelinks
take_relinks d t w kept e ok =
    let n = take_unlinks d t w kept e ok in
    (n.0, λ u ne. n.1 u ne ∙ go u (view d u) refl)
  where
    nonzero : (i : ℕ) (x : View) → view d i ≡ Some x → i ≡ 0 → ⊥
    nonzero i x s z = let c = seen i 0 0 d x s in omega (arith, ap (λ (j : ℕ). count j d) z, no_zero d kept.shaped)

    go : (u : ℕ) (o : Option View) → view d u ≡ o → option_map (unlinked t w) o ≡ option_map (relinked_past d t w u) o
    go u None s = refl
    go u (Some v) s = ap Some (past d kept t w e (nonzero t w e) u v s (nonzero u v s))
