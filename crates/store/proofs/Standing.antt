-- How a node stands among its neighbours: which nodes lead to it.
use Rattle.std.proofs.Common.{◌≡◌, ℕ, ◌+◌, ◌<◌, ◌≤◌, Bool, true, false, cond, eqb, ◌⊎◌, List, [], ◌∷◌, Some, None, Option, sym, refl, ap, ◌∙◌, subst, inl, inr, arith}
use Rattle.std.proofs.lemmas.Bool.{eq-eqb, eqb-true}
use Rattle.document.specs.Tree.{Label, Forest, nil, node, count_labels, count, Attributes, Above}
use Rattle.document.specs.Table.{is_attribute}
use Rattle.document.proofs.Gathering.{holder_no_attribute}
use Rattle.store.specs.Kept.{Kept, Shaped, AtMostOne}
use Rattle.store.specs.Listed.{read_at}
use Rattle.store.specs.Views.{View, view, view_in, view_attribute, node_view, attribute_view, first_of, first_label, or_else}
use Rattle.store.proofs.Along.{seen_label, unseen}
use Rattle.store.proofs.Planting.{read_none}
use Rattle.store.proofs.Shapes.{above_zero, label_kind}
use Rattle.store.proofs.Telling.{SeenLabels, Seen, seen, one_here, elsewhere}

-- something holds of a node, which is there
abbrev pub Leads : Option View → (View → Type 0) → Type 0
Leads None P = ⊥
Leads (Some w) P = P w

leads : (o : Option View) (w : View) (P : View → Type 0) → o ≡ Some w → P w → Leads o P
leads o w P e h = subst (λ (q : Option View). Leads q P) (sym e) h

-- the attributes of p: each leads to the next, and p leads to the first
pub record Chain (d : Forest) (p : ℕ) (as' : List Label) : Type 0 where
  pub shows : SeenLabels (view d) p as'
  pub kinds : Attributes as'
  pub ascends : Above 0 as'
  pub reads : (g : List Label → ℕ) → read_at p (λ as' k. g as') d ≡ g as'
  pub owner : Leads (view d p) (λ w. w.first_attribute ≡ first_label as')

-- a node that is no attribute
pub record NodeStands (d : Forest) (t : ℕ) (x : View) : Type 0 where
  pub kind : is_attribute x.row.kind ≡ false
  pub alone : x.next_attribute ≡ 0
  pub next : (x.next_sibling ≡ 0 → ⊥) → Leads (view d x.next_sibling) (λ w. (w.left ≡ t) × (is_attribute w.row.kind ≡ false))
  pub left : (x.left ≡ 0 → ⊥) → Leads (view d x.left) (λ w. w.next_sibling ≡ t)
  pub child : (x.first_child ≡ 0 → ⊥) → Leads (view d x.first_child) (λ w. (w.left ≡ 0) × (w.row.parent ≡ t) × (is_attribute w.row.kind ≡ false))
  pub first : x.left ≡ 0 → (x.row.parent ≡ 0 → ⊥) → Leads (view d x.row.parent) (λ w. w.first_child ≡ t)
  pub top : x.row.parent ≡ 0 → (first_of d ≡ t) × (x.left ≡ 0) × (x.next_sibling ≡ 0)
  pub labels : List Label
  pub chain : Chain d t labels

pub record AttributeStands (d : Forest) (t : ℕ) (x : View) : Type 0 where
  pub kind : is_attribute x.row.kind ≡ true
  pub below : 0 < x.row.parent
  pub left : x.left ≡ 0
  pub next : x.next_sibling ≡ 0
  pub child : x.first_child ≡ 0
  pub bare : x.first_attribute ≡ 0
  pub labels : List Label
  pub chain : Chain d x.row.parent labels
  pub among : view_attribute t x.row.parent labels ≡ Some x
  pub unread : (g : List Label → ℕ) → read_at t (λ as' k. g as') d ≡ 0

-- where a node is seen
found_in : (t p l : ℕ) (r : Label) (as' : List Label) (k f : Forest) (x : View) → view_in t p l (node r as' k f) ≡ Some x
    → ((r.id ≡ t) × (x ≡ node_view p l r as' k f)) ⊎ ((view_attribute t r.id as' ≡ Some x) ⊎ ((view_in t r.id 0 k ≡ Some x) ⊎ (view_in t p r.id f ≡ Some x)))
found_in t p l r as' k f x = go (eqb r.id t) refl (view_attribute t r.id as') refl (view_in t r.id 0 k) refl
  where
    go : (b : Bool) → eqb r.id t ≡ b → (o : Option View) → view_attribute t r.id as' ≡ o → (q : Option View) → view_in t r.id 0 k ≡ q
        → cond b (Some (node_view p l r as' k f)) (or_else o (or_else q (view_in t p r.id f))) ≡ Some x
        → ((r.id ≡ t) × (x ≡ node_view p l r as' k f)) ⊎ ((view_attribute t r.id as' ≡ Some x) ⊎ ((view_in t r.id 0 k ≡ Some x) ⊎ (view_in t p r.id f ≡ Some x)))
    go true e o a q b h = inl (eqb-true r.id t e, cc)
    go false e (Some w) a q b h = inr (inl (a ∙ h))
    go false e None a (Some w) b h = inr (inr (inl (b ∙ h)))
    go false e None a None b h = inr (inr (inr h))

attribute_shape : (t p : ℕ) (as' : List Label) (x : View) → view_attribute t p as' ≡ Some x → (x.row.parent ≡ p) × (x.left ≡ 0) × (x.next_sibling ≡ 0) × (x.first_child ≡ 0) × (x.first_attribute ≡ 0)
attribute_shape t p [] x e = let z : ◌≡◌ {A = ℕ} 0 1 = cc in absurd (omega arith)
attribute_shape t p (r ∷ l) x e = go (eqb r.id t) e (attribute_shape t p l x)
  where
    Goal : Type 0
    Goal = (x.row.parent ≡ p) × (x.left ≡ 0) × (x.next_sibling ≡ 0) × (x.first_child ≡ 0) × (x.first_attribute ≡ 0)

    go : (b : Bool) → cond b (Some (attribute_view p r l)) (view_attribute t p l) ≡ Some x → (view_attribute t p l ≡ Some x → Goal) → Goal
    go true h ih =
        let q : x ≡ attribute_view p r l = cc in (
          ap (λ (w : View). w.row.parent) q,
          ap (λ (w : View). w.left) q,
          ap (λ (w : View). w.next_sibling) q,
          ap (λ (w : View). w.first_child) q,
          ap (λ (w : View). w.first_attribute) q,
        )
    go false h ih = ih h

abbrev pub first_attribute_of : Option View → ℕ
first_attribute_of None = 0
first_attribute_of (Some w) = w.first_attribute

owned : (o : Option View) (as' : List Label) → Leads o (λ w. w.first_attribute ≡ first_label as') → first_attribute_of o ≡ first_label as'
owned None as' h = absurd h
owned (Some w) as' h = h

module _ (d : Forest) (kept : Kept d) where
  -- what leads to the first node of a row below p and behind l
  record Context (p l : ℕ) (f : Forest) : Type 0 where
    left : (l ≡ 0 → ⊥) → Leads (view d l) (λ w. w.next_sibling ≡ first_of f)
    first : l ≡ 0 → (p ≡ 0 → ⊥) → Leads (view d p) (λ w. w.first_child ≡ first_of f)
    top : p ≡ 0 → (f ≡ nil) ⊎ ((f ≡ d) × (l ≡ 0))
    reads : (t : ℕ) (g : List Label → ℕ) → 1 ≤ count t f → read_at t (λ as' k. g as') d ≡ read_at t (λ as' k. g as') f

  no_sibling : (r : Label) (as' : List Label) (k f : Forest) → AtMostOne (node r as' k f) → f ≡ nil
  no_sibling r as' k nil h = refl
  no_sibling r as' k (node s bs l f) h = absurd h

  -- a row of roots is the document
  root_row : (r : Label) (as' : List Label) (k f : Forest) (l : ℕ) → (node r as' k f ≡ nil) ⊎ ((node r as' k f ≡ d) × (l ≡ 0)) → (node r as' k f ≡ d) × (l ≡ 0) × (f ≡ nil)
  root_row r as' k f l (inl e) = let z : ◌≡◌ {A = ℕ} 0 1 = cc in absurd (omega arith)
  root_row r as' k f l (inr h) = (h.0, h.1, no_sibling r as' k f (subst AtMostOne (sym h.0) kept.root))

  next_leads : (p l : ℕ) (f : Forest) → Shaped f → Seen (view d) p l f → (first_of f ≡ 0 → ⊥) → Leads (view d (first_of f)) (λ w. (w.left ≡ l) × (w.row.parent ≡ p) × (is_attribute w.row.kind ≡ false))
  next_leads p l nil s u n = absurd (n refl)
  next_leads p l (node r as' k f) s u n =
      leads (view d r.id) (node_view p l r as' k f) (λ w. (w.left ≡ l) × (w.row.parent ≡ p) × (is_attribute w.row.kind ≡ false)) u.0
      (refl, refl, holder_no_attribute r.kind as' k s.1)

  module _ (p l : ℕ) (r : Label) (as' : List Label) (k f : Forest) (u : (t : ℕ) → count t (node r as' k f) ≤ 1) (s : Shaped (node r as' k f)) (w : Seen (view d) p l (node r as' k f)) (c : Context p l (node r as' k f)) where
    at_node_reads : (g : List Label → ℕ) → read_at r.id (λ as' k. g as') d ≡ g as'
    at_node_reads g =
        let i = one_here r.id in
        let h = u r.id in
        let e = c.reads r.id g (omega arith) in
        let a = read_none r.id (λ as' k. g as') k (omega arith) in
        let b = read_none r.id (λ as' k. g as') f (omega arith) in
        let z : cond (eqb r.id r.id) (g as') 0 ≡ g as' = rw (eq-eqb r.id r.id refl) in
        omega arith

    own_chain : Chain d r.id as'
    own_chain = record {
      shows = w.1;
      kinds = s.2;
      ascends = s.3;
      reads = at_node_reads;
      owner = leads (view d r.id) (node_view p l r as' k f) (λ w. w.first_attribute ≡ first_label as') w.0 refl;
    }

    below_context : Context r.id 0 k
    below_context = record {
      left = λ n. absurd (n refl);
      first = λ e n. leads (view d r.id) (node_view p l r as' k f) (λ w. w.first_child ≡ first_of k) w.0 refl;
      top = λ e. absurd (omega (arith, above_zero r s.0));
      reads = λ t g h.
          let e = c.reads t g (omega arith) in
          let n = elsewhere r.id t (count_labels t as' + (count t k + count t f)) (u t) (omega arith) in
          let b = read_none t (λ as' k. g as') f (omega (arith, u t)) in
          let z : cond (eqb r.id t) (g as') 0 ≡ 0 = rw n in
          omega arith;
    }

    behind_context : Context p r.id f
    behind_context = record {
      left = λ n. leads (view d r.id) (node_view p l r as' k f) (λ w. w.next_sibling ≡ first_of f) w.0 refl;
      first = λ e n. absurd (omega (arith, above_zero r s.0));
      top = λ e. inl (root_row r as' k f l (c.top e)).2;
      reads = λ t g h.
          let e = c.reads t g (omega arith) in
          let n = elsewhere r.id t (count_labels t as' + (count t k + count t f)) (u t) (omega arith) in
          let b = read_none t (λ as' k. g as') k (omega (arith, u t)) in
          let z : cond (eqb r.id t) (g as') 0 ≡ 0 = rw n in
          omega arith;
    }

    here : NodeStands d r.id (node_view p l r as' k f)
    here = record {
      kind = holder_no_attribute r.kind as' k s.1;
      alone = refl;
      next = λ n. weaker (view d (first_of f)) (next_leads p r.id f s.5 w.3 n);
      left = c.left;
      child = next_leads r.id 0 k s.4 w.2;
      first = c.first;
      top = λ e. let h = root_row r as' k f l (c.top e) in (ap first_of (sym h.0), h.1, ap first_of h.2);
      labels = as';
      chain = own_chain;
    }
      where
        weaker : (o : Option View) → Leads o (λ w. (w.left ≡ r.id) × (w.row.parent ≡ p) × (is_attribute w.row.kind ≡ false)) → Leads o (λ w. (w.left ≡ r.id) × (is_attribute w.row.kind ≡ false))
        weaker None h = h
        weaker (Some w) h = (h.0, h.2)

    attribute_here : (t : ℕ) (x : View) → view_attribute t r.id as' ≡ Some x → AttributeStands d t x
    attribute_here t x e =
        let h = attribute_shape t r.id as' x e in
        record {
          kind = ap is_attribute (label_kind t r.id as' x s.2 e);
          below = omega (arith, h.0, above_zero r s.0);
          left = h.1;
          next = h.2;
          child = h.3;
          bare = h.4;
          labels = as';
          chain = subst (λ (q : ℕ). Chain d q as') (sym h.0) own_chain;
          among = subst (λ (q : ℕ). view_attribute t q as' ≡ Some x) (sym h.0) e;
          unread = λ g.
              let c₁ = seen_label t r.id as' x e in
              let c₂ = u t in
              let i = c.reads t g (omega arith) in
              let n = elsewhere r.id t (count_labels t as' + (count t k + count t f)) (u t) (omega arith) in
              let a = read_none t (λ as' k. g as') k (omega arith) in
              let b = read_none t (λ as' k. g as') f (omega arith) in
              let z : cond (eqb r.id t) (g as') 0 ≡ 0 = rw n in
              omega arith;
        }

  stands_in : (p l : ℕ) (f : Forest) → ((t : ℕ) → count t f ≤ 1) → Shaped f → Seen (view d) p l f → Context p l f → (t : ℕ) (x : View) → view_in t p l f ≡ Some x
      → NodeStands d t x ⊎ AttributeStands d t x
  stands_in p l nil u s w c t x e = let z : ◌≡◌ {A = ℕ} 0 1 = cc in absurd (omega arith)
  stands_in p l (node r as' k f) u s w c t x e =
      go (found_in t p l r as' k f x e)
      (stands_in r.id 0 k (λ t. omega (arith, u t)) s.4 w.2 (below_context p l r as' k f u s w c) t x)
      (stands_in p r.id f (λ t. omega (arith, u t)) s.5 w.3 (behind_context p l r as' k f u s w c) t x)
    where
      Goal : Type 0
      Goal = NodeStands d t x ⊎ AttributeStands d t x

      go : ((r.id ≡ t) × (x ≡ node_view p l r as' k f)) ⊎ ((view_attribute t r.id as' ≡ Some x) ⊎ ((view_in t r.id 0 k ≡ Some x) ⊎ (view_in t p r.id f ≡ Some x)))
          → (view_in t r.id 0 k ≡ Some x → Goal) → (view_in t p r.id f ≡ Some x → Goal) → Goal
      go (inl h) i j = inl (subst (λ (y : View). NodeStands d t y) (sym h.1) (subst (λ (m : ℕ). NodeStands d m (node_view p l r as' k f)) h.0 (here p l r as' k f u s w c)))
      go (inr (inl h)) i j = inr (attribute_here p l r as' k f u s w c t x h)
      go (inr (inr (inl h))) i j = i h
      go (inr (inr (inr h))) i j = j h

  whole : Context 0 0 d
  whole = record { left = λ n. absurd (n refl); first = λ e n. absurd (n refl); top = λ e. inr (refl, refl); reads = λ t g h. refl }

  pub stands : (t : ℕ) (x : View) → view d t ≡ Some x → NodeStands d t x ⊎ AttributeStands d t x
  stands t x e = stands_in 0 0 d kept.distinct kept.shaped (seen (view d) 0 0 d kept.distinct (λ t g. refl)) whole t x e

  -- the attributes of p, none where p is no node with attributes
  pub record RowOfAttributes (p : ℕ) : Type 0 where
    pub labels : List Label
    pub starts : first_attribute_of (view d p) ≡ first_label labels
    pub shows : SeenLabels (view d) p labels
    pub ascends : Above 0 labels
    pub reads : (g : List Label → ℕ) → g [] ≡ 0 → read_at p (λ as' k. g as') d ≡ g labels

  pub row_of_attributes : (p : ℕ) → RowOfAttributes p
  row_of_attributes p = go (view d p) refl
    where
      none : first_attribute_of (view d p) ≡ 0 → ((g : List Label → ℕ) → read_at p (λ as' k. g as') d ≡ 0) → RowOfAttributes p
      none e z = record { labels = []; starts = e; shows = tt; ascends = tt; reads = λ g h. z g ∙ sym h }

      by : (w : View) → view d p ≡ Some w → NodeStands d p w ⊎ AttributeStands d p w → RowOfAttributes p
      by w e (inl n) =
          record {
            labels = n.labels;
            starts = owned (view d p) n.labels n.chain.owner;
            shows = n.chain.shows;
            ascends = n.chain.ascends;
            reads = λ g h. n.chain.reads g;
          }
      by w e (inr a) = none (ap first_attribute_of e ∙ a.bare) a.unread

      go : (o : Option View) → view d p ≡ o → RowOfAttributes p
      go None e = none (ap first_attribute_of e) (λ g. read_none p (λ as' k. g as') d (unseen p 0 0 d e))
      go (Some w) e = by w e (stands p w e)
