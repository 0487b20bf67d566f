-- The rows of trees, put in one after another in document order, build the trees.
use Rattle.std.proofs.Common.{◌≡◌, ℕ, ◌+◌, ◌<◌, ◌≤◌, true, false, eqb, List, [], ◌∷◌, ◌++◌, Ok, sym, refl, ap, ◌∙◌, subst, append_assoc, append-nil, arith}
use Rattle.std.proofs.lemmas.Bool.{eq-eqb, ne_eqb, le-ltb}
use Rattle.records.specs.Formed.{formed_node}
use Rattle.records.specs.declared.nodes.Kind.{Kind}
use Rattle.records.specs.declared.nodes.Kind.TheVariants.{Element, Attribute, Text}
use Rattle.records.specs.declared.nodes.Node.{Node}
use Rattle.document.specs.Tree.{Label, Forest, nil, node, one, count_labels, count, size_labels, size, Above, Attributes, Holds}
use Rattle.document.specs.Listing.{row}
use Rattle.document.specs.Table.{is_attribute}
use Rattle.document.proofs.Gathering.{holder_no_attribute}
use Rattle.store.specs.Kept.{Shaped, AtMostOne}
use Rattle.store.specs.Views.{view}
use Rattle.store.specs.Writes.{unchanged, insert_label, with_attribute, put_in}
use Rattle.store.specs.Says.{is_there, is_element, is_element_there, fits, put_says}
use Rattle.store.proofs.Along.{absent}
use Rattle.store.proofs.Shapes.{above_zero}
use Rattle.store.proofs.Telling.{one_here}
use Rattle.carry.proofs.Contexts.{Place, itself, below, behind}

-- the puts that build a row of trees below p and behind l
abbrev pub attribute_steps : ℕ → List Label → List (Node × ℕ)
attribute_steps p [] = []
attribute_steps p (a ∷ l) = (row p a, 0) ∷ attribute_steps p l

abbrev pub steps : ℕ → ℕ → Forest → List (Node × ℕ)
steps p l nil = []
steps p l (node r as' k f) = (row p r, l) ∷ (attribute_steps r.id as' ++ (steps r.id 0 k ++ steps p r.id f))

-- puts that lead from d to e, none of them refused
abbrev pub Leads : ℕ → List (Node × ℕ) → Forest → Forest → Type 0
Leads room [] d e = d ≡ e
Leads room (s ∷ ss) d e = (put_says room d s.0 s.1 ≡ Ok tt) × Leads room ss (put_in d s.0 s.1) e

joined : (room : ℕ) (ss us : List (Node × ℕ)) (d e f : Forest) → Leads room ss d e → Leads room us e f → Leads room (ss ++ us) d f
joined room [] us d e f h k = subst (λ (x : Forest). Leads room us x f) (sym h) k
joined room (s ∷ ss) us d e f h k = (h.0, joined room ss us (put_in d s.0 s.1) e f h.1 k)

first_leads : (room : ℕ) (s : Node × ℕ) (ss : List (Node × ℕ)) (d d' e : Forest) → put_says room d s.0 s.1 ≡ Ok tt → put_in d s.0 s.1 ≡ d' → Leads room ss d' e → Leads room (s ∷ ss) d e
first_leads room s ss d d' e a b h = (a, subst (λ (x : Forest). Leads room ss x e) (sym b) h)

accepted : (room : ℕ) (d : Forest) (n : Node) (l : ℕ) → formed_node n ≡ true → count n.id d ≡ 0 → fits d n l ≡ true → size d < room → put_says room d n l ≡ Ok tt
accepted room d n l a b f s =
    let t : is_there (view d n.id) ≡ false = ap is_there (absent n.id 0 0 d b) in
    rw (a, t, f, ne_eqb (size d) room (λ e. omega arith)) refl

-- attributes in ascending identifiers come behind one another
above_last : (m : ℕ) (bs : List Label) (a : Label) (cs : List Label) → Above m (bs ++ (a ∷ cs)) → m < a.id
above_last m [] a cs h = h.0
above_last m (b ∷ bs) a cs h = let i = above_last b.id bs a cs h.1 in let j = h.0 in omega arith

inserted_last : (m : ℕ) (bs : List Label) (a : Label) (cs : List Label) → Above m (bs ++ (a ∷ cs)) → insert_label a bs ≡ bs ++ (a ∷ [])
inserted_last m [] a cs h = refl
inserted_last m (b ∷ bs) a cs h =
    let i = above_last b.id bs a cs h.1 in
    rw (le-ltb a.id b.id (omega arith), inserted_last b.id bs a cs h.1)

labels-++ : (t : ℕ) (bs cs : List Label) → count_labels t (bs ++ cs) ≡ count_labels t bs + count_labels t cs
labels-++ t [] cs = omega arith
labels-++ t (b ∷ bs) cs = omega (arith, labels-++ t bs cs)

sizes-++ : (bs cs : List Label) → size_labels (bs ++ cs) ≡ size_labels bs + size_labels cs
sizes-++ [] cs = omega arith
sizes-++ (b ∷ bs) cs = omega (arith, sizes-++ bs cs)

module _ (room : ℕ) where
  attributes : (p l : ℕ) (around : Forest → Forest) (c : ℕ → ℕ) (n : ℕ) (place : Place p l around c n) (r : Label) (bs as' : List Label) → 0 < r.id → c r.id ≡ 0
      → Attributes as' → Above 0 (bs ++ as') → ((as' ≡ [] → ⊥) → r.kind ≡ Element)
      → ((t : ℕ) → c t + (one (eqb r.id t) + (count_labels t bs + count_labels t as')) ≤ 1) → n + (1 + (size_labels bs + size_labels as')) ≤ room
      → Leads room (attribute_steps r.id as') (around (node r bs nil nil)) (around (node r (bs ++ as') nil nil))
  attributes p l around c n place r bs [] pos new a up e once fits' = ap (λ (w : List Label). around (node r w nil nil)) (sym (append-nil bs))
  attributes p l around c n place r bs (x ∷ as') pos new a up e once fits' =
      first_leads room (row r.id x, 0) (attribute_steps r.id as') S (around (node r (bs ++ (x ∷ [])) nil nil)) (around (node r (bs ++ (x ∷ as')) nil nil))
      (accepted room S (row r.id x) 0 a.1 unknown suits small) grown
      (subst (λ (w : List Label). Leads room (attribute_steps r.id as') (around (node r (bs ++ (x ∷ [])) nil nil)) (around (node r w nil nil))) (append_assoc bs (x ∷ []) as')
      (attributes p l around c n place r (bs ++ (x ∷ [])) as' pos new a.2 (subst (Above 0) (sym (append_assoc bs (x ∷ []) as')) up) (λ ne. element)
      (λ t. omega (arith, once t, labels-++ t bs (x ∷ []))) (omega (arith, sizes-++ bs (x ∷ [])))))
    where
      S : Forest
      S = around (node r bs nil nil)

      element : r.kind ≡ Element
      element = e (λ q. let z : size_labels (x ∷ as') ≡ 0 = ap size_labels q in omega arith)

      unknown : count x.id S ≡ 0
      unknown = let u = one_here x.id in omega (arith, once x.id, place.counts x.id (node r bs nil nil))

      small : size S < room
      small = omega (arith, place.sizes (node r bs nil nil))

      suits : fits S (row r.id x) 0 ≡ true
      suits =
          let h : is_element_there (view (around (node r bs nil nil)) r.id) ≡ true = ap is_element_there (itself p l around c n place r bs pos new nil nil) ∙ ap is_element element in
          rw (ne_eqb r.id 0 (λ z. omega arith), h) refl

      grown : put_in S (row r.id x) 0 ≡ around (node r (bs ++ (x ∷ [])) nil nil)
      grown =
          let k : is_attribute x.kind ≡ true = ap is_attribute a.0 in
          rw (ne_eqb r.id 0 (λ z. omega arith), k)
          (place.acts r.id unchanged (with_attribute x) (λ w z. refl) new (node r bs nil nil)
          ∙ ap around (rw (eq-eqb r.id r.id refl) (ap (λ (w : List Label). node r w nil nil) (inserted_last 0 bs x as' up))))

  pub planted : (g : Forest) (p l : ℕ) (around : Forest → Forest) (c : ℕ → ℕ) (n : ℕ) → Place p l around c n → Shaped g → (p ≡ 0 → AtMostOne g)
      → ((t : ℕ) → c t + count t g ≤ 1) → n + size g ≤ room → Leads room (steps p l g) (around nil) (around g)
  planted nil p l around c n place s one_root once fits' = refl
  planted (node r as' k f) p l around c n place s one_root once fits' =
      first_leads room (row p r, l) (attribute_steps r.id as' ++ (steps r.id 0 k ++ steps p r.id f)) (around nil) (around (node r [] nil nil)) (around (node r as' k f))
      (accepted room (around nil) (row p r) l s.0 unknown (place.opens r child root_kind) small) (place.takes r child)
      (joined room (attribute_steps r.id as') (steps r.id 0 k ++ steps p r.id f) (around (node r [] nil nil)) (around (node r as' nil nil)) (around (node r as' k f))
      (attributes p l around c n place r [] as' pos new s.2 s.3 (λ ne. element_if as' k s.1 (λ q. ne q.0)) (λ t. omega (arith, once t)) (omega arith))
      (joined room (steps r.id 0 k) (steps p r.id f) (around (node r as' nil nil)) (around (node r as' k nil)) (around (node r as' k f))
      (kids k s.1 (planted k r.id 0) s.4 (λ t. once t) fits') (rest f one_root (planted f p r.id) s.5 (λ t. once t) fits')))
    where
      pos : 0 < r.id
      pos = above_zero r s.0

      new : c r.id ≡ 0
      new = let u = one_here r.id in omega (arith, once r.id)

      child : is_attribute r.kind ≡ false
      child = holder_no_attribute r.kind as' k s.1

      root_kind : p ≡ 0 → r.kind ≡ Element
      root_kind z = go f (one_root z)
        where
          go : (f : Forest) → AtMostOne (node r as' k f) → r.kind ≡ Element
          go nil h = h
          go (node q bs j f) h = absurd h

      unknown : count r.id (around nil) ≡ 0
      unknown = omega (arith, place.counts r.id nil, new)

      small : size (around nil) < room
      small = omega (arith, place.sizes nil)

      element_if : (as' : List Label) (k : Forest) → Holds r.kind as' k → ((as' ≡ []) × (k ≡ nil) → ⊥) → r.kind ≡ Element
      element_if as' k h ne = go r.kind h
        where
          go : (κ : Kind) → Holds κ as' k → κ ≡ Element
          go Element h = refl
          go Attribute h = absurd h
          go Text h = absurd (ne h)

      kids : (k' : Forest) → Holds r.kind as' k'
          → ((around : Forest → Forest) (c : ℕ → ℕ) (n : ℕ) → Place r.id 0 around c n → Shaped k' → (r.id ≡ 0 → AtMostOne k') → ((t : ℕ) → c t + count t k' ≤ 1) → n + size k' ≤ room → Leads room (steps r.id 0 k') (around nil) (around k'))
          → Shaped k' → ((t : ℕ) → c t + (one (eqb r.id t) + (count_labels t as' + (count t k' + count t f))) ≤ 1) → n + (1 + (size_labels as' + (size k' + size f))) ≤ room
          → Leads room (steps r.id 0 k') (around (node r as' nil nil)) (around (node r as' k' nil))
      kids nil h ih q o z = refl
      kids (node x bs j g) h ih q o z =
          ih (λ w. around (node r as' w nil)) (λ t. c t + (one (eqb r.id t) + count_labels t as')) (n + (1 + size_labels as'))
          (below p l around c n place r as' pos new (element_if as' (node x bs j g) h (λ e. let y : size (node x bs j g) ≡ 0 = ap size e.1 in omega arith))) q (λ e. absurd (let b = pos in omega arith)) (λ t. omega (arith, o t)) (omega arith)

      rest : (f' : Forest) → (p ≡ 0 → AtMostOne (node r as' k f'))
          → ((around : Forest → Forest) (c : ℕ → ℕ) (n : ℕ) → Place p r.id around c n → Shaped f' → (p ≡ 0 → AtMostOne f') → ((t : ℕ) → c t + count t f' ≤ 1) → n + size f' ≤ room → Leads room (steps p r.id f') (around nil) (around f'))
          → Shaped f' → ((t : ℕ) → c t + (one (eqb r.id t) + (count_labels t as' + (count t k + count t f'))) ≤ 1) → n + (1 + (size_labels as' + (size k + size f'))) ≤ room
          → Leads room (steps p r.id f') (around (node r as' k nil)) (around (node r as' k f'))
      rest nil h ih q o z = refl
      rest (node x bs j g) h ih q o z =
          ih (λ w. around (node r as' k w)) (λ t. c t + (one (eqb r.id t) + (count_labels t as' + count t k))) (n + (1 + (size_labels as' + size k)))
          (behind p l around c n place r as' pos new k (λ e. h e) child (let u = one_here r.id in omega (arith, o r.id))) q (λ e. absurd (h e)) (λ t. omega (arith, o t)) (omega arith)
