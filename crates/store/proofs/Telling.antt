-- What is seen of its nodes tells a document.
use Rattle.std.proofs.Common.{◌≡◌, ℕ, ◌+◌, ◌≤◌, Bool, true, false, eqb, List, [], ◌∷◌, Some, None, Option, sym, refl, ap, ◌∙◌, subst, arith}
use Rattle.std.proofs.lemmas.Bool.{eq-eqb, cond-true, cond-false}
use Rattle.document.specs.Tree.{Label, Forest, nil, node, one, count_labels, count, Attributes}
use Rattle.document.specs.Listing.{label}
use Rattle.store.specs.Kept.{Shaped}
use Rattle.store.specs.Views.{View, view, view_in, view_attribute, node_view, attribute_view, first_of, first_label, or_else}
use Rattle.store.specs.Statements.{ViewsTellTheDocument}
use Rattle.store.proofs.Along.{absent, absent_label, unseen, unseen_label}
use Rattle.store.proofs.Shapes.{above_zero}

pub one_here : (n : ℕ) → one (eqb n n) ≡ 1
one_here n = ap one (eq-eqb n n refl)

-- where an identifier stands elsewhere, it is not this one
pub elsewhere : (n t x : ℕ) → one (eqb n t) + x ≤ 1 → 1 ≤ x → eqb n t ≡ false
elsewhere n t x h l = go (eqb n t) refl
  where
    go : (b : Bool) → eqb n t ≡ b → eqb n t ≡ false
    go false e = e
    go true e = absurd (omega (arith, ap one e))

-- what is seen in the first of two places
seen_first : (o q : Option View) (n : ℕ) → (o ≡ None → n ≡ 0) → 1 ≤ n → or_else o q ≡ o
seen_first None q n z h = absurd (omega (arith, z refl))
seen_first (Some v) q n z h = refl

-- v shows each node of a row of trees as it stands there
module _ (v : ℕ → Option View) where
  abbrev pub SeenLabels : ℕ → List Label → Type 0
  SeenLabels p [] = Unit {0}
  SeenLabels p (r ∷ l) = (v r.id ≡ Some (attribute_view p r l)) × SeenLabels p l

  abbrev pub Seen : ℕ → ℕ → Forest → Type 0
  Seen p l nil = Unit {0}
  Seen p l (node r as' k f) = (v r.id ≡ Some (node_view p l r as' k f)) × SeenLabels r.id as' × Seen r.id 0 k × Seen p r.id f

  labels_seen : (p : ℕ) (as' : List Label) → ((t : ℕ) → count_labels t as' ≤ 1) → ((t : ℕ) → 1 ≤ count_labels t as' → v t ≡ view_attribute t p as') → SeenLabels p as'
  labels_seen p [] u h = tt
  labels_seen p (r ∷ l) u h =
      let e : v r.id ≡ Some (attribute_view p r l) = h r.id (omega (arith, one_here r.id)) ∙ cond-true (eqb r.id r.id) _ _ (eq-eqb r.id r.id refl) in
      let ih : ((t : ℕ) → 1 ≤ count_labels t l → v t ≡ view_attribute t p l) = λ t g. h t (omega arith) ∙ cond-false (eqb r.id t) _ _ (elsewhere r.id t (count_labels t l) (u t) g) in
      (e, labels_seen p l (λ t. omega (arith, u t)) ih)

  pub seen : (p l : ℕ) (f : Forest) → ((t : ℕ) → count t f ≤ 1) → ((t : ℕ) → 1 ≤ count t f → v t ≡ view_in t p l f) → Seen p l f
  seen p l nil u h = tt
  seen p l (node r as' k f) u h =
      let e : v r.id ≡ Some (node_view p l r as' k f) = h r.id (omega (arith, one_here r.id)) ∙ cond-true (eqb r.id r.id) _ _ (eq-eqb r.id r.id refl) in
      let other : ((t : ℕ) → 1 ≤ count_labels t as' + (count t k + count t f) → v t ≡ or_else (view_attribute t r.id as') (or_else (view_in t r.id 0 k) (view_in t p r.id f)))
      = λ t g. h t (omega arith) ∙ cond-false (eqb r.id t) _ _ (elsewhere r.id t _ (u t) g) in
      let a : ((t : ℕ) → 1 ≤ count_labels t as' → v t ≡ view_attribute t r.id as') = λ t g. other t (omega arith) ∙ seen_first (view_attribute t r.id as') _ (count_labels t as') (unseen_label t r.id as') g in
      let b : ((t : ℕ) → 1 ≤ count t k → v t ≡ view_in t r.id 0 k)
      = λ t g. other t (omega arith) ∙ ap (λ o. or_else o (or_else (view_in t r.id 0 k) (view_in t p r.id f))) (absent_label t r.id as' (omega (arith, u t))) ∙ seen_first (view_in t r.id 0 k) _ (count t k) (unseen t r.id 0 k) g in
      let c : ((t : ℕ) → 1 ≤ count t f → v t ≡ view_in t p r.id f)
      = λ t g. other t (omega arith) ∙ ap (λ o. or_else o (or_else (view_in t r.id 0 k) (view_in t p r.id f))) (absent_label t r.id as' (omega (arith, u t)))
      ∙ ap (λ o. or_else o (view_in t p r.id f)) (absent t r.id 0 k (omega (arith, u t))) in
      (e, labels_seen r.id as' (λ t. omega (arith, u t)) a, seen r.id 0 k (λ t. omega (arith, u t)) b, seen p r.id f (λ t. omega (arith, u t)) c)

  same_label : (i : ℕ) (x y : View) → v i ≡ Some x → (j : ℕ) → i ≡ j → v j ≡ Some y → x ≡ y
  same_label i x y a j e b = let c : v i ≡ v j = ap v e in cc

  labels_told : (p : ℕ) (as' bs : List Label) → Attributes as' → Attributes bs → first_label as' ≡ first_label bs → SeenLabels p as' → SeenLabels p bs → as' ≡ bs
  labels_told p [] [] s t e a b = refl
  labels_told p [] (y ∷ m) s t e a b = absurd (omega (arith, above_zero y t.1))
  labels_told p (x ∷ l) [] s t e a b = absurd (omega (arith, above_zero x s.1))
  labels_told p (x ∷ l) (y ∷ m) s t e a b =
      let q : attribute_view p x l ≡ attribute_view p y m = same_label x.id _ _ a.0 y.id e b.0 in
      let h : x ≡ y = ap (λ (w : View). label w.row) q in
      let i : l ≡ m = labels_told p l m s.2 t.2 (ap (λ (w : View). w.next_attribute) q) a.1 b.1 in
      cc

  told : (p l : ℕ) (d e : Forest) → Shaped d → Shaped e → first_of d ≡ first_of e → Seen p l d → Seen p l e → d ≡ e
  told p l nil nil s t e a b = refl
  told p l nil (node y bs j g) s t e a b = absurd (omega (arith, above_zero y t.0))
  told p l (node x as' k f) nil s t e a b = absurd (omega (arith, above_zero x s.0))
  told p l (node x as' k f) (node y bs j g) s t e a b =
      let q : node_view p l x as' k f ≡ node_view p l y bs j g = same_label x.id _ _ a.0 y.id e b.0 in
      let h : x ≡ y = ap (λ (w : View). label w.row) q in
      let h1 : as' ≡ bs = labels_told x.id as' bs s.2 t.2 (ap (λ (w : View). w.first_attribute) q) a.1 (subst (λ (m : ℕ). SeenLabels m bs) (sym e) b.1) in
      let h2 : k ≡ j = told x.id 0 k j s.4 t.4 (ap (λ (w : View). w.first_child) q) a.2 (subst (λ (m : ℕ). Seen m 0 j) (sym e) b.2) in
      let h3 : f ≡ g = told p x.id f g s.5 t.5 (ap (λ (w : View). w.next_sibling) q) a.3 (subst (λ (m : ℕ). Seen p m g) (sym e) b.3) in
      cc

pub views_tell_the_document : ViewsTellTheDocument
views_tell_the_document d e a b r h =
    told (view d) 0 0 d e a.shaped b.shaped r (seen (view d) 0 0 d a.distinct (λ t g. refl)) (seen (view d) 0 0 e b.distinct (λ t g. h t))
