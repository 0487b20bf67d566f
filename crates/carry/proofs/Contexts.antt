-- A place in a document where a row of trees grows: what is done to a node of the row is done inside the place.
use Rattle.std.proofs.Common.{◌≡◌, ℕ, ◌+◌, ◌<◌, ◌≤◌, true, false, eqb, List, [], Some, None, Option, refl, ap, ◌∙◌, arith}
use Rattle.std.proofs.lemmas.Bool.{eq-eqb, ne_eqb, cond-true}
use Rattle.records.specs.declared.nodes.Kind.TheVariants.{Element}
use Rattle.document.specs.Tree.{Label, Forest, nil, node, one, count_labels, count, size_labels, size}
use Rattle.document.specs.Listing.{row}
use Rattle.document.specs.Table.{is_attribute}
use Rattle.document.proofs.Counting.{one_zero}
use Rattle.store.specs.Views.{View, view, view_in, node_view, or_else}
use Rattle.store.specs.Writes.{act, unchanged, with_first, with_behind, put_in}
use Rattle.store.specs.Says.{is_element, is_element_there, is_child_of, fits}
use Rattle.store.proofs.Along.{Still, untouched, absent, absent_label}
use Rattle.store.proofs.Telling.{one_here}

-- the place behind l below p of a document that has c t nodes with an identifier t around the place, and n nodes in all
pub record Place (p l : ℕ) (around : Forest → Forest) (c : ℕ → ℕ) (n : ℕ) : Type 0 where
  pub acts : (t : ℕ) (in_row : List Label → List Label) (at : Label → List Label → Forest → Forest → Forest) → Still t in_row at → c t ≡ 0 → (g : Forest)
      → act t in_row at (around g) ≡ around (act t in_row at g)
  pub seen : (t : ℕ) → c t ≡ 0 → (g : Forest) → 1 ≤ count t g → view (around g) t ≡ view_in t p l g
  pub counts : (t : ℕ) (g : Forest) → count t (around g) ≡ c t + count t g
  pub sizes : (g : Forest) → size (around g) ≡ n + size g
  pub parent : (p ≡ 0 → ⊥) → (g : Forest) → is_element_there (view (around g) p) ≡ true
  pub opens : (r : Label) → is_attribute r.kind ≡ false → (p ≡ 0 → r.kind ≡ Element) → fits (around nil) (row p r) l ≡ true
  pub takes : (r : Label) → is_attribute r.kind ≡ false → put_in (around nil) (row p r) l ≡ around (node r [] nil nil)

-- an empty document
pub top : Place 0 0 (λ g. g) (λ t. 0) 0
top = record {
  acts = λ t in_row at still z g. refl;
  seen = λ t z g h. refl;
  counts = λ t g. omega arith;
  sizes = λ g. omega arith;
  parent = λ n g. absurd (n refl);
  opens = λ r k e. let q : is_element r.kind ≡ true = ap is_element (e refl) in rw q refl;
  takes = λ r k. refl;
}

else_none : (o : Option View) → or_else o None ≡ o
else_none None = refl
else_none (Some v) = refl

module _ (p l : ℕ) (around : Forest → Forest) (c : ℕ → ℕ) (n : ℕ) (place : Place p l around c n) (r : Label) (as' : List Label) (above : 0 < r.id) (new : c r.id ≡ 0) where
  other : (t x : ℕ) → c t + (one (eqb r.id t) + x) ≡ 0 → eqb r.id t ≡ false
  other t x z = one_zero (eqb r.id t) (omega arith)

  -- what is seen of the node itself
  pub itself : (k f : Forest) → view (around (node r as' k f)) r.id ≡ Some (node_view p l r as' k f)
  itself k f =
      place.seen r.id new (node r as' k f) (omega (arith, one_here r.id))
      ∙ cond-true _ _ _ (eq-eqb r.id r.id refl)

  -- below the node
  module _ (element : r.kind ≡ Element) where
    pub below : Place r.id 0 (λ g. around (node r as' g nil)) (λ t. c t + (one (eqb r.id t) + count_labels t as')) (n + (1 + size_labels as'))
    below = record {
      acts = λ t in_row at still z g.
          let e = other t (count_labels t as') z in
          place.acts t in_row at still (omega arith) (node r as' g nil) ∙ ap around (rw (e, still as' (omega arith)));
      seen = λ t z g h.
          let e = other t (count_labels t as') z in
          place.seen t (omega arith) (node r as' g nil) (omega arith) ∙ rw (e, absent_label t r.id as' (omega arith)) (else_none (view_in t r.id 0 g));
      counts = λ t g. omega (arith, place.counts t (node r as' g nil));
      sizes = λ g. omega (arith, place.sizes (node r as' g nil));
      parent = λ nz g. ap is_element_there (itself g nil) ∙ ap is_element element;
      opens = λ s k e.
          let h : is_element_there (view (around (node r as' nil nil)) r.id) ≡ true = ap is_element_there (itself nil nil) ∙ ap is_element element in
          rw (ne_eqb r.id 0 (λ z. omega arith), h) refl;
      takes = λ s k.
          rw (ne_eqb r.id 0 (λ z. omega arith), k)
          (place.acts r.id unchanged (with_first s) (λ as' z. refl) new (node r as' nil nil) ∙ ap around (rw (eq-eqb r.id r.id refl)));
    }

  -- behind the node and all below it
  module _ (k : Forest) (inner : p ≡ 0 → ⊥) (child : is_attribute r.kind ≡ false) (once : count r.id k ≡ 0) where
    is_behind : (o : Option View) (f : Forest) → o ≡ Some (node_view p l r as' k f) → is_child_of p o ≡ true
    is_behind o f e = ap (is_child_of p) e ∙ rw (eq-eqb p p refl, child)

    pub behind : Place p r.id (λ g. around (node r as' k g)) (λ t. c t + (one (eqb r.id t) + (count_labels t as' + count t k))) (n + (1 + (size_labels as' + size k)))
    behind = record {
      acts = λ t in_row at still z g.
          let e = other t (count_labels t as' + count t k) z in
          place.acts t in_row at still (omega arith) (node r as' k g) ∙ ap around (rw (e, still as' (omega arith), untouched t in_row at still k (omega arith)));
      seen = λ t z g h.
          let e = other t (count_labels t as' + count t k) z in
          place.seen t (omega arith) (node r as' k g) (omega arith) ∙ rw (e, absent_label t r.id as' (omega arith), absent t r.id 0 k (omega arith));
      counts = λ t g. omega (arith, place.counts t (node r as' k g));
      sizes = λ g. omega (arith, place.sizes (node r as' k g));
      parent = λ nz g. place.parent inner (node r as' k g);
      opens = λ s q e.
          rw (ne_eqb p 0 inner, place.parent inner (node r as' k nil), ne_eqb r.id 0 (λ z. omega arith), q)
          (is_behind (view (around (node r as' k nil)) r.id) nil (itself k nil));
      takes = λ s q.
          rw (ne_eqb p 0 inner, q, ne_eqb r.id 0 (λ z. omega arith))
          (place.acts r.id unchanged (with_behind s) (λ as' z. refl) new (node r as' k nil)
          ∙ ap around (rw (eq-eqb r.id r.id refl, untouched r.id unchanged (with_behind s) (λ as' z. refl) k once)));
    }
