-- Rows of one parent.
use Rattle.std.proofs.Common.{◌≡◌, ℕ, zero, suc, ◌+◌, ◌<◌, ◌≤◌, true, ◌⊎◌, List, sym, ◌∙◌, inl, inr, arith}
use Rattle.std.proofs.lemmas.Bool.{cases_lt, cases_order}
use Rattle.records.specs.declared.nodes.Kind.{Kind}
use Rattle.records.specs.declared.nodes.Kind.TheVariants.{Element, Attribute, Text}
use Rattle.document.specs.Table.{is_attribute}
use Rattle.store.specs.Says.{is_element}
use Rattle.flat.specs.declared.rows.FlatRow.{FlatRow}
use Rattle.flat.specs.Means.{at, up, Of, Laid, Plain}

element_no_attribute : (c : Kind) → is_element c ≡ true → is_attribute c ≡ true → ⊥
element_no_attribute Element e a = cc
element_no_attribute Attribute e a = cc
element_no_attribute Text e a = cc

module _ (R : List FlatRow) (n : ℕ) (L : Laid R n) (P : Plain R n) where
  -- a row's parent comes before it
  pub up_before : (k : ℕ) → 0 < k → k < n → up R k < k
  up_before k a b = let c = L.backward k a b in omega arith

  pub up_is : (i k : ℕ) → i < n → 0 < k → k < n → (at R k).node.parent ≡ (at R i).node.id → up R k ≡ i
  up_is i k l a b e = let c = up_before k a b in P.once (up R k) i (omega arith) l ((L.parented k a b).0 ∙ e)

  pub parent_above : (k : ℕ) → 0 < k → k < n → 0 < (at R k).node.parent
  parent_above k a b = let c = up_before k a b in omega (arith, P.above (up R k) (omega arith), (L.parented k a b).0)

  -- no row outside a subtree is below its root
  pub outside_child : (i k : ℕ) → i < n → k < n → (k ≤ i) ⊎ (i + (at R i).size ≤ k) → (at R k).node.parent ≡ (at R i).node.id → ⊥
  outside_child i zero l b o e = omega (arith, (P.root b).0, P.above i l)
  outside_child i (suc k) l b (inl o) e = let u = up_is i (suc k) l (omega arith) b e in omega (arith, up_before (suc k) (omega arith) b)
  outside_child i (suc k) l b (inr o) e =
      let u = up_is i (suc k) l (omega arith) b e in omega (arith, L.outside i (suc k) l o b (omega arith), (L.sized i l).0)

  -- no row within a subtree is a sibling of its root
  pub inside_other : (i k : ℕ) → 0 < i → i < n → i < k → k < i + (at R i).size → (at R k).node.parent ≡ (at R i).node.parent → ⊥
  inside_other i k a l o h e =
      let b : k < n = omega (arith, (L.sized i l).1) in
      let q = up_before i a l in
      let u = up_is (up R i) k (omega arith) (omega arith) b (e ∙ sym (L.parented i a l).0) in
      omega (arith, L.inside i k l o h)

  -- a row stands in its parent's subtree
  pub within_parent : (k : ℕ) → 0 < k → k < n → k < up R k + (at R (up R k)).size
  within_parent k a b = go (cases_lt k (up R k + (at R (up R k)).size))
    where
      q : up R k < n
      q = let c = up_before k a b in omega arith

      go : (k < up R k + (at R (up R k)).size) ⊎ (up R k + (at R (up R k)).size ≤ k) → k < up R k + (at R (up R k)).size
      go (inl h) = h
      go (inr h) = absurd (omega (arith, L.outside (up R k) k q h b (omega arith), (L.sized (up R k) q).0))

  -- what stands behind a row's subtree, within its parent's, is its next sibling
  pub sibling_up : (i : ℕ) → 0 < i → i < n → i + (at R i).size < n → i + (at R i).size < up R i + (at R (up R i)).size → up R (i + (at R i).size) ≡ up R i
  sibling_up i a l h g = go (cases_order (up R m) (up R i))
    where
      m : ℕ
      m = i + (at R i).size

      q : up R m < m
      q = up_before m (omega arith) h

      q' : up R i < i
      q' = up_before i a l

      low : up R i ≤ up R m
      low = L.inside (up R i) m (omega arith) (omega (arith, (L.sized i l).0)) g

      before : up R m < i
      before = before_by (cases_lt (up R m) i)
        where
          before_by : (up R m < i) ⊎ (i ≤ up R m) → up R m < i
          before_by (inl x) = x
          before_by (inr x) = absurd (omega (arith, L.outside i m l (omega arith) h x))

      go : (up R m ≡ up R i) ⊎ ((up R m < up R i) ⊎ (up R i < up R m)) → up R m ≡ up R i
      go (inl e) = e
      go (inr (inl x)) = absurd (omega (arith, low))
      go (inr (inr x)) = absurd (omega (arith, L.inside (up R m) i (omega arith) before (omega (arith, within_parent m (omega arith) h))))

  -- between an element and an attribute of it all rows are attributes of it
  pub attribute_run : (q j m : ℕ) → q < j → j + m < n → (at R (j + m)).node.parent ≡ (at R q).node.id → is_attribute (at R (j + m)).node.kind ≡ true
      → ((at R j).node.parent ≡ (at R q).node.id) × (is_attribute (at R j).node.kind ≡ true)
  attribute_run q j zero l h e a = let z : j + 0 ≡ j = omega arith in (rw z at e, rw z at a)
  attribute_run q j (suc m) l h e a = go (P.next (j + m) (omega arith) (rw z at a)) (attribute_run q j m l (omega arith))
    where
      z : j + suc m ≡ j + m + 1
      z = omega arith

      go : Of (at R (j + m + 1)).node.parent (at R (j + m)).node
          → ((at R (j + m)).node.parent ≡ (at R q).node.id → is_attribute (at R (j + m)).node.kind ≡ true → ((at R j).node.parent ≡ (at R q).node.id) × (is_attribute (at R j).node.kind ≡ true))
          → ((at R j).node.parent ≡ (at R q).node.id) × (is_attribute (at R j).node.kind ≡ true)
      go (inl x) ih = absurd (omega (arith, P.once (j + m) q (omega arith) (omega arith) (x ∙ (rw z at e))))
      go (inr x) ih = ih (x.1 ∙ (rw z at e)) x.0

  -- nothing is below an attribute
  pub attribute_bare : (k : ℕ) → 0 < k → k < n → is_attribute (at R (up R k)).node.kind ≡ true → ⊥
  attribute_bare k a b h = element_no_attribute (at R (up R k)).node.kind (L.parented k a b).1 h
