-- Behind attributes, and behind a sibling, there is a gap for a new row.
use Rattle.std.proofs.Common.{◌≡◌, ℕ, ◌+◌, ◌-◌, ◌<◌, ◌≤◌, true, eqb, ◌⊎◌, List, Option, ap, ◌∙◌, inl, inr, arith}
use Rattle.std.proofs.lemmas.Bool.{cases_lt, cases_eq, cases_order, eqb-true, and_parts}
use Rattle.document.specs.Table.{is_attribute}
use Rattle.store.specs.Listed.{attribute_row}
use Rattle.flat.specs.declared.rows.FlatRow.{FlatRow}
use Rattle.flat.specs.Means.{at, up, Laid, Plain}
use Rattle.flat.specs.Walks.{up_to, Behind}
use Rattle.flat.specs.Shifts.{Gap}
use Rattle.flat.proofs.Families.{up_before, up_is, within_parent, attribute_bare}
use Rattle.flat.proofs.Planting.{nested}

module _ (R : List FlatRow) (n : ℕ) (L : Laid R n) (P : Plain R n) where
  -- an attribute is alone in its subtree
  attribute_alone : (m : ℕ) → m < n → is_attribute (at R m).node.kind ≡ true → (at R m).size ≡ 1
  attribute_alone m b a = go (cases_lt (at R m).size 2) (L.sized m b)
    where
      go : ((at R m).size < 2) ⊎ (2 ≤ (at R m).size) → (0 < (at R m).size) × (m + (at R m).size ≤ n) → (at R m).size ≡ 1
      go (inl x) w = omega (arith, w.0)
      go (inr x) w =
          let g : m + 1 < n = omega (arith, w.1) in
          let u : up R (m + 1) ≡ m = omega (arith, up_before R n L P (m + 1) (omega arith) g, L.inside m (m + 1) b (omega arith) (omega arith)) in
          absurd (attribute_bare R n L P (m + 1) (omega arith) g (ap (λ (j : ℕ). is_attribute (at R j).node.kind) u ∙ a))

  pub attributes_gap : (i r : ℕ) (b : Option ℕ) → i < n → Behind R n i (at R i).node.id b r → Gap R n i r
  attributes_gap i r b l w =
      record {
        parent = l;
        after = w.after;
        within = ends (cases_eq r (i + 1));
        clear = λ m c d. let g : m < n = omega (arith, w.within) in omega (arith, attribute_alone m g (attribute m c d).1);
      }
    where
      attribute : (m : ℕ) → i < m → m < r → ((at R m).node.parent ≡ (at R i).node.id) × (is_attribute (at R m).node.kind ≡ true)
      attribute m c d =
          let p = (and_parts (attribute_row (at R i).node.id (at R m).node) (up_to b (at R m).node.id) (w.run m c d)).0 in
          let q = and_parts (eqb (at R m).node.parent (at R i).node.id) (is_attribute (at R m).node.kind) p in
          (eqb-true (at R m).node.parent (at R i).node.id q.0, q.1)

      ends : (r ≡ i + 1) ⊎ (r ≡ i + 1 → ⊥) → r ≤ i + (at R i).size
      ends (inl e) = omega (arith, (L.sized i l).0)
      ends (inr e) =
          let c : i < r - 1 = omega (arith, w.after) in
          let g : r - 1 < n = omega (arith, w.within) in
          let u = up_is R n L P i (r - 1) l (omega arith) g (attribute (r - 1) c (omega arith)).0 in
          let v : up R (r - 1) + (at R (up R (r - 1))).size ≡ i + (at R i).size = ap (λ (j : ℕ). j + (at R j).size) u in
          omega (arith, within_parent R n L P (r - 1) (omega arith) g)

  pub sibling_gap : (q l : ℕ) → 0 < l → l < n → up R l ≡ q → Gap R n q (l + (at R l).size)
  sibling_gap q l z b e =
      record {
        parent = omega (arith, before);
        after = omega (arith, before);
        within = nested R n L P q l b (omega (arith, before)) inn;
        clear = λ m c d. clear m c d (cases_order m l);
      }
    where
      before : up R l < l
      before = up_before R n L P l z b

      inn : l < q + (at R q).size
      inn = let v : up R l + (at R (up R l)).size ≡ q + (at R q).size = ap (λ (j : ℕ). j + (at R j).size) e in omega (arith, within_parent R n L P l z b)

      clear : (m : ℕ) → q < m → m < l + (at R l).size → (m ≡ l) ⊎ ((m < l) ⊎ (l < m)) → m + (at R m).size ≤ l + (at R l).size
      clear m c d (inl x) = let v : m + (at R m).size ≡ l + (at R l).size = ap (λ (j : ℕ). j + (at R j).size) x in omega arith
      clear m c d (inr (inr x)) = nested R n L P l m (omega (arith, (L.sized l b).1)) (omega arith) d
      clear m c d (inr (inl x)) = go (cases_lt l (m + (at R m).size))
        where
          go : (l < m + (at R m).size) ⊎ (m + (at R m).size ≤ l) → m + (at R m).size ≤ l + (at R l).size
          go (inl y) = absurd (omega (arith, L.inside m l (omega arith) x y))
          go (inr y) = omega arith
