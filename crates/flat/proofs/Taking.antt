-- The rows once a row without others in its subtree is gone.
use Rattle.std.proofs.Common.{◌≡◌, ℕ, ◌+◌, ◌-◌, ◌<◌, ◌≤◌, true, ◌⊎◌, List, sym, ap, ◌∙◌, inl, inr, arith}
use Rattle.std.proofs.lemmas.Bool.{cases_lt, cases_order, lt-ltb, le-ltb}
use Rattle.records.specs.declared.nodes.Node.{Node}
use Rattle.store.specs.Says.{is_element}
use Rattle.flat.specs.declared.rows.FlatRow.{FlatRow}
use Rattle.flat.specs.Means.{at, up, Laid, Plain}
use Rattle.flat.specs.Shifts.{Taken}
use Rattle.flat.proofs.Families.{up_before}

module _ (R S : List FlatRow) (n i : ℕ) (l : i < n) (L : Laid R n) (P : Plain R n) (one : (at R i).size ≡ 1) (T : Taken R n i S) where
  -- no row is below the row i
  bare : (k : ℕ) → 0 < k → k < n → up R k ≡ i → ⊥
  bare k a b e = go (cases_lt i k)
    where
      go : (i < k) ⊎ (k ≤ i) → ⊥
      go (inl c) = omega (arith, L.outside i k l (omega arith) b (omega arith))
      go (inr c) = omega (arith, up_before R n L P k a b)

  -- ---- rows before i

  record Low (m : ℕ) : Type 0 where
    node : (at S m).node ≡ (at R m).node
    distance : (at S m).distance ≡ (at R m).distance
    shorter : i < m + (at R m).size → (at S m).size + 1 ≡ (at R m).size
    same : m + (at R m).size ≤ i → (at S m).size ≡ (at R m).size

  low : (m : ℕ) → m < i → Low m
  low m a = go (cases_lt i (m + (at R m).size))
    where
      go : (i < m + (at R m).size) ⊎ (m + (at R m).size ≤ i) → Low m
      go (inl c) =
          let e : at S m ≡ record (at R m) { size = (at R m).size - 1 } = T.low m a ∙ rw (lt-ltb i (m + (at R m).size) c) in
          record {
            node = ap (λ (r : FlatRow). r.node) e;
            distance = ap (λ (r : FlatRow). r.distance) e;
            shorter = λ _. omega (arith, ap (λ (r : FlatRow). r.size) e);
            same = λ x. absurd (omega arith);
          }
      go (inr c) =
          let e : at S m ≡ at R m = T.low m a ∙ rw (le-ltb i (m + (at R m).size) c) in
          record {
            node = ap (λ (r : FlatRow). r.node) e;
            distance = ap (λ (r : FlatRow). r.distance) e;
            shorter = λ x. absurd (omega arith);
            same = λ _. ap (λ (r : FlatRow). r.size) e;
          }

  low_up : (m : ℕ) → m < i → up S m ≡ up R m
  low_up m a = omega (arith, (low m a).distance)

  -- ---- rows from i on, which stood one place higher

  record High (m : ℕ) : Type 0 where
    node : (at S m).node ≡ (at R (m + 1)).node
    size : (at S m).size ≡ (at R (m + 1)).size
    back : (0 < m → 0 < (at S m).distance) × ((at S m).distance ≤ m)
    before : up R (m + 1) < i → up S m ≡ up R (m + 1)
    behind : i < up R (m + 1) → up S m + 1 ≡ up R (m + 1)

  high : (m : ℕ) → i ≤ m → m + 1 < n → High m
  high m a b = go (cases_lt (up R (m + 1)) i)
    where
      w : (0 < (at R (m + 1)).distance) × ((at R (m + 1)).distance ≤ m + 1)
      w = L.backward (m + 1) (omega arith) b

      go : (up R (m + 1) < i) ⊎ (i ≤ up R (m + 1)) → High m
      go (inl c) =
          let e : at S m ≡ record (at R (m + 1)) { distance = (at R (m + 1)).distance - 1 } = T.high m a b ∙ rw (lt-ltb (up R (m + 1)) i c) in
          let d = ap (λ (r : FlatRow). r.distance) e in
          record {
            node = ap (λ (r : FlatRow). r.node) e;
            size = ap (λ (r : FlatRow). r.size) e;
            back = (λ _. omega (arith, w.0, w.1, d), omega (arith, w.1, d));
            before = λ _. omega (arith, w.0, w.1, d);
            behind = λ x. absurd (omega arith);
          }
      go (inr c) =
          let e : at S m ≡ at R (m + 1) = T.high m a b ∙ rw (le-ltb (up R (m + 1)) i c) in
          let d = ap (λ (r : FlatRow). r.distance) e in
          let ne = bare (m + 1) (omega arith) b in
          record {
            node = ap (λ (r : FlatRow). r.node) e;
            size = ap (λ (r : FlatRow). r.size) e;
            back = (λ _. omega (arith, w.0, d), omega (arith, w.0, w.1, d, differ (up R (m + 1)) c ne));
            before = λ x. absurd (omega arith);
            behind = λ x. omega (arith, w.0, w.1, d);
          }
        where
          differ : (u : ℕ) → i ≤ u → (u ≡ i → ⊥) → i < u
          differ u x y = omega arith

  -- a row's parent is not the row i
  sides : (k : ℕ) → 0 < k → k < n → (up R k < i) ⊎ (i < up R k)
  sides k a b = go (cases_order (up R k) i)
    where
      go : (up R k ≡ i) ⊎ ((up R k < i) ⊎ (i < up R k)) → (up R k < i) ⊎ (i < up R k)
      go (inl e) = absurd (bare k a b e)
      go (inr x) = x

  -- the row that stood at k stands where it stood, or one lower
  stands : (k j : ℕ) → k < n → (k < i → j ≡ k) → (i < k → j + 1 ≡ k) → (k ≡ i → ⊥) → (at S j).node ≡ (at R k).node
  stands k j a b c e = go (cases_order k i)
    where
      go : (k ≡ i) ⊎ ((k < i) ⊎ (i < k)) → (at S j).node ≡ (at R k).node
      go (inl x) = absurd (e x)
      go (inr (inl x)) = ap (λ (m : ℕ). (at S m).node) (b x) ∙ (low k x).node
      go (inr (inr x)) =
          let y = c x in
          (high j (omega arith) (omega arith)).node ∙ ap (λ (m : ℕ). (at R m).node) y

  pub taken_node : (k j : ℕ) → k < n → (k < i → j ≡ k) → (i < k → j + 1 ≡ k) → (k ≡ i → ⊥) → (at S j).node ≡ (at R k).node
  taken_node = stands

  parent_stands : (k j : ℕ) → 0 < k → k < n → (up R k < i → j ≡ up R k) → (i < up R k → j + 1 ≡ up R k) → (at S j).node ≡ (at R (up R k)).node
  parent_stands k j a b c d = stands (up R k) j (omega (arith, up_before R n L P k a b)) c d (bare k a b)

  pub taken_laid : Laid S (n - 1)
  taken_laid =
      record {
        backward = λ k a b. backward_by k a b (cases_lt k i);
        parented = λ k a b. parented_by k a b (cases_lt k i);
        sized = λ k a. sized_by k a (cases_lt k i);
        inside = λ a k b c d. inside_by a k b c d (cases_lt a i) (cases_lt k i);
        outside = λ a k b c d e. outside_by a k b c d e (cases_lt a i) (cases_lt k i);
      }
    where
      backward_by : (k : ℕ) → 0 < k → k < n - 1 → (k < i) ⊎ (i ≤ k) → (0 < (at S k).distance) × ((at S k).distance ≤ k)
      backward_by k a b (inl c) =
          let w = L.backward k a (omega arith) in (omega (arith, w.0, (low k c).distance), omega (arith, w.1, (low k c).distance))
      backward_by k a b (inr c) = let w = (high k c (omega arith)).back in (w.0 a, w.1)

      parented_by : (k : ℕ) → 0 < k → k < n - 1 → (k < i) ⊎ (i ≤ k)
          → ((at S (up S k)).node.id ≡ (at S k).node.parent) × (is_element (at S (up S k)).node.kind ≡ true)
      parented_by k a b (inl c) =
          let g : k < n = omega arith in
          let w = L.parented k a g in
          let u = low_up k c in
          let p = parent_stands k (up S k) a g (λ _. u) (λ x. absurd (omega (arith, up_before R n L P k a g))) in
          let o = (low k c).node in (
            ap (λ (x : Node). x.id) p ∙ w.0 ∙ ap (λ (x : Node). x.parent) (sym o),
            ap (λ (x : Node). is_element x.kind) p ∙ w.1,
          )
      parented_by k a b (inr c) =
          let g : k + 1 < n = omega arith in
          let z : 0 < k + 1 = omega arith in
          let w = L.parented (k + 1) z g in
          let q = high k c g in
          let p = parent_stands (k + 1) (up S k) z g q.before q.behind in (
            ap (λ (x : Node). x.id) p ∙ w.0 ∙ ap (λ (x : Node). x.parent) (sym q.node),
            ap (λ (x : Node). is_element x.kind) p ∙ w.1,
          )

      sized_by : (k : ℕ) → k < n - 1 → (k < i) ⊎ (i ≤ k) → (0 < (at S k).size) × (k + (at S k).size ≤ n - 1)
      sized_by k a (inl c) = go (cases_lt i (k + (at R k).size))
        where
          go : (i < k + (at R k).size) ⊎ (k + (at R k).size ≤ i) → (0 < (at S k).size) × (k + (at S k).size ≤ n - 1)
          go (inl x) = let w = L.sized k (omega arith) in let y = (low k c).shorter x in (omega arith, omega arith)
          go (inr x) = let w = L.sized k (omega arith) in let y = (low k c).same x in (omega arith, omega arith)
      sized_by k a (inr c) = let w = L.sized (k + 1) (omega arith) in let y = (high k c (omega arith)).size in (omega arith, omega arith)

      -- how much smaller a row before i is
      less : (a : ℕ) → a < i → ((i < a + (at R a).size) × ((at S a).size + 1 ≡ (at R a).size)) ⊎ ((a + (at R a).size ≤ i) × ((at S a).size ≡ (at R a).size))
      less a c = go (cases_lt i (a + (at R a).size))
        where
          go : (i < a + (at R a).size) ⊎ (a + (at R a).size ≤ i) → ((i < a + (at R a).size) × ((at S a).size + 1 ≡ (at R a).size)) ⊎ ((a + (at R a).size ≤ i) × ((at S a).size ≡ (at R a).size))
          go (inl x) = inl (x, (low a c).shorter x)
          go (inr x) = inr (x, (low a c).same x)

      -- where the parent of a row from i on stands now
      moved : (k : ℕ) → i ≤ k → k + 1 < n → ((up R (k + 1) < i) × (up S k ≡ up R (k + 1))) ⊎ ((i < up R (k + 1)) × (up S k + 1 ≡ up R (k + 1)))
      moved k c g = go (sides (k + 1) (omega arith) g)
        where
          go : (up R (k + 1) < i) ⊎ (i < up R (k + 1)) → ((up R (k + 1) < i) × (up S k ≡ up R (k + 1))) ⊎ ((i < up R (k + 1)) × (up S k + 1 ≡ up R (k + 1)))
          go (inl x) = inl (x, (high k c g).before x)
          go (inr x) = inr (x, (high k c g).behind x)

      inside_by : (a k : ℕ) → a < n - 1 → a < k → k < a + (at S a).size → (a < i) ⊎ (i ≤ a) → (k < i) ⊎ (i ≤ k) → a ≤ up S k
      inside_by a k b c d (inl x) (inl y) = go (less a x)
        where
          go : ((i < a + (at R a).size) × ((at S a).size + 1 ≡ (at R a).size)) ⊎ ((a + (at R a).size ≤ i) × ((at S a).size ≡ (at R a).size)) → a ≤ up S k
          go (inl w) = omega (arith, low_up k y, L.inside a k (omega arith) c (omega (arith, w.1)))
          go (inr w) = omega (arith, low_up k y, L.inside a k (omega arith) c (omega (arith, w.1)))
      inside_by a k b c d (inl x) (inr y) = go (less a x)
        where
          g : k < n - 1
          g = by (less a x) (L.sized a (omega arith)).1
            where
              by : ((i < a + (at R a).size) × ((at S a).size + 1 ≡ (at R a).size)) ⊎ ((a + (at R a).size ≤ i) × ((at S a).size ≡ (at R a).size)) → a + (at R a).size ≤ n → k < n - 1
              by (inl w) z = omega (arith, w.1)
              by (inr w) z = omega (arith, w.1, w.0)

          go : ((i < a + (at R a).size) × ((at S a).size + 1 ≡ (at R a).size)) ⊎ ((a + (at R a).size ≤ i) × ((at S a).size ≡ (at R a).size)) → a ≤ up S k
          go (inr w) = absurd (omega (arith, w.0, w.1))
          go (inl w) = by (moved k y (omega (arith, g))) (L.inside a (k + 1) (omega arith) (omega arith) (omega (arith, w.1)))
            where
              by : ((up R (k + 1) < i) × (up S k ≡ up R (k + 1))) ⊎ ((i < up R (k + 1)) × (up S k + 1 ≡ up R (k + 1))) → a ≤ up R (k + 1) → a ≤ up S k
              by (inl u) v = omega (arith, u.1)
              by (inr u) v = omega (arith, u.0, u.1)
      inside_by a k b c d (inr x) (inl y) = absurd (omega arith)
      inside_by a k b c d (inr x) (inr y) =
          let e = (high a x (omega arith)).size in
          let z = (L.sized (a + 1) (omega arith)).1 in
          by (moved k y (omega arith)) (L.inside (a + 1) (k + 1) (omega arith) (omega arith) (omega arith))
        where
          by : ((up R (k + 1) < i) × (up S k ≡ up R (k + 1))) ⊎ ((i < up R (k + 1)) × (up S k + 1 ≡ up R (k + 1))) → a + 1 ≤ up R (k + 1) → a ≤ up S k
          by (inl u) v = absurd (omega (arith, u.0))
          by (inr u) v = omega (arith, u.1)

      outside_by : (a k : ℕ) → a < n - 1 → a + (at S a).size ≤ k → k < n - 1 → a ≤ up S k → (a < i) ⊎ (i ≤ a) → (k < i) ⊎ (i ≤ k) → a + (at S a).size ≤ up S k
      outside_by a k b c d e (inl x) (inl y) = go (less a x)
        where
          go : ((i < a + (at R a).size) × ((at S a).size + 1 ≡ (at R a).size)) ⊎ ((a + (at R a).size ≤ i) × ((at S a).size ≡ (at R a).size)) → a + (at S a).size ≤ up S k
          go (inl w) = absurd (omega (arith, w.0, w.1))
          go (inr w) = omega (arith, w.1, low_up k y, L.outside a k (omega arith) (omega (arith, w.1)) (omega arith) (omega (arith, low_up k y)))
      outside_by a k b c d e (inl x) (inr y) = go (less a x) (moved k y (omega arith))
        where
          go : ((i < a + (at R a).size) × ((at S a).size + 1 ≡ (at R a).size)) ⊎ ((a + (at R a).size ≤ i) × ((at S a).size ≡ (at R a).size))
              → ((up R (k + 1) < i) × (up S k ≡ up R (k + 1))) ⊎ ((i < up R (k + 1)) × (up S k + 1 ≡ up R (k + 1))) → a + (at S a).size ≤ up S k
          go (inl w) (inl u) = absurd (omega (arith, w.0, w.1, u.0, u.1, L.outside a (k + 1) (omega arith) (omega (arith, w.1)) (omega arith) (omega (arith, u.1))))
          go (inl w) (inr u) = omega (arith, w.1, u.1, L.outside a (k + 1) (omega arith) (omega (arith, w.1)) (omega arith) (omega (arith, u.1)))
          go (inr w) (inl u) = omega (arith, w.1, u.1, L.outside a (k + 1) (omega arith) (omega (arith, w.1)) (omega arith) (omega (arith, u.1)))
          go (inr w) (inr u) = omega (arith, w.0, w.1, u.0, u.1)
      outside_by a k b c d e (inr x) (inl y) = absurd (omega arith)
      outside_by a k b c d e (inr x) (inr y) = go (moved k y (omega arith))
        where
          go : ((up R (k + 1) < i) × (up S k ≡ up R (k + 1))) ⊎ ((i < up R (k + 1)) × (up S k + 1 ≡ up R (k + 1))) → a + (at S a).size ≤ up S k
          go (inl u) = absurd (omega (arith, u.0, u.1))
          go (inr u) =
              let z = (high a x (omega arith)).size in
              omega (arith, u.1, L.outside (a + 1) (k + 1) (omega arith) (omega arith) (omega arith) (omega (arith, u.1)))
