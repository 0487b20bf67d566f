-- The rows once a row has come to a place below another.
use Rattle.std.proofs.Common.{◌≡◌, ℕ, ◌+◌, ◌-◌, ◌<◌, ◌≤◌, true, false, leb, ◌⊎◌, List, sym, ap, ◌∙◌, inl, inr, arith}
use Rattle.std.proofs.lemmas.Bool.{cases_lt, cases_order, lt-ltb, le-ltb}
use Rattle.std.proofs.lemmas.Bool.Decides.{nat_tests}
use Rattle.records.specs.declared.nodes.Node.{Node}
use Rattle.store.specs.Says.{is_element}
use Rattle.flat.specs.declared.rows.FlatRow.{FlatRow}
use Rattle.flat.specs.Means.{at, up, Laid, Plain}
use Rattle.flat.specs.Shifts.{lifted, Planted, Gap}
use Rattle.flat.proofs.Families.{up_before}

leb_true : (a b : ℕ) → a ≤ b → leb a b ≡ true
leb_true a b h = grind (arith, nat_tests)

leb_false : (a b : ℕ) → b < a → leb a b ≡ false
leb_false a b h = grind (arith, nat_tests)

-- the subtree of a row that a row counts ends no later
pub nested : (R : List FlatRow) (n : ℕ) (L : Laid R n) (P : Plain R n) (a q : ℕ) → q < n → a ≤ q → q < a + (at R a).size → q + (at R q).size ≤ a + (at R a).size
nested R n L P a q b c d = go (cases_lt (a + (at R a).size) (q + (at R q).size))
  where
    e : ℕ
    e = a + (at R a).size

    go : (e < q + (at R q).size) ⊎ (q + (at R q).size ≤ e) → q + (at R q).size ≤ e
    go (inr x) = x
    go (inl x) =
        let g : e < n = omega (arith, (L.sized q b).1) in
        absurd (omega (arith, up_before R n L P e (omega arith) g, L.outside a e (omega arith) (omega arith) g (omega (arith, L.inside q e b d x))))

module _ (R S : List FlatRow) (n q i : ℕ) (x : Node) (L : Laid R n) (P : Plain R n) (G : Gap R n q i)
    (below : (at R q).node.id ≡ x.parent) (element : is_element (at R q).node.kind ≡ true) (T : Planted R n i q x S) where
  behind_all : i ≤ n
  behind_all = omega (arith, G.within, (L.sized q G.parent).1)

  -- ---- rows before the place

  -- a row that counts q is larger; any other ends before the place, and before q unless it stands behind q
  abbrev Larger : ℕ → Type 0
  Larger m = (m ≤ q) × (q < m + (at R m).size) × ((at S m).size ≡ (at R m).size + 1)

  abbrev Ended : ℕ → Type 0
  Ended m = (m + (at R m).size ≤ i) × (m ≤ q → m + (at R m).size ≤ q) × ((at S m).size ≡ (at R m).size)

  record Low (m : ℕ) : Type 0 where
    node : (at S m).node ≡ (at R m).node
    distance : (at S m).distance ≡ (at R m).distance
    size : Larger m ⊎ Ended m

  low : (m : ℕ) → m < i → Low m
  low m a = go (cases_lt q m) (cases_lt q (m + (at R m).size))
    where
      still : at S m ≡ at R m → Ended m → Low m
      still e w = record { node = ap (λ (r : FlatRow). r.node) e; distance = ap (λ (r : FlatRow). r.distance) e; size = inr w }

      go : (q < m) ⊎ (m ≤ q) → (q < m + (at R m).size) ⊎ (m + (at R m).size ≤ q) → Low m
      go (inl c) _ =
          let e : at S m ≡ at R m = T.low m a ∙ rw (leb_false m q c) in
          still e (G.clear m c a, (λ y. absurd (omega arith)), ap (λ (r : FlatRow). r.size) e)
      go (inr c) (inl d) =
          let e : at S m ≡ record (at R m) { size = (at R m).size + 1 } = T.low m a ∙ rw (leb_true m q c, lt-ltb q (m + (at R m).size) d) in
          record { node = ap (λ (r : FlatRow). r.node) e; distance = ap (λ (r : FlatRow). r.distance) e; size = inl (c, d, ap (λ (r : FlatRow). r.size) e) }
      go (inr c) (inr d) =
          let e : at S m ≡ at R m = T.low m a ∙ rw (leb_true m q c, le-ltb q (m + (at R m).size) d) in
          still e (omega (arith, G.after), (λ y. d), ap (λ (r : FlatRow). r.size) e)

  low_up : (m : ℕ) → m < i → up S m ≡ up R m
  low_up m a = omega (arith, (low m a).distance)

  -- a row that counts q ends no sooner than the place
  far : (m : ℕ) → m ≤ q → q < m + (at R m).size → i ≤ m + (at R m).size
  far m a b = omega (arith, G.within, nested R n L P m q G.parent a b)

  -- ---- the row at the place

  here_node : (at S i).node ≡ x
  here_node = ap (λ (r : FlatRow). r.node) T.here

  here_size : (at S i).size ≡ 1
  here_size = ap (λ (r : FlatRow). r.size) T.here

  here_distance : (at S i).distance ≡ i - q
  here_distance = ap (λ (r : FlatRow). r.distance) T.here

  here_up : up S i ≡ q
  here_up = omega (arith, here_distance, G.after)

  -- ---- rows behind the place, which stood one place lower

  abbrev Moved : ℕ → Type 0
  Moved k = ((up R (k - 1) < i) × (up S k ≡ up R (k - 1))) ⊎ ((i ≤ up R (k - 1)) × (up S k ≡ up R (k - 1) + 1))

  record High (k : ℕ) : Type 0 where
    node : (at S k).node ≡ (at R (k - 1)).node
    size : (at S k).size ≡ (at R (k - 1)).size
    back : (0 < (at S k).distance) × ((at S k).distance ≤ k)
    moved : Moved k

  high : (k : ℕ) → i < k → k < n + 1 → High k
  high k a b = go (cases_lt (up R j) i)
    where
      j : ℕ
      j = k - 1

      z : j + 1 ≡ k
      z = omega arith

      w : (0 < (at R j).distance) × ((at R j).distance ≤ j)
      w = L.backward j (omega (arith, G.after)) (omega arith)

      moves : at S k ≡ lifted i j (at R j)
      moves = ap (at S) (sym z) ∙ T.high j (omega arith) (omega arith)

      go : (up R j < i) ⊎ (i ≤ up R j) → High k
      go (inl c) =
          let e : at S k ≡ record (at R j) { distance = (at R j).distance + 1 } = moves ∙ rw (lt-ltb (up R j) i c) in
          let d = ap (λ (r : FlatRow). r.distance) e in
          record {
            node = ap (λ (r : FlatRow). r.node) e;
            size = ap (λ (r : FlatRow). r.size) e;
            back = (omega (arith, d), omega (arith, d, w.1, z));
            moved = inl (c, omega (arith, d, w.1, z));
          }
      go (inr c) =
          let e : at S k ≡ at R j = moves ∙ rw (le-ltb (up R j) i c) in
          let d = ap (λ (r : FlatRow). r.distance) e in
          record {
            node = ap (λ (r : FlatRow). r.node) e;
            size = ap (λ (r : FlatRow). r.size) e;
            back = (omega (arith, d, w.0), omega (arith, d, w.1, z));
            moved = inr (c, omega (arith, d, w.1, z));
          }

  -- the row that stood at k stands where it stood, or one higher
  pub planted_node : (k j : ℕ) → k < n → (k < i → j ≡ k) → (i ≤ k → j ≡ k + 1) → (at S j).node ≡ (at R k).node
  planted_node k j a b c = go (cases_lt k i)
    where
      go : (k < i) ⊎ (i ≤ k) → (at S j).node ≡ (at R k).node
      go (inl y) = ap (λ (m : ℕ). (at S m).node) (b y) ∙ (low k y).node
      go (inr y) =
          let z = c y in
          let e : j - 1 ≡ k = omega arith in
          (high j (omega arith) (omega arith)).node ∙ ap (λ (m : ℕ). (at R m).node) e

  backward_by : (k : ℕ) → 0 < k → k < n + 1 → (k ≡ i) ⊎ ((k < i) ⊎ (i < k)) → (0 < (at S k).distance) × ((at S k).distance ≤ k)
  backward_by k a b (inl c) =
      let d : (at S k).distance ≡ i - q = ap (λ (m : ℕ). (at S m).distance) c ∙ here_distance in (omega (arith, G.after), omega (arith, G.after))
  backward_by k a b (inr (inl c)) =
      let w = L.backward k a (omega (arith, behind_all)) in (omega (arith, (low k c).distance), omega (arith, (low k c).distance))
  backward_by k a b (inr (inr c)) = (high k c b).back

  parented_by : (k : ℕ) → 0 < k → k < n + 1 → (k ≡ i) ⊎ ((k < i) ⊎ (i < k))
      → ((at S (up S k)).node.id ≡ (at S k).node.parent) × (is_element (at S (up S k)).node.kind ≡ true)
  parented_by k a b (inl c) = rw c (by)
    where
      stays : (at S (up S i)).node ≡ (at R q).node
      stays = planted_node q (up S i) G.parent (λ _. here_up) (λ y. absurd (omega (arith, G.after)))

      by : ((at S (up S i)).node.id ≡ (at S i).node.parent) × (is_element (at S (up S i)).node.kind ≡ true)
      by = (
        ap (λ (y : Node). y.id) stays ∙ below ∙ sym (ap (λ (y : Node). y.parent) here_node),
        ap (λ (y : Node). is_element y.kind) stays ∙ element,
      )
  parented_by k a b (inr (inl c)) =
      let g : k < n = omega (arith, behind_all) in
      let w = L.parented k a g in
      let u = up_before R n L P k a g in
      let p = planted_node (up R k) (up S k) (omega arith) (λ _. low_up k c) (λ y. absurd (omega arith)) in (
        ap (λ (y : Node). y.id) p ∙ w.0 ∙ ap (λ (y : Node). y.parent) (sym (low k c).node),
        ap (λ (y : Node). is_element y.kind) p ∙ w.1,
      )
  parented_by k a b (inr (inr c)) = go h.moved
    where
      h : High k
      h = high k c b

      z : 0 < k - 1
      z = omega (arith, G.after)

      g : k - 1 < n
      g = omega arith

      from : (at S (up S k)).node ≡ (at R (up R (k - 1))).node → ((at S (up S k)).node.id ≡ (at S k).node.parent) × (is_element (at S (up S k)).node.kind ≡ true)
      from p = (
        ap (λ (y : Node). y.id) p ∙ (L.parented (k - 1) z g).0 ∙ ap (λ (y : Node). y.parent) (sym h.node),
        ap (λ (y : Node). is_element y.kind) p ∙ (L.parented (k - 1) z g).1,
      )

      inn : up R (k - 1) < n
      inn = omega (arith, up_before R n L P (k - 1) z g)

      go : Moved k → ((at S (up S k)).node.id ≡ (at S k).node.parent) × (is_element (at S (up S k)).node.kind ≡ true)
      go (inl m) = from (planted_node (up R (k - 1)) (up S k) inn (λ _. m.1) (λ y. absurd (omega (arith, m.0))))
      go (inr m) = from (planted_node (up R (k - 1)) (up S k) inn (λ y. absurd (omega (arith, m.0))) (λ _. m.1))

  sized_by : (k : ℕ) → k < n + 1 → (k ≡ i) ⊎ ((k < i) ⊎ (i < k)) → (0 < (at S k).size) × (k + (at S k).size ≤ n + 1)
  sized_by k a (inl c) = let d : (at S k).size ≡ 1 = ap (λ (m : ℕ). (at S m).size) c ∙ here_size in (omega arith, omega (arith, behind_all))
  sized_by k a (inr (inl c)) = go (low k c).size (L.sized k (omega (arith, behind_all)))
    where
      go : Larger k ⊎ Ended k → (0 < (at R k).size) × (k + (at R k).size ≤ n) → (0 < (at S k).size) × (k + (at S k).size ≤ n + 1)
      go (inl w) v = (omega (arith, w.2), omega (arith, w.2, v.1))
      go (inr w) v = (omega (arith, w.2, v.0), omega (arith, w.2, v.1))
  sized_by k a (inr (inr c)) = let v = L.sized (k - 1) (omega arith) in (omega (arith, (high k c a).size, v.0), omega (arith, (high k c a).size, v.1))

  inside_by : (a k : ℕ) → a < n + 1 → a < k → k < a + (at S a).size → (a ≡ i) ⊎ ((a < i) ⊎ (i < a)) → (k ≡ i) ⊎ ((k < i) ⊎ (i < k)) → a ≤ up S k
  inside_by a k b c d (inl y) _ = let e : (at S a).size ≡ 1 = ap (λ (m : ℕ). (at S m).size) y ∙ here_size in absurd (omega arith)
  inside_by a k b c d (inr (inl y)) (inl z) = go (low a y).size
    where
      v : up S k ≡ q
      v = ap (up S) z ∙ here_up

      go : Larger a ⊎ Ended a → a ≤ up S k
      go (inl w) = omega (arith, v, w.0)
      go (inr w) = absurd (omega (arith, w.0, w.2))
  inside_by a k b c d (inr (inl y)) (inr (inl z)) = go (low a y).size
    where
      go : Larger a ⊎ Ended a → a ≤ up S k
      go (inl w) = omega (arith, low_up k z, L.inside a k (omega (arith, behind_all)) c (omega (arith, far a w.0 w.1)))
      go (inr w) = omega (arith, low_up k z, L.inside a k (omega (arith, behind_all)) c (omega (arith, w.2)))
  inside_by a k b c d (inr (inl y)) (inr (inr z)) = go (low a y).size
    where
      go : Larger a ⊎ Ended a → a ≤ up S k
      go (inr w) = absurd (omega (arith, w.0, w.2))
      go (inl w) =
          let e : k - 1 < a + (at R a).size = omega (arith, w.2) in
          by (high k z (omega (arith, (L.sized a (omega (arith, behind_all))).1))).moved (L.inside a (k - 1) (omega (arith, behind_all)) (omega arith) e)
        where
          by : Moved k → a ≤ up R (k - 1) → a ≤ up S k
          by (inl m) u = omega (arith, m.1)
          by (inr m) u = omega (arith, m.1)
  inside_by a k b c d (inr (inr y)) (inl z) = absurd (omega arith)
  inside_by a k b c d (inr (inr y)) (inr (inl z)) = absurd (omega arith)
  inside_by a k b c d (inr (inr y)) (inr (inr z)) =
      let e = (high a y b).size in
      let v = (L.sized (a - 1) (omega arith)).1 in
      by (high k z (omega arith)).moved (L.inside (a - 1) (k - 1) (omega arith) (omega arith) (omega arith))
    where
      by : Moved k → a - 1 ≤ up R (k - 1) → a ≤ up S k
      by (inl m) u = absurd (omega (arith, m.0))
      by (inr m) u = omega (arith, m.1)

  outside_by : (a k : ℕ) → a < n + 1 → a + (at S a).size ≤ k → k < n + 1 → a ≤ up S k → (a ≡ i) ⊎ ((a < i) ⊎ (i < a)) → (k ≡ i) ⊎ ((k < i) ⊎ (i < k)) → a + (at S a).size ≤ up S k
  outside_by a k b c d e (inl y) (inl z) = let v : (at S a).size ≡ 1 = ap (λ (m : ℕ). (at S m).size) y ∙ here_size in absurd (omega arith)
  outside_by a k b c d e (inl y) (inr (inl z)) = let v : (at S a).size ≡ 1 = ap (λ (m : ℕ). (at S m).size) y ∙ here_size in absurd (omega arith)
  outside_by a k b c d e (inl y) (inr (inr z)) = by (high k z d).moved
    where
      v : (at S a).size ≡ 1
      v = ap (λ (m : ℕ). (at S m).size) y ∙ here_size

      by : Moved k → a + (at S a).size ≤ up S k
      by (inl m) = absurd (omega (arith, m.0, m.1))
      by (inr m) = omega (arith, v, m.0, m.1)
  outside_by a k b c d e (inr (inl y)) (inl z) = go (low a y).size
    where
      v : up S k ≡ q
      v = ap (up S) z ∙ here_up

      go : Larger a ⊎ Ended a → a + (at S a).size ≤ up S k
      go (inl w) = absurd (omega (arith, w.2, far a w.0 w.1))
      go (inr w) = omega (arith, v, w.2, w.1 (omega (arith, v)))
  outside_by a k b c d e (inr (inl y)) (inr (inl z)) = go (low a y).size
    where
      go : Larger a ⊎ Ended a → a + (at S a).size ≤ up S k
      go (inl w) = absurd (omega (arith, w.2, far a w.0 w.1))
      go (inr w) = omega (arith, w.2, low_up k z, L.outside a k (omega (arith, behind_all)) (omega (arith, w.2)) (omega (arith, behind_all)) (omega (arith, low_up k z)))
  outside_by a k b c d e (inr (inl y)) (inr (inr z)) = go (low a y).size (high k z d).moved
    where
      g : a < n
      g = omega (arith, behind_all)

      go : Larger a ⊎ Ended a → Moved k → a + (at S a).size ≤ up S k
      go (inl w) (inl m) = absurd (omega (arith, w.2, m.0, m.1, far a w.0 w.1, L.outside a (k - 1) g (omega (arith, w.2)) (omega arith) (omega (arith, m.1))))
      go (inl w) (inr m) = omega (arith, w.2, m.0, m.1, L.outside a (k - 1) g (omega (arith, w.2)) (omega arith) (omega (arith, m.0)))
      go (inr w) (inl m) = omega (arith, w.2, m.1, L.outside a (k - 1) g (omega (arith, w.0)) (omega arith) (omega (arith, m.1)))
      go (inr w) (inr m) = omega (arith, w.0, w.2, m.0, m.1)
  outside_by a k b c d e (inr (inr y)) (inl z) = absurd (omega (arith, (sized_by a b (inr (inr y))).0))
  outside_by a k b c d e (inr (inr y)) (inr (inl z)) = absurd (omega arith)
  outside_by a k b c d e (inr (inr y)) (inr (inr z)) = go (high k z d).moved
    where
      v : (at S a).size ≡ (at R (a - 1)).size
      v = (high a y b).size

      go : Moved k → a + (at S a).size ≤ up S k
      go (inl m) = absurd (omega (arith, m.0, m.1))
      go (inr m) = omega (arith, v, m.1, L.outside (a - 1) (k - 1) (omega arith) (omega (arith, v)) (omega arith) (omega (arith, m.1)))

  pub planted_laid : Laid S (n + 1)
  planted_laid =
      record {
        backward = λ k a b. backward_by k a b (cases_order k i);
        parented = λ k a b. parented_by k a b (cases_order k i);
        sized = λ k a. sized_by k a (cases_order k i);
        inside = λ a k b c d. inside_by a k b c d (cases_order a i) (cases_order k i);
        outside = λ a k b c d e. outside_by a k b c d e (cases_order a i) (cases_order k i);
      }
