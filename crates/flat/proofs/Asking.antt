-- What is read off the rows around a node's row are the neighbours that the listing shows.
use Rattle.std.proofs.Common.{◌≡◌, ℕ, zero, suc, ◌+◌, ◌-◌, ◌<◌, ◌≤◌, Bool, true, false, cond, not, ◌&&◌, eqb, ltb, ◌⊎◌, List, length, take, drop, None, Option, sym, refl, ap, ◌∙◌, subst, inl, inr, arith, length-drop}
use Rattle.std.specs.List.{prefix_len}
use Rattle.std.proofs.lemmas.List.{get_or-drop}
use Rattle.std.proofs.lemmas.List.Sums.{prefix_len-le-length, prefix_len_passes, prefix_len_stops}
use Rattle.std.proofs.lemmas.Bool.{cases_lt, cases_eq, both_ways, eq-eqb, ne_eqb, eqb-true, lt-ltb, le-ltb, and_left, and_right, and_parts, and_from}
use Rattle.records.specs.declared.nodes.Node.{Node}
use Rattle.document.specs.Table.{is_attribute}
use Rattle.store.specs.Listed.{child_row, attribute_row, first_where, last_where}
use Rattle.flat.specs.declared.rows.FlatRow.{FlatRow}
use Rattle.flat.specs.Means.{no_row, at, up, nodes, Laid, Plain}
use Rattle.flat.specs.Walks.{child_at, attribute_at, passes, Behind, Walked}
use Rattle.flat.proofs.Tables.{nth, first_from, none_from, first_beyond, last_step, last_skip}
use Rattle.flat.proofs.Standing.{nodes_long, node_at}
use Rattle.flat.proofs.Families.{up_before, parent_above, outside_child, inside_other, within_parent, sibling_up, attribute_run, attribute_bare}

-- the count of rows that pass behind a row leads behind its attributes
pub behind_from : (R : List FlatRow) (i p : ℕ) (b : Option ℕ) (m : ℕ) → i < length R → m ≡ prefix_len (λ (r : FlatRow). passes p b r.node) (drop (i + 1) R)
    → Behind R (length R) i p b (i + 1 + m)
behind_from R i p b m l e =
    record {
      after = omega arith;
      within = omega (arith, e, prefix_len-le-length test D, long);
      run = λ k a c.
          let z : i + 1 + (k - (i + 1)) ≡ k = omega arith in
          ap (λ (j : ℕ). test (at R j)) (sym z) ∙ ap test (sym (get_or-drop (i + 1) R (k - (i + 1)) no_row)) ∙ prefix_len_passes test D (k - (i + 1)) no_row (omega (arith, e));
      stop = λ g.
          let y : prefix_len test D < length D = omega (arith, e, long) in
          rw e (ap test (sym (get_or-drop (i + 1) R (prefix_len test D) no_row)) ∙ prefix_len_stops test D no_row y);
    }
  where
    test : FlatRow → Bool
    test r = passes p b r.node

    D : List FlatRow
    D = drop (i + 1) R

    long : length D ≡ length R - (i + 1)
    long = length-drop (i + 1) R

module _ (R : List FlatRow) (n : ℕ) (h : n ≤ length R) (L : Laid R n) (P : Plain R n) where
  abbrev N : List Node
  N = nodes R n

  -- a test that fails on a row fails on its record in the listing
  fails : (q : Node → Bool) (j : ℕ) → j < n → q (at R j).node ≡ false → q (nth N j) ≡ false
  fails q j l e = ap q (node_at R n j h l) ∙ e

  no_child : (p k : ℕ) → ((at R k).node.parent ≡ p → ⊥) → child_row p (at R k).node ≡ false
  no_child p k x = and_left (eqb (at R k).node.parent p) (not (is_attribute (at R k).node.kind)) (ne_eqb (at R k).node.parent p x)

  no_attribute : (p k : ℕ) → ((at R k).node.parent ≡ p → ⊥) → attribute_row p (at R k).node ≡ false
  no_attribute p k x = and_left (eqb (at R k).node.parent p) (is_attribute (at R k).node.kind) (ne_eqb (at R k).node.parent p x)

  -- the first row of N from m on that passes q, where q fails on all behind m if it fails on m
  at_or_none : (q : Node → Bool) (m : ℕ) → ((j : ℕ) → m < j → j < n → q (at R m).node ≡ false → q (at R j).node ≡ false)
      → cond (ltb m n && q (at R m).node) (at R m).node.id 0 ≡ first_where q (drop m N)
  at_or_none q m none = go (cases_lt m n)
    where
      go : (m < n) ⊎ (n ≤ m) → cond (ltb m n && q (at R m).node) (at R m).node.id 0 ≡ first_where q (drop m N)
      go (inr l) =
          rw (le-ltb m n l) (sym (none_from q N m (λ j a b. absurd (omega (arith, nodes_long R n h)))))
      go (inl l) = by (q (at R m).node) refl
        where
          by : (b : Bool) → q (at R m).node ≡ b → cond (ltb m n && q (at R m).node) (at R m).node.id 0 ≡ first_where q (drop m N)
          by true e =
              rw (lt-ltb m n l, e)
              (sym (first_from q N m m (omega arith) (omega (arith, nodes_long R n h)) (ap q (node_at R n m h l) ∙ e) (λ j a b. absurd (omega arith)) ∙ ap (λ (x : Node). x.id) (node_at R n m h l)))
          by false e =
              rw (lt-ltb m n l, e)
              (sym (none_from q N m (λ j a b. let g : j < n = omega (arith, nodes_long R n h) in fails q j g (rest j a g (cases_eq m j)))))
            where
              rest : (j : ℕ) → m ≤ j → j < n → (m ≡ j) ⊎ (m ≡ j → ⊥) → q (at R j).node ≡ false
              rest j a g (inl x) = rw (← x) e
              rest j a g (inr x) = none j (omega arith) g e

  -- ---- attributes

  pub next_attribute : (q m : ℕ) → q < m → q < n → attribute_at R n m (at R q).node.id ≡ first_where (attribute_row (at R q).node.id) (drop m N)
  next_attribute q m l g = at_or_none (attribute_row p) m (λ j a b e. by j a b e (attribute_row p (at R j).node) refl)
    where
      p : ℕ
      p = (at R q).node.id

      by : (j : ℕ) → m < j → j < n → attribute_row p (at R m).node ≡ false → (b : Bool) → attribute_row p (at R j).node ≡ b → attribute_row p (at R j).node ≡ false
      by j a b e false x = x
      by j a b e true x =
          let y = and_parts (eqb (at R j).node.parent p) (is_attribute (at R j).node.kind) x in
          let z : m + (j - m) ≡ j = omega arith in
          let u = attribute_run R n L P q m (j - m) l (omega arith) (rw z (eqb-true (at R j).node.parent p y.0)) (rw z y.1) in
          absurd (both_ways (attribute_row p (at R m).node) e (and_from (eqb (at R m).node.parent p) (is_attribute (at R m).node.kind) (eq-eqb (at R m).node.parent p u.0) u.1))

  -- rows up to an element's own are not below it
  pub first_attribute : (i : ℕ) → i < n → attribute_at R n (i + 1) (at R i).node.id ≡ first_where (attribute_row (at R i).node.id) N
  first_attribute i l =
      next_attribute i (i + 1) (omega arith) l
      ∙ first_beyond (attribute_row (at R i).node.id) N 0 (i + 1) (omega arith)
      (λ j a b c. let g : j < n = omega arith in
      fails (attribute_row (at R i).node.id) j g (no_attribute (at R i).node.id j (outside_child R n L P i j l g (inl (omega arith)))))

  -- ---- children

  -- the row at m, where m is behind the subtree of q or a row below q
  next_child : (q m : ℕ) → q < n → (m < n → (up R m ≡ q) ⊎ (q + (at R q).size ≤ m)) → q < m → (m < n → attribute_row (at R q).node.id (at R m).node ≡ false)
      → child_at R n m (at R q).node.id ≡ first_where (child_row (at R q).node.id) (drop m N)
  next_child q m g bound l na = at_or_none (child_row p) m (λ j a b e. by j a b e (bound (omega arith)))
    where
      p : ℕ
      p = (at R q).node.id

      by : (j : ℕ) → m < j → j < n → child_row p (at R m).node ≡ false → (up R m ≡ q) ⊎ (q + (at R q).size ≤ m) → child_row p (at R j).node ≡ false
      by j a b e (inr x) = no_child p j (outside_child R n L P q j g b (inr (omega arith)))
      by j a b e (inl x) =
          let k : m < n = omega arith in
          let y : (at R m).node.parent ≡ p = sym (L.parented m (omega arith) k).0 ∙ ap (λ (z : ℕ). (at R z).node.id) x in
          absurd (kinds (is_attribute (at R m).node.kind) (rw (eq-eqb (at R m).node.parent p y) at e) (rw (eq-eqb (at R m).node.parent p y) at (na k)))
        where
          kinds : (b : Bool) → not b ≡ false → b ≡ false → ⊥
          kinds true u w = cc
          kinds false u w = cc

  pub first_child : (i r : ℕ) → i < n → Behind R n i (at R i).node.id None r → child_at R n r (at R i).node.id ≡ first_where (child_row (at R i).node.id) N
  first_child i r l w =
      next_child i r l (λ g. bound g (cases_lt r (i + (at R i).size))) w.after (λ g. only (attribute_row p (at R r).node) (w.stop g))
      ∙ first_beyond (child_row p) N 0 r (omega arith) (λ j a b c. let g : j < n = omega (arith, w.within) in fails (child_row p) j g (early j b g (cases_lt i j)))
    where
      p : ℕ
      p = (at R i).node.id

      only : (b : Bool) → (b && true) ≡ false → b ≡ false
      only true e = e
      only false e = refl

      both : (b : Bool) → (b && true) ≡ true → b ≡ true
      both true e = refl
      both false e = e

      attribute : (k : ℕ) → i < k → k < r → is_attribute (at R k).node.kind ≡ true
      attribute k a b = (and_parts (eqb (at R k).node.parent p) (is_attribute (at R k).node.kind) (both (attribute_row p (at R k).node) (w.run k a b))).1

      bound : r < n → (r < i + (at R i).size) ⊎ (i + (at R i).size ≤ r) → (up R r ≡ i) ⊎ (i + (at R i).size ≤ r)
      bound g (inr x) = inr x
      bound g (inl x) =
          let a : 0 < r = omega (arith, w.after) in
          let y = L.inside i r l w.after x in
          let z = up_before R n L P r a g in
          by (cases_eq (up R r) i)
        where
          by : (up R r ≡ i) ⊎ (up R r ≡ i → ⊥) → (up R r ≡ i) ⊎ (i + (at R i).size ≤ r)
          by (inl e) = inl e
          by (inr e) =
              absurd (attribute_bare R n L P r (omega (arith, w.after)) g (attribute (up R r) (omega (arith, L.inside i r l w.after x)) (up_before R n L P r (omega (arith, w.after)) g)))

      early : (j : ℕ) → j < r → j < n → (i < j) ⊎ (j ≤ i) → child_row p (at R j).node ≡ false
      early j b g (inr x) = no_child p j (outside_child R n L P i j l g (inl x))
      early j b g (inl x) = and_right (eqb (at R j).node.parent p) (not (is_attribute (at R j).node.kind)) (ap not (attribute j x b))

  pub next_sibling : (i : ℕ) → i < n → is_attribute (at R i).node.kind ≡ false
      → child_at R n (i + (at R i).size) (at R i).node.parent ≡ first_where (child_row (at R i).node.parent) (drop (i + 1) N)
  next_sibling zero l na =
      at_or_none (child_row p) (0 + (at R 0).size) (λ j a b e. rootless j (omega arith) b)
      ∙ first_beyond (child_row p) N (0 + 1) (0 + (at R 0).size) (omega (arith, (L.sized 0 l).0)) (λ j a b c. let g : j < n = omega (arith, (L.sized 0 l).1) in fails (child_row p) j g (rootless j (omega arith) g))
    where
      p : ℕ
      p = (at R 0).node.parent

      rootless : (j : ℕ) → 0 < j → j < n → child_row p (at R j).node ≡ false
      rootless j a b = no_child p j (λ e. omega (arith, parent_above R n L P j a b, (P.root l).0))
  next_sibling (suc k) l na =
      subst (λ (p : ℕ). child_at R n m p ≡ first_where (child_row p) (drop m N)) below (next_child q m inn (λ g. bound g (cases_lt m (q + (at R q).size))) (omega (arith, before)) none)
      ∙ first_beyond (child_row (at R i).node.parent) N (i + 1) m (omega (arith, (L.sized i l).0))
      (λ j a b c. let g : j < n = omega (arith, (L.sized i l).1) in
      fails (child_row (at R i).node.parent) j g (no_child (at R i).node.parent j (inside_other R n L P i j (omega arith) l (omega arith) b)))
    where
      i : ℕ
      i = suc k

      m : ℕ
      m = i + (at R i).size

      q : ℕ
      q = up R i

      before : q < i
      before = up_before R n L P i (omega arith) l

      inn : q < n
      inn = omega (arith, before)

      below : (at R q).node.id ≡ (at R i).node.parent
      below = (L.parented i (omega arith) l).0

      bound : m < n → (m < q + (at R q).size) ⊎ (q + (at R q).size ≤ m) → (up R m ≡ q) ⊎ (q + (at R q).size ≤ m)
      bound g (inl x) = inl (sibling_up R n L P i (omega arith) l g x)
      bound g (inr x) = inr x

      none : m < n → attribute_row (at R q).node.id (at R m).node ≡ false
      none g = by (attribute_row (at R q).node.id (at R m).node) refl
        where
          by : (b : Bool) → attribute_row (at R q).node.id (at R m).node ≡ b → attribute_row (at R q).node.id (at R m).node ≡ false
          by false x = x
          by true x =
              let y = and_parts (eqb (at R m).node.parent (at R q).node.id) (is_attribute (at R m).node.kind) x in
              let u = attribute_run R n L P q i (at R i).size before g (eqb-true (at R m).node.parent (at R q).node.id y.0) y.1 in
              absurd (both_ways (is_attribute (at R i).node.kind) na u.1)

  -- ---- the left neighbour, by a walk over the rows below the parent

  pub walk_start : (i : ℕ) → 0 < i → i < n → Walked R n i (up R i + 1) 0
  walk_start i a l =
      record {
        after = omega arith;
        until = omega (arith, up_before R n L P i a l);
        below = ends (cases_eq (up R i + 1) i);
        last = sym (ap (λ (j : ℕ). last_where q (take j N)) z ∙ last_skip q N 0 (up R i + 1) (omega (arith, nodes_long R n h, up_before R n L P i a l)) early);
      }
    where
      q : Node → Bool
      q = child_row (at R i).node.parent

      z : up R i + 1 ≡ 0 + (up R i + 1)
      z = omega arith

      inn : up R i < n
      inn = omega (arith, up_before R n L P i a l)

      ends : (up R i + 1 ≡ i) ⊎ (up R i + 1 ≡ i → ⊥) → up R (up R i + 1) ≡ up R i
      ends (inl e) = ap (up R) e
      ends (inr e) =
          let b : up R i + 1 < n = omega (arith, up_before R n L P i a l) in
          omega (arith, up_before R n L P i a l, up_before R n L P (up R i + 1) (omega arith) b, L.inside (up R i) (up R i + 1) inn (omega arith) (omega (arith, within_parent R n L P i a l, up_before R n L P i a l)))

      early : (j : ℕ) → 0 ≤ j → j < 0 + (up R i + 1) → q (nth N j) ≡ false
      early j b c =
          let g : j < n = omega (arith, inn) in
          fails q j g (no_child (at R i).node.parent j (λ e. outside_child R n L P (up R i) j inn g (inl (omega arith)) (e ∙ sym (L.parented i a l).0)))

  -- one row further
  pub walk_on : (i c left : ℕ) → 0 < i → i < n → c < i → Walked R n i c left → Walked R n i (c + (at R c).size) (cond (is_attribute (at R c).node.kind) left (at R c).node.id)
  walk_on i c left a l k w =
      record {
        after = omega (arith, w.after);
        until = fits;
        below = sibling_up R n L P c (omega arith) d (omega (arith, fits)) (rw w.below (omega (arith, fits, within_parent R n L P i a l))) ∙ w.below;
        last = gone (is_attribute (at R c).node.kind) refl;
      }
    where
      d : c < n
      d = omega arith

      q : Node → Bool
      q = child_row (at R i).node.parent

      fits : c + (at R c).size ≤ i
      fits = by (cases_lt i (c + (at R c).size))
        where
          by : (i < c + (at R c).size) ⊎ (c + (at R c).size ≤ i) → c + (at R c).size ≤ i
          by (inr x) = x
          by (inl x) = absurd (omega (arith, L.inside c i d k x, w.after))

      same : (at R c).node.parent ≡ (at R i).node.parent
      same = sym (L.parented c (omega (arith, w.after)) d).0 ∙ ap (λ (j : ℕ). (at R j).node.id) w.below ∙ (L.parented i a l).0

      passed : (j : ℕ) → c + 1 ≤ j → j < c + 1 + ((at R c).size - 1) → q (nth N j) ≡ false
      passed j b e =
          let g : j < n = omega (arith, fits) in
          fails q j g (no_child (at R i).node.parent j (λ x. inside_other R n L P c j (omega (arith, w.after)) d (omega arith) (omega arith) (x ∙ sym same)))

      far : c + (at R c).size ≡ c + 1 + ((at R c).size - 1)
      far = omega (arith, (L.sized c d).0)

      on : last_where q (take (c + (at R c).size) N) ≡ cond (q (nth N c)) (nth N c).id (last_where q (take c N))
      on = ap (λ (j : ℕ). last_where q (take j N)) far ∙ last_skip q N (c + 1) ((at R c).size - 1) (omega (arith, fits, nodes_long R n h, (L.sized c d).0)) passed ∙ last_step q N c (omega (arith, nodes_long R n h))

      here : nth N c ≡ (at R c).node
      here = node_at R n c h d

      gone : (b : Bool) → is_attribute (at R c).node.kind ≡ b → cond b left (at R c).node.id ≡ last_where q (take (c + (at R c).size) N)
      gone true e = rw (on, here, eq-eqb (at R c).node.parent (at R i).node.parent same, e) w.last
      gone false e = rw (on, here, eq-eqb (at R c).node.parent (at R i).node.parent same, e)
