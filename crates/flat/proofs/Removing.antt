-- A take: the test before it, and what the store holds after it.
use Rattle.std.proofs.Common.{◌≡◌, ℕ, ◌+◌, ◌-◌, ◌<◌, ◌≤◌, Bool, true, false, cond, not, ◌&&◌, eqb, ◌⊎◌, List, length, take, drop, Some, None, Ok, Err, Option, sym, refl, ap, ◌∙◌, inl, inr, arith, length-append, length-drop}
use Rattle.std.proofs.lemmas.List.{get_or-take, get_or-drop, get_or_append_left, get_or-append_right, length-take-le}
use Rattle.std.proofs.lemmas.Bool.{cases_lt, cases_eq, eq-eqb, ne_eqb, lt-ltb}
use Rattle.records.specs.declared.nodes.Node.{Node}
use Rattle.document.specs.Listing.{listing}
use Rattle.document.specs.Table.{is_attribute}
use Rattle.faults.specs.declared.StoreFault.TheVariants.{Unsuited}
use Rattle.ordered.specs.declared.entries.RowOf.{RowOf}
use Rattle.ordered.specs.Table.{Removed}
use Rattle.store.specs.Says.{is_bare, take_of, take_says, take_leaves}
use Rattle.store.specs.Listed.{position, removed_at, child_row, attribute_row, first_where}
use Rattle.store.proofs.Takes.{take_removes_one, take_keeps}
use Rattle.flat.specs.declared.rows.FlatRow.{FlatRow}
use Rattle.flat.specs.Means.{no_node, at, up, nodes, means, Laid, Indexed, Plain, Stored}
use Rattle.flat.specs.Walks.{child_at, attribute_at, Behind}
use Rattle.flat.specs.Shifts.{Taken, Unlisted}
use Rattle.flat.proofs.Tables.{nth, none_from}
use Rattle.flat.proofs.Standing.{nodes_long, node_at, Seen, plain, sight}
use Rattle.flat.proofs.Families.{up_before, outside_child}
use Rattle.flat.proofs.Asking.{first_attribute, first_child}
use Rattle.flat.proofs.Answering.{size_is}
use Rattle.flat.proofs.Keeping.{means_listed, stored_from, same_nodes}
use Rattle.flat.proofs.Taking.{taken_laid, taken_node}
use Rattle.flat.proofs.Unlisting.{found_within, taken_indexed}

-- ---- a list without what stood at i

pub removed_long : (i : ℕ) (xs : List Node) → i < length xs → length (removed_at i xs) + 1 ≡ length xs
removed_long i xs h = omega (arith, length-append (take i xs) (drop (i + 1) xs), length-take-le i xs (omega arith), length-drop (i + 1) xs)

pub removed_low : (i : ℕ) (xs : List Node) (k : ℕ) → i < length xs → k < i → nth (removed_at i xs) k ≡ nth xs k
removed_low i xs k h l = get_or_append_left (take i xs) (drop (i + 1) xs) no_node k (omega (arith, length-take-le i xs (omega arith))) ∙ get_or-take i xs k no_node l

pub removed_high : (i : ℕ) (xs : List Node) (k : ℕ) → i < length xs → i ≤ k → nth (removed_at i xs) k ≡ nth xs (k + 1)
removed_high i xs k h l =
    let e : i + 1 + (k - i) ≡ k + 1 = omega arith in
    get_or-append_right (take i xs) (drop (i + 1) xs) i k no_node (length-take-le i xs (omega arith)) l ∙ get_or-drop (i + 1) xs (k - i) no_node ∙ ap (nth xs) e

module _ (R : List FlatRow) (X : List RowOf) (n : ℕ) (h : n ≤ length R) (s : Stored R X n) (i : ℕ) (l : i < n) where
  L : Laid R n
  L = s.laid

  P : Plain R n
  P = plain R X n h s

  t : ℕ
  t = (at R i).node.id

  -- ---- a row alone in its subtree has neither children nor attributes

  alone : (at R i).size ≡ 1 → (q : Node → Bool) → ((x : Node) → (x.parent ≡ (at R i).node.id → ⊥) → q x ≡ false) → first_where q (nodes R n) ≡ 0
  alone e q b =
      none_from q (nodes R n) 0 (λ j _ c.
      let g : j < n = omega (arith, nodes_long R n h) in
      ap q (node_at R n j h g) ∙ b (at R j).node (outside_child R n L P i j l g (side j (cases_lt i j))))
    where
      side : (j : ℕ) → (i < j) ⊎ (j ≤ i) → (j ≤ i) ⊎ (i + (at R i).size ≤ j)
      side j (inr x) = inl x
      side j (inl x) = inr (omega arith)

  below_fails : (c : Bool) (x : Node) → (x.parent ≡ (at R i).node.id → ⊥) → (eqb x.parent (at R i).node.id && c) ≡ false
  below_fails c x ne = rw (ne_eqb x.parent (at R i).node.id ne)

  -- else the row behind it is one of them
  next_below : ((at R i).size ≡ 1 → ⊥) → (i + 1 < n) × ((at R (i + 1)).node.parent ≡ (at R i).node.id)
  next_below ne =
      let w = L.sized i l in
      let g : i + 1 < n = omega arith in
      let u : up R (i + 1) ≡ i = omega (arith, up_before R n L P (i + 1) (omega arith) g, L.inside i (i + 1) l (omega arith) (omega arith)) in
      (g, sym (L.parented (i + 1) (omega arith) g).0 ∙ ap (λ (j : ℕ). (at R j).node.id) u)

  abbrev S' : Seen (means R n) s.kept (nodes R n) s.listed (at R i).node.id i
  S' = sight R X n h s (at R i).node.id i l refl

  bare_is : is_bare S'.v ≡ eqb (at R i).size 1
  bare_is = go (cases_eq (at R i).size 1)
    where
      some : (a b : ℕ) → (0 < a) ⊎ (0 < b) → (eqb a 0 && eqb b 0) ≡ false
      some a b (inl x) = rw (ne_eqb a 0 (λ e. omega arith))
      some a b (inr x) = by (eqb a 0)
        where
          by : (c : Bool) → (c && eqb b 0) ≡ false
          by true = ne_eqb b 0 (λ e. omega arith)
          by false = refl

      go : ((at R i).size ≡ 1) ⊎ ((at R i).size ≡ 1 → ⊥) → is_bare S'.v ≡ eqb (at R i).size 1
      go (inl e) =
          let a = S'.shown.first_child ∙ alone e (child_row (at R i).node.id) (λ x. below_fails (not (is_attribute x.kind)) x) in
          let b = S'.shown.first_attribute ∙ alone e (attribute_row (at R i).node.id) (λ x. below_fails (is_attribute x.kind) x) in
          rw (a, b, eq-eqb (at R i).size 1 e)
      go (inr e) = some S'.v.first_child S'.v.first_attribute (by (is_attribute (at R (i + 1)).node.kind) refl) ∙ sym (ne_eqb (at R i).size 1 e)
        where
          w : (i + 1 < n) × ((at R (i + 1)).node.parent ≡ (at R i).node.id)
          w = next_below e

          up' : 0 < (at R (i + 1)).node.id
          up' = P.above (i + 1) w.0

          by : (b : Bool) → is_attribute (at R (i + 1)).node.kind ≡ b → (0 < S'.v.first_child) ⊎ (0 < S'.v.first_attribute)
          by true k =
              let a : attribute_at R n (i + 1) (at R i).node.id ≡ (at R (i + 1)).node.id = rw (lt-ltb (i + 1) n w.0, eq-eqb (at R (i + 1)).node.parent (at R i).node.id w.1, k) in
              inr (omega (arith, up', S'.shown.first_attribute ∙ sym (first_attribute R n h L P i l) ∙ a))
          by false k =
              let a : child_at R n (i + 1) (at R i).node.id ≡ (at R (i + 1)).node.id = rw (lt-ltb (i + 1) n w.0, eq-eqb (at R (i + 1)).node.parent (at R i).node.id w.1, k) in
              let b : Behind R n i (at R i).node.id None (i + 1) =
              record {
                after = omega arith;
                within = omega (arith, w.0);
                run = λ j c d. absurd (omega arith);
                stop = λ _. rw (eq-eqb (at R (i + 1)).node.parent (at R i).node.id w.1, k);
              } in
              inl (omega (arith, up', S'.shown.first_child ∙ sym (first_child R n h L P i (i + 1) l b) ∙ a))

  pub take_judged : (u : ℕ) → (at R i).node.id ≡ u → take_says (means R n) u ≡ cond (eqb (at R i).size 1) (Ok tt) (Err Unsuited)
  take_judged u e =
      ap (take_says (means R n)) (sym e) ∙ ap take_of S'.seen ∙ ap (λ (b : Bool). cond b (Ok tt) (Err Unsuited)) bare_is

  -- ---- the take

  module _ (S : List FlatRow) (Z : List RowOf) (says : Ok tt ≡ take_says (means R n) (at R i).node.id) (T : Taken R n i S) where
    one : (at R i).size ≡ 1
    one = go (cases_eq (at R i).size 1)
      where
        go : ((at R i).size ≡ 1) ⊎ ((at R i).size ≡ 1 → ⊥) → (at R i).size ≡ 1
        go (inl e) = e
        go (inr e) =
            let u : cond false (Ok tt) (Err Unsuited) ≡ take_says (means R n) (at R i).node.id = sym (take_judged (at R i).node.id refl ∙ rw (ne_eqb (at R i).size 1 e)) in
            cc

    stands : (k j : ℕ) → k < n → (k < i → j ≡ k) → (i < k → j + 1 ≡ k) → (k ≡ i → ⊥) → (at S j).node ≡ (at R k).node
    stands = taken_node R S n i l L P one T

    taken_listed : listing (take_leaves (means R n) (at R i).node.id) ≡ nodes S (n - 1)
    taken_listed =
        (take_removes_one (means R n) (at R i).node.id s.kept (sym says)).0
        ∙ ap (λ (xs : List Node). removed_at (position (at R i).node.id xs) xs) s.listed
        ∙ ap (λ (j : ℕ). removed_at j (nodes R n)) S'.place
        ∙ same_nodes S (n - 1) (removed_at i (nodes R n)) (omega (arith, T.long)) (omega (arith, removed_long i (nodes R n) (omega (arith, long)), long)) (λ k b. each k b (cases_lt k i))
      where
        long : length (nodes R n) ≡ n
        long = nodes_long R n h

        each : (k : ℕ) → k < n - 1 → (k < i) ⊎ (i ≤ k) → nth (removed_at i (nodes R n)) k ≡ (at S k).node
        each k b (inl x) =
            removed_low i (nodes R n) k (omega (arith, long)) x ∙ node_at R n k h (omega arith)
            ∙ sym (stands k k (omega arith) (λ _. refl) (λ y. absurd (omega arith)) (λ e. omega arith))
        each k b (inr x) =
            removed_high i (nodes R n) k (omega (arith, long)) x ∙ node_at R n (k + 1) h (omega arith)
            ∙ sym (stands (k + 1) k (omega arith) (λ y. absurd (omega arith)) (λ _. refl) (λ e. omega arith))

    indexed : n ≤ length X → Unlisted X n i Z → Indexed S Z (n - 1)
    indexed g (Y, a, r, W, C) = by r C
      where
        within : a < n
        within = found_within R S X Y Z n i a l s.indexed W stands

        by : (r : Option RowOf) → Removed Y n a r Z → Indexed S Z (n - 1)
        by None (inl x, e) = absurd (omega (arith, within))
        by None (inr x, e) = absurd (omega (arith, W.changed.long))
        by (Some y) c = taken_indexed R S X Y Z n i a l s.indexed W stands c.3

    pub taken_stored : n ≤ length X → Unlisted X n i Z → Stored S Z (n - 1)
    taken_stored g U =
        stored_from S Z (n - 1) (take_leaves (means R n) (at R i).node.id) (take_keeps n (means R n) (at R i).node.id s.kept (omega (arith, size_is R X n h s))).0
        taken_listed (taken_laid R S n i l L P one T) (indexed g U)

    pub taken_means : means S (n - 1) ≡ take_leaves (means R n) (at R i).node.id
    taken_means =
        means_listed S (n - 1) (take_leaves (means R n) (at R i).node.id) (take_keeps n (means R n) (at R i).node.id s.kept (omega (arith, size_is R X n h s))).0 taken_listed
