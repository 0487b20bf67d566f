-- The index once a row has come.
use Rattle.std.proofs.Common.{◌≡◌, ℕ, ◌+◌, ◌-◌, ◌<◌, ◌≤◌, true, false, leb, ◌⊎◌, List, length, Some, None, Option, Ordering, Less, Equal, Greater, sym, ap, ◌∙◌, inl, inr, arith}
use mathlib.Core.Logic.{∥∥₁_map}
use Rattle.std.specs.Cmp.{ranks}
use Rattle.std.specs.Ordering.{is_lt, nat_cmp, ordering_then, MatchOrdering}
use Rattle.std.proofs.lemmas.Bool.{cases_lt, cases_order, true≢false, false≢true}
use Rattle.std.proofs.lemmas.Bool.Decides.{nat_tests}
use Rattle.records.specs.declared.nodes.Node.{Node}
use Rattle.ordered.specs.declared.entries.RowOf.{RowOf}
use Rattle.ordered.specs.Table.{Least, Placed, Inserted, InOrder}
use Rattle.ordered.specs.Entries.{by_identifier}
use Rattle.flat.specs.declared.rows.FlatRow.{FlatRow}
use Rattle.flat.specs.Means.{no_entry, at, entry, Indexed}
use Rattle.flat.specs.Shifts.{raised, Changed, Enlisted}
use Rattle.flat.proofs.Answering.{ascending_from}

-- what an order by identifier and then by row says of the identifiers
later : (x y : ℕ) (r s : Ordering) → MatchOrdering r (x < y) (x ≡ y) (y < x) → is_lt (ordering_then r s) ≡ true → x ≤ y
later x y Less s h e = omega arith
later x y Equal s h e = omega arith
later x y Greater s h e = absurd (false≢true e)

sooner : (x y : ℕ) (r s : Ordering) → MatchOrdering r (x < y) (x ≡ y) (y < x) → is_lt (ordering_then r s) ≡ false → y ≤ x
sooner x y Less s h e = absurd (true≢false e)
sooner x y Equal s h e = omega arith
sooner x y Greater s h e = omega arith

no_later : (a b : RowOf) → is_lt (by_identifier a b) ≡ true → a.id ≤ b.id
no_later a b h = later a.id b.id (nat_cmp a.id b.id) (nat_cmp a.row b.row) (ranks a.id b.id) h

no_sooner : (a b : RowOf) → is_lt (by_identifier a b) ≡ false → b.id ≤ a.id
no_sooner a b h = sooner a.id b.id (nat_cmp a.id b.id) (nat_cmp a.row b.row) (ranks a.id b.id) h

-- where the entry of an old row leads
record Leads (i : ℕ) (e f : RowOf) : Type 0 where
  id : f.id ≡ e.id
  before : e.row < i → f.row ≡ e.row
  behind : i ≤ e.row → f.row ≡ e.row + 1

raised_leads : (i : ℕ) (e f : RowOf) → f ≡ raised i e → Leads i e f
raised_leads i e f w = go (cases_lt e.row i)
  where
    go : (e.row < i) ⊎ (i ≤ e.row) → Leads i e f
    go (inl c) =
        let no' : leb i e.row ≡ false = grind (arith, nat_tests) in
        let u : f ≡ e = w ∙ rw no' in
        record { id = ap (λ (x : RowOf). x.id) u; before = λ _. ap (λ (x : RowOf). x.row) u; behind = λ x. absurd (omega arith) }
    go (inr c) =
        let yes' : leb i e.row ≡ true = grind (arith, nat_tests) in
        let u : f ≡ record { id = e.id; row = e.row + 1 } = w ∙ rw yes' in
        record { id = ap (λ (x : RowOf). x.id) u; before = λ x. absurd (omega arith); behind = λ _. ap (λ (x : RowOf). x.row) u }

module _ (R S : List FlatRow) (X Z : List RowOf) (n : ℕ) (x : RowOf) (I : Indexed R X n)
    (fresh : (k : ℕ) → k < n → (at R k).node.id ≡ x.id → ⊥)
    (stands : (k j : ℕ) → k < n → (k < x.row → j ≡ k) → (x.row ≤ k → j ≡ k + 1) → (at S j).node ≡ (at R k).node)
    (here : (at S x.row).node.id ≡ x.id) (low : x.row ≤ n) where
  module _ (Y : List RowOf) (p : ℕ) (C : Changed no_entry X (λ _. raised x.row) n Y) (B : Placed Y p n x Z) (O : Least by_identifier n Y x p) where
    leads : (k : ℕ) → k < n → Leads x.row (entry X k) (entry Y k)
    leads k b = raised_leads x.row (entry X k) (entry Y k) (C.low k b)

    differs : (k : ℕ) → k < n → (entry Y k).id ≡ x.id → ⊥
    differs k b e = fresh (entry X k).row (I.leading k b).0 ((I.leading k b).1 ∙ sym (leads k b).id ∙ e)

    climbs : (j k : ℕ) → j < k → k < n → (entry Y j).id < (entry Y k).id
    climbs j k a b = let g : j < n = omega arith in omega (arith, (leads j g).id, (leads k b).id, I.ascending j k a b)

    smaller : (k : ℕ) → k < p → k < n → (entry Y k).id < x.id
    smaller k a b = let ne = differs k b in let le = no_later (entry Y k) x (O.smaller k no_entry a) in omega arith

    greater : (k : ℕ) → p ≤ k → k < n → x.id < (entry Y k).id
    greater k a b = let ne = differs k b in let le = no_sooner (entry Y k) x (O.others k no_entry a b) in omega arith

    ascending_by : (j k : ℕ) → j < k → k < n + 1 → (j ≡ p) ⊎ ((j < p) ⊎ (p < j)) → (k ≡ p) ⊎ ((k < p) ⊎ (p < k)) → (entry Z j).id < (entry Z k).id
    ascending_by j k a b (inl c) (inl d) = absurd (omega arith)
    ascending_by j k a b (inl c) (inr (inl d)) = absurd (omega arith)
    ascending_by j k a b (inl c) (inr (inr d)) = rw (c, B.here no_entry, B.moved k no_entry d (omega arith)) (greater (k - 1) (omega arith) (omega arith))
    ascending_by j k a b (inr (inl c)) (inl d) = rw (d, B.here no_entry, B.before j no_entry c) (smaller j c (omega (arith, B.within)))
    ascending_by j k a b (inr (inl c)) (inr (inl d)) = rw (B.before j no_entry c, B.before k no_entry d) (climbs j k a (omega (arith, B.within)))
    ascending_by j k a b (inr (inl c)) (inr (inr d)) = rw (B.before j no_entry c, B.moved k no_entry d (omega arith)) (climbs j (k - 1) (omega arith) (omega arith))
    ascending_by j k a b (inr (inr c)) (inl d) = absurd (omega arith)
    ascending_by j k a b (inr (inr c)) (inr (inl d)) = absurd (omega arith)
    ascending_by j k a b (inr (inr c)) (inr (inr d)) =
        rw (B.moved j no_entry c (omega arith), B.moved k no_entry d (omega arith)) (climbs (j - 1) (k - 1) (omega arith) (omega arith))

    -- an old entry leads to the row of its node
    still_leads : (k : ℕ) → k < n → ((entry Y k).row < n + 1) × ((at S (entry Y k).row).node.id ≡ (entry Y k).id)
    still_leads k b = (
      small (cases_lt (entry X k).row x.row),
      ap (λ (y : Node). y.id) (stands (entry X k).row (entry Y k).row (I.leading k b).0 (leads k b).before (leads k b).behind) ∙ (I.leading k b).1 ∙ sym (leads k b).id,
    )
      where
        small : ((entry X k).row < x.row) ⊎ (x.row ≤ (entry X k).row) → (entry Y k).row < n + 1
        small (inl c) = omega (arith, (leads k b).before c)
        small (inr c) = omega (arith, (leads k b).behind c, (I.leading k b).0)

    leading_by : (k : ℕ) → k < n + 1 → (k ≡ p) ⊎ ((k < p) ⊎ (p < k)) → ((entry Z k).row < n + 1) × ((at S (entry Z k).row).node.id ≡ (entry Z k).id)
    leading_by k b (inl c) = rw (c, B.here no_entry) ((omega (arith, low)), here)
    leading_by k b (inr (inl c)) = rw (B.before k no_entry c) (still_leads k (omega (arith, B.within)))
    leading_by k b (inr (inr c)) = rw (B.moved k no_entry c (omega arith)) (still_leads (k - 1) (omega arith))

    kept_entry : (k : ℕ) → k < n → (j : ℕ) × (j < n + 1) × (entry Z j ≡ entry Y k)
    kept_entry k b = go (cases_lt k p)
      where
        go : (k < p) ⊎ (p ≤ k) → (j : ℕ) × (j < n + 1) × (entry Z j ≡ entry Y k)
        go (inl c) = (k, omega arith, B.before k no_entry c)
        go (inr c) =
            let z : k + 1 - 1 ≡ k = omega arith in
            (k + 1, omega arith, B.moved (k + 1) no_entry (omega arith) (omega arith) ∙ ap (entry Y) z)

    reaching_by : (j : ℕ) → j < n + 1 → (j ≡ x.row) ⊎ ((j < x.row) ⊎ (x.row < j)) → ∥ ((k : ℕ) × (k < n + 1) × ((entry Z k).row ≡ j)) ∥₁
    reaching_by j b (inl c) = ∣ (p, omega (arith, B.within), ap (λ (e : RowOf). e.row) (B.here no_entry) ∙ sym c) ∣₁
    reaching_by j b (inr (inl c)) =
        ∥∥₁_map (I.reaching j (omega (arith, low))) (λ w.
        let u = kept_entry w.0 w.1 in
        (u.0, u.1, ap (λ (e : RowOf). e.row) u.2 ∙ (leads w.0 w.1).before (omega (arith, w.2)) ∙ w.2))
    reaching_by j b (inr (inr c)) =
        ∥∥₁_map (I.reaching (j - 1) (omega arith)) (λ w.
        let u = kept_entry w.0 w.1 in
        let v = (leads w.0 w.1).behind (omega (arith, w.2)) in
        (u.0, u.1, ap (λ (e : RowOf). e.row) u.2 ∙ omega (arith, v, w.2)))

    planted_at : Indexed S Z (n + 1)
    planted_at =
        record {
          ascending = λ j k a b. ascending_by j k a b (cases_order j p) (cases_order k p);
          leading = λ k b. leading_by k b (cases_order k p);
          reaching = λ j b. reaching_by j b (cases_order j x.row);
        }

  pub planted_indexed : n < length X → Enlisted X n x Z → Indexed S Z (n + 1)
  planted_indexed g (Y, r, C, E, O) = by r E O
    where
      up' : (j k : ℕ) → j < k → k < n → (entry Y j).id < (entry Y k).id
      up' j k a b =
          let c : j < n = omega arith in
          omega (arith, (raised_leads x.row (entry X j) (entry Y j) (C.low j c)).id, (raised_leads x.row (entry X k) (entry Y k) (C.low k b)).id, I.ascending j k a b)

      by : (r : Option ℕ) → Inserted Y n x r Z → InOrder by_identifier Y n x r Z → Indexed S Z (n + 1)
      by None e o = absurd (omega (arith, e.0, C.long))
      by (Some p) e o = planted_at Y p C e.1 (o (ascending_from Y n (omega (arith, C.long)) up')).0
