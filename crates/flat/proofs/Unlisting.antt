-- The index once a row is gone.
use Rattle.std.proofs.Common.{◌≡◌, ℕ, ◌+◌, ◌-◌, ◌<◌, ◌≤◌, ◌⊎◌, List, sym, refl, ap, ◌∙◌, inl, inr, arith}
use mathlib.Core.Logic.{∥∥₁_elim, ∥∥₁_map}
use mathlib.Core.HLevel.{⊥_prop}
use Rattle.std.proofs.lemmas.Bool.{cases_lt, cases_order, lt-ltb, le-ltb}
use Rattle.records.specs.declared.nodes.Node.{Node}
use Rattle.ordered.specs.declared.entries.RowOf.{RowOf}
use Rattle.ordered.specs.Table.{Closed}
use Rattle.flat.specs.declared.rows.FlatRow.{FlatRow}
use Rattle.flat.specs.Means.{no_entry, at, entry, Indexed}
use Rattle.flat.specs.Shifts.{lowered, Lowered}

-- where the entry of an old row leads
pub record Leads (i : ℕ) (e f : RowOf) : Type 0 where
  pub id : f.id ≡ e.id
  pub before : e.row < i → f.row ≡ e.row
  pub behind : i < e.row → f.row + 1 ≡ e.row

pub lowered_leads : (i : ℕ) (e f : RowOf) → f ≡ lowered i e → Leads i e f
lowered_leads i e f w = go (cases_lt i e.row)
  where
    go : (i < e.row) ⊎ (e.row ≤ i) → Leads i e f
    go (inl c) =
        let u : f ≡ record { id = e.id; row = e.row - 1 } = w ∙ rw (lt-ltb i e.row c) in
        record { id = ap (λ (x : RowOf). x.id) u; before = λ x. absurd (omega arith); behind = λ _. omega (arith, ap (λ (x : RowOf). x.row) u) }
    go (inr c) =
        let u : f ≡ e = w ∙ rw (le-ltb i e.row c) in
        record { id = ap (λ (x : RowOf). x.id) u; before = λ _. ap (λ (x : RowOf). x.row) u; behind = λ x. absurd (omega arith) }

module _ (R S : List FlatRow) (X Y Z : List RowOf) (n i a : ℕ) (l : i < n) (I : Indexed R X n) (W : Lowered X n i Y a)
    (stands : (k j : ℕ) → k < n → (k < i → j ≡ k) → (i < k → j + 1 ≡ k) → (k ≡ i → ⊥) → (at S j).node ≡ (at R k).node) where
  -- the entry of the row i was found
  pub found_within : a < n
  found_within = go (cases_lt a n)
    where
      go : (a < n) ⊎ (n ≤ a) → a < n
      go (inl x) = x
      go (inr x) = absurd (∥∥₁_elim (I.reaching i l) ⊥_prop (λ w. W.missed x w.0 w.1 w.2))

  -- and no other leads to i
  other : (k : ℕ) → k < n → (k ≡ a → ⊥) → (entry X k).row ≡ i → ⊥
  other k b ne e = go (cases_order k a)
    where
      same : (entry X k).id ≡ (entry X a).id
      same = sym (I.leading k b).1 ∙ ap (λ (j : ℕ). (at R j).node.id) (e ∙ sym (W.found found_within)) ∙ (I.leading a found_within).1

      go : (k ≡ a) ⊎ ((k < a) ⊎ (a < k)) → ⊥
      go (inl x) = ne x
      go (inr (inl x)) = omega (arith, same, I.ascending k a x found_within)
      go (inr (inr x)) = omega (arith, same, I.ascending a k x b)

  module _ (C : Closed Y a n Z) where
    -- the entry at j, with the place where it stood
    record Old (j : ℕ) : Type 0 where
      k : ℕ
      within : k < n
      before : j < a → k ≡ j
      behind : a ≤ j → k ≡ j + 1
      leads : Leads i (entry X k) (entry Z j)

    old : (j : ℕ) → j < n - 1 → Old j
    old j b = go (cases_lt j a)
      where
        go : (j < a) ⊎ (a ≤ j) → Old j
        go (inl x) = record {
          k = j;
          within = omega arith;
          before = λ _. refl;
          behind = λ y. absurd (omega arith);
          leads = lowered_leads i (entry X j) (entry Z j) (C.before j no_entry x ∙ W.changed.low j (omega arith));
        }
        go (inr x) = record {
          k = j + 1;
          within = omega arith;
          before = λ y. absurd (omega arith);
          behind = λ _. refl;
          leads = lowered_leads i (entry X (j + 1)) (entry Z j) (C.moved j no_entry x (omega arith) ∙ W.changed.low (j + 1) (omega arith));
        }

    apart : (j : ℕ) (b : j < n - 1) → (old j b).k ≡ a → ⊥
    apart j b e = go (cases_lt j a)
      where
        go : (j < a) ⊎ (a ≤ j) → ⊥
        go (inl x) = omega (arith, (old j b).before x)
        go (inr x) = omega (arith, (old j b).behind x)

    later : (p q : ℕ) (b : p < n - 1) (c : q < n - 1) → p < q → (old p b).k < (old q c).k
    later p q b c d = go (cases_lt p a) (cases_lt q a)
      where
        go : (p < a) ⊎ (a ≤ p) → (q < a) ⊎ (a ≤ q) → (old p b).k < (old q c).k
        go (inl x) (inl y) = omega (arith, (old p b).before x, (old q c).before y)
        go (inl x) (inr y) = omega (arith, (old p b).before x, (old q c).behind y)
        go (inr x) (inl y) = absurd (omega arith)
        go (inr x) (inr y) = omega (arith, (old p b).behind x, (old q c).behind y)

    -- the entry that stood at k stands at k or one lower
    kept_entry : (k : ℕ) → k < n → (k ≡ a → ⊥) → (j : ℕ) × (j < n - 1) × (entry Z j ≡ entry Y k)
    kept_entry k b ne = go (cases_lt k a)
      where
        go : (k < a) ⊎ (a ≤ k) → (j : ℕ) × (j < n - 1) × (entry Z j ≡ entry Y k)
        go (inl x) = (k, omega (arith, found_within), C.before k no_entry x)
        go (inr x) =
            let y : k - 1 + 1 ≡ k = omega arith in
            (k - 1, omega arith, C.moved (k - 1) no_entry (omega arith) (omega arith) ∙ ap (entry Y) y)

    pub taken_indexed : Indexed S Z (n - 1)
    taken_indexed =
        record {
          ascending = λ p q b c.
              let d : p < n - 1 = omega arith in
              omega (arith, (old p d).leads.id, (old q c).leads.id, I.ascending (old p d).k (old q c).k (later p q d c b) (old q c).within);
          leading = λ j b. leading_by j b (cases_lt (entry X (old j b).k).row i);
          reaching = λ j b. reaching_by j b (cases_lt j i);
        }
      where
        leading_by : (j : ℕ) (b : j < n - 1) → ((entry X (old j b).k).row < i) ⊎ (i ≤ (entry X (old j b).k).row)
            → ((entry Z j).row < n - 1) × ((at S (entry Z j).row).node.id ≡ (entry Z j).id)
        leading_by j b c =
            let o = old j b in
            let w = I.leading o.k o.within in
            let ne = other o.k o.within (apart j b) in (
              small c,
              ap (λ (x : Node). x.id) (stands (entry X o.k).row (entry Z j).row w.0 o.leads.before o.leads.behind ne) ∙ w.1 ∙ sym o.leads.id,
            )
          where
            small : ((entry X (old j b).k).row < i) ⊎ (i ≤ (entry X (old j b).k).row) → (entry Z j).row < n - 1
            small (inl x) = omega (arith, (old j b).leads.before x)
            small (inr x) =
                let ne = other (old j b).k (old j b).within (apart j b) in
                let y : i < (entry X (old j b).k).row = omega arith in
                omega (arith, (old j b).leads.behind y, (I.leading (old j b).k (old j b).within).0)

        reaching_by : (j : ℕ) → j < n - 1 → (j < i) ⊎ (i ≤ j) → ∥ ((k : ℕ) × (k < n - 1) × ((entry Z k).row ≡ j)) ∥₁
        reaching_by j b (inl x) =
            ∥∥₁_map (I.reaching j (omega arith)) (λ w.
            let u = kept_entry w.0 w.1 (λ e. omega (arith, w.2, W.found found_within, ap (λ (k : ℕ). (entry X k).row) e)) in
            let v = lowered_leads i (entry X w.0) (entry Y w.0) (W.changed.low w.0 w.1) in
            (u.0, u.1, ap (λ (f : RowOf). f.row) u.2 ∙ v.before (omega (arith, w.2)) ∙ w.2))
        reaching_by j b (inr x) =
            ∥∥₁_map (I.reaching (j + 1) (omega arith)) (λ w.
            let u = kept_entry w.0 w.1 (λ e. omega (arith, w.2, W.found found_within, ap (λ (k : ℕ). (entry X k).row) e)) in
            let v = lowered_leads i (entry X w.0) (entry Y w.0) (W.changed.low w.0 w.1) in
            let y = v.behind (omega (arith, w.2)) in
            (u.0, u.1, ap (λ (f : RowOf). f.row) u.2 ∙ omega (arith, y, w.2)))
