-- A change is overridden exactly when one of the rules names it.
use Rattle.std.proofs.Common.{◌≡◌, ℕ, Bool, true, ◌&&◌, ◌||◌, eqb, ltb, ◌⊎◌, List, sym, refl, inl, inr, true≢false}
use Rattle.std.proofs.lemmas.Bool.{or_left, eq-eqb, or_right, or_cases, and_parts, eqb-true, and_from}
use Rattle.records.specs.declared.operations.Code.{Code}
use Rattle.records.specs.declared.operations.Code.TheVariants.{Delete, ReplaceNode, ReplaceContent, InsertBefore, InsertAfter, InsertFirst, InsertInto, InsertLast, InsertAttributes, ReplaceValue, Rename}
use Rattle.document.specs.Tree.{Forest, Label, count_labels, node, nil}
use Rattle.changes.specs.Changes.{Change, same_code}
use Rattle.changes.specs.Overriding.{has_change, stands_below, stands_in_content, stands_in, overridden_from_above, overridden, overridden_on_target, yields_to_deletion, yields_to_replacement, yields_to_content, OverridingRule, deleted_above, replaced_above, content_replaced, content_replaced_above, target_deleted, target_replaced, deleted_before}

-- FROM ABOVE
abbrev AboveRule : List Change → ℕ → Forest → Type 0
AboveRule l t f =
    ((s : ℕ) × (has_change Delete s l ≡ true) × (stands_below s t f ≡ true))
    ⊎ (((s : ℕ) × (has_change ReplaceNode s l ≡ true) × (stands_below s t f ≡ true))
    ⊎ ((s : ℕ) × (has_change ReplaceContent s l ≡ true) × (stands_in_content s t f ≡ true)))

module _ (l : List Change) (t : ℕ) (r : Label) (as' : List Label) (k f : Forest) where
  below_here : (ltb 0 (count_labels t as') || stands_in t k) ≡ true → stands_below r.id t (node r as' k f) ≡ true
  below_here h =
      or_left (eqb r.id r.id && (ltb 0 (count_labels t as') || stands_in t k)) (stands_below r.id t k || stands_below r.id t f) (rw (eq-eqb r.id r.id refl) h)

  content_here : stands_in t k ≡ true → stands_in_content r.id t (node r as' k f) ≡ true
  content_here h = or_left (eqb r.id r.id && stands_in t k) (stands_in_content r.id t k || stands_in_content r.id t f) (rw (eq-eqb r.id r.id refl) h)

  below_inside : (s : ℕ) → stands_below s t k ≡ true → stands_below s t (node r as' k f) ≡ true
  below_inside s h =
      or_right (eqb r.id s && (ltb 0 (count_labels t as') || stands_in t k)) (stands_below s t k || stands_below s t f) (or_left (stands_below s t k) (stands_below s t f) h)

  below_behind : (s : ℕ) → stands_below s t f ≡ true → stands_below s t (node r as' k f) ≡ true
  below_behind s h =
      or_right (eqb r.id s && (ltb 0 (count_labels t as') || stands_in t k)) (stands_below s t k || stands_below s t f) (or_right (stands_below s t k) (stands_below s t f) h)

  content_inside : (s : ℕ) → stands_in_content s t k ≡ true → stands_in_content s t (node r as' k f) ≡ true
  content_inside s h =
      or_right (eqb r.id s && stands_in t k) (stands_in_content s t k || stands_in_content s t f) (or_left (stands_in_content s t k) (stands_in_content s t f) h)

  content_behind : (s : ℕ) → stands_in_content s t f ≡ true → stands_in_content s t (node r as' k f) ≡ true
  content_behind s h =
      or_right (eqb r.id s && stands_in t k) (stands_in_content s t k || stands_in_content s t f) (or_right (stands_in_content s t k) (stands_in_content s t f) h)

  rule_inside : AboveRule l t k → AboveRule l t (node r as' k f)
  rule_inside (inl (s, h, b)) = inl (s, h, below_inside s b)
  rule_inside (inr (inl (s, h, b))) = inr (inl (s, h, below_inside s b))
  rule_inside (inr (inr (s, h, b))) = inr (inr (s, h, content_inside s b))

  rule_behind : AboveRule l t f → AboveRule l t (node r as' k f)
  rule_behind (inl (s, h, b)) = inl (s, h, below_behind s b)
  rule_behind (inr (inl (s, h, b))) = inr (inl (s, h, below_behind s b))
  rule_behind (inr (inr (s, h, b))) = inr (inr (s, h, content_behind s b))

rule_above : (l : List Change) (t : ℕ) (f : Forest) → overridden_from_above l t f ≡ true → AboveRule l t f
rule_above l t nil h = absurd (true≢false (sym h))
rule_above l t (node r as' k f) h = split (or_cases A (B || (C || D)) h) (rule_above l t k) (rule_above l t f)
  where
    A : Bool
    A = (has_change Delete r.id l || has_change ReplaceNode r.id l) && (ltb 0 (count_labels t as') || stands_in t k)

    B : Bool
    B = has_change ReplaceContent r.id l && stands_in t k

    C : Bool
    C = overridden_from_above l t k

    D : Bool
    D = overridden_from_above l t f

    goes : (has_change Delete r.id l ≡ true) ⊎ (has_change ReplaceNode r.id l ≡ true) → (ltb 0 (count_labels t as') || stands_in t k) ≡ true
        → AboveRule l t (node r as' k f)
    goes (inl a) b = inl (r.id, a, below_here l t r as' k f b)
    goes (inr a) b = inr (inl (r.id, a, below_here l t r as' k f b))

    deeper : (C ≡ true) ⊎ (D ≡ true) → (C ≡ true → AboveRule l t k) → (D ≡ true → AboveRule l t f) → AboveRule l t (node r as' k f)
    deeper (inl a) p q = rule_inside l t r as' k f (p a)
    deeper (inr a) p q = rule_behind l t r as' k f (q a)

    later : (B ≡ true) ⊎ ((C || D) ≡ true) → (C ≡ true → AboveRule l t k) → (D ≡ true → AboveRule l t f) → AboveRule l t (node r as' k f)
    later (inl a) p q = let u = and_parts (has_change ReplaceContent r.id l) (stands_in t k) a in inr (inr (r.id, u.0, content_here l t r as' k f u.1))
    later (inr a) p q = deeper (or_cases C D a) p q

    split : (A ≡ true) ⊎ ((B || (C || D)) ≡ true) → (C ≡ true → AboveRule l t k) → (D ≡ true → AboveRule l t f) → AboveRule l t (node r as' k f)
    split (inl a) p q =
        let u = and_parts (has_change Delete r.id l || has_change ReplaceNode r.id l) (ltb 0 (count_labels t as') || stands_in t k) a in
        goes (or_cases (has_change Delete r.id l) (has_change ReplaceNode r.id l) u.0) u.1
    split (inr a) p q = later (or_cases B (C || D) a) p q

-- a node above that goes overrides
removed_above : (l : List Change) (s t : ℕ) (f : Forest) → (has_change Delete s l || has_change ReplaceNode s l) ≡ true → stands_below s t f ≡ true
    → overridden_from_above l t f ≡ true
removed_above l s t nil h b = absurd (true≢false (sym b))
removed_above l s t (node r as' k f) h b =
    split (or_cases (eqb r.id s && (ltb 0 (count_labels t as') || stands_in t k)) (stands_below s t k || stands_below s t f) b) (removed_above l s t k h) (removed_above l s t f h)
  where
    A : Bool
    A = (has_change Delete r.id l || has_change ReplaceNode r.id l) && (ltb 0 (count_labels t as') || stands_in t k)

    B : Bool
    B = has_change ReplaceContent r.id l && stands_in t k

    C : Bool
    C = overridden_from_above l t k

    D : Bool
    D = overridden_from_above l t f

    deeper : (stands_below s t k ≡ true) ⊎ (stands_below s t f ≡ true) → (stands_below s t k ≡ true → C ≡ true) → (stands_below s t f ≡ true → D ≡ true)
        → (A || (B || (C || D))) ≡ true
    deeper (inl a) p q = or_right A (B || (C || D)) (or_right B (C || D) (or_left C D (p a)))
    deeper (inr a) p q = or_right A (B || (C || D)) (or_right B (C || D) (or_right C D (q a)))

    split : ((eqb r.id s && (ltb 0 (count_labels t as') || stands_in t k)) ≡ true) ⊎ ((stands_below s t k || stands_below s t f) ≡ true)
        → (stands_below s t k ≡ true → C ≡ true) → (stands_below s t f ≡ true → D ≡ true) → (A || (B || (C || D))) ≡ true
    split (inl a) p q =
        let u = and_parts (eqb r.id s) (ltb 0 (count_labels t as') || stands_in t k) a in
        let v : (has_change Delete r.id l || has_change ReplaceNode r.id l) ≡ true = rw (eqb-true r.id s u.0) h in
        or_left A (B || (C || D)) (and_from (has_change Delete r.id l || has_change ReplaceNode r.id l) (ltb 0 (count_labels t as') || stands_in t k) v u.1)
    split (inr a) p q = deeper (or_cases (stands_below s t k) (stands_below s t f) a) p q

content_above : (l : List Change) (s t : ℕ) (f : Forest) → has_change ReplaceContent s l ≡ true → stands_in_content s t f ≡ true → overridden_from_above l t f ≡ true
content_above l s t nil h b = absurd (true≢false (sym b))
content_above l s t (node r as' k f) h b =
    split (or_cases (eqb r.id s && stands_in t k) (stands_in_content s t k || stands_in_content s t f) b) (content_above l s t k h) (content_above l s t f h)
  where
    A : Bool
    A = (has_change Delete r.id l || has_change ReplaceNode r.id l) && (ltb 0 (count_labels t as') || stands_in t k)

    B : Bool
    B = has_change ReplaceContent r.id l && stands_in t k

    C : Bool
    C = overridden_from_above l t k

    D : Bool
    D = overridden_from_above l t f

    deeper : (stands_in_content s t k ≡ true) ⊎ (stands_in_content s t f ≡ true) → (stands_in_content s t k ≡ true → C ≡ true) → (stands_in_content s t f ≡ true → D ≡ true)
        → (A || (B || (C || D))) ≡ true
    deeper (inl a) p q = or_right A (B || (C || D)) (or_right B (C || D) (or_left C D (p a)))
    deeper (inr a) p q = or_right A (B || (C || D)) (or_right B (C || D) (or_right C D (q a)))

    split : ((eqb r.id s && stands_in t k) ≡ true) ⊎ ((stands_in_content s t k || stands_in_content s t f) ≡ true)
        → (stands_in_content s t k ≡ true → C ≡ true) → (stands_in_content s t f ≡ true → D ≡ true) → (A || (B || (C || D))) ≡ true
    split (inl a) p q =
        let u = and_parts (eqb r.id s) (stands_in t k) a in
        let v : has_change ReplaceContent r.id l ≡ true = rw (eqb-true r.id s u.0) h in
        or_right A (B || (C || D)) (or_left B (C || D) (and_from (has_change ReplaceContent r.id l) (stands_in t k) v u.1))
    split (inr a) p q = deeper (or_cases (stands_in_content s t k) (stands_in_content s t f) a) p q

-- ON THE TARGET
either_or : {A B C : Type 0} → A ⊎ B → (A → C) → (B → C) → C
either_or (inl a) p q = p a
either_or (inr b) p q = q b

on_target_rule : (c : Code) (del rep con early : Bool) → overridden_on_target c del rep con early ≡ true
    → ((del ≡ true) × (yields_to_deletion c ≡ true)) ⊎ (((rep ≡ true) × (yields_to_replacement c ≡ true)) ⊎ (((con ≡ true) × (yields_to_content c ≡ true)) ⊎ ((early ≡ true)
    × (same_code c Delete ≡ true))))
on_target_rule InsertBefore del rep con early h = absurd (true≢false (sym h))
on_target_rule InsertAfter del rep con early h = absurd (true≢false (sym h))
on_target_rule InsertFirst del rep con early h = either_or (or_cases (del || rep) con h) (λ p. either_or (or_cases del rep p) (λ q. inl (
  q,
  refl,
)) (λ q. inr (inl (q, refl)))) (λ p. inr (inr (inl (p, refl))))
on_target_rule InsertInto del rep con early h = either_or (or_cases (del || rep) con h) (λ p. either_or (or_cases del rep p) (λ q. inl (
  q,
  refl,
)) (λ q. inr (inl (q, refl)))) (λ p. inr (inr (inl (p, refl))))
on_target_rule InsertLast del rep con early h = either_or (or_cases (del || rep) con h) (λ p. either_or (or_cases del rep p) (λ q. inl (
  q,
  refl,
)) (λ q. inr (inl (q, refl)))) (λ p. inr (inr (inl (p, refl))))
on_target_rule InsertAttributes del rep con early h = either_or (or_cases del rep h) (λ q. inl (q, refl)) (λ q. inr (inl (q, refl)))
on_target_rule Delete del rep con early h = either_or (or_cases rep early h) (λ p. inr (inl (p, refl))) (λ p. inr (inr (inr (p, refl))))
on_target_rule ReplaceNode del rep con early h = absurd (true≢false (sym h))
on_target_rule ReplaceValue del rep con early h = either_or (or_cases del rep h) (λ q. inl (q, refl)) (λ q. inr (inl (q, refl)))
on_target_rule ReplaceContent del rep con early h = either_or (or_cases del rep h) (λ q. inl (q, refl)) (λ q. inr (inl (q, refl)))
on_target_rule Rename del rep con early h = either_or (or_cases del rep h) (λ q. inl (q, refl)) (λ q. inr (inl (q, refl)))

by_deletion : (c : Code) (del rep con early : Bool) → del ≡ true → yields_to_deletion c ≡ true → overridden_on_target c del rep con early ≡ true
by_deletion InsertBefore del rep con early p q = absurd (true≢false (sym q))
by_deletion InsertAfter del rep con early p q = absurd (true≢false (sym q))
by_deletion InsertFirst del rep con early p q = or_left (del || rep) con (or_left del rep p)
by_deletion InsertInto del rep con early p q = or_left (del || rep) con (or_left del rep p)
by_deletion InsertLast del rep con early p q = or_left (del || rep) con (or_left del rep p)
by_deletion InsertAttributes del rep con early p q = or_left del rep p
by_deletion Delete del rep con early p q = absurd (true≢false (sym q))
by_deletion ReplaceNode del rep con early p q = absurd (true≢false (sym q))
by_deletion ReplaceValue del rep con early p q = or_left del rep p
by_deletion ReplaceContent del rep con early p q = or_left del rep p
by_deletion Rename del rep con early p q = or_left del rep p

by_replacement : (c : Code) (del rep con early : Bool) → rep ≡ true → yields_to_replacement c ≡ true → overridden_on_target c del rep con early ≡ true
by_replacement InsertBefore del rep con early p q = absurd (true≢false (sym q))
by_replacement InsertAfter del rep con early p q = absurd (true≢false (sym q))
by_replacement InsertFirst del rep con early p q = or_left (del || rep) con (or_right del rep p)
by_replacement InsertInto del rep con early p q = or_left (del || rep) con (or_right del rep p)
by_replacement InsertLast del rep con early p q = or_left (del || rep) con (or_right del rep p)
by_replacement InsertAttributes del rep con early p q = or_right del rep p
by_replacement Delete del rep con early p q = or_left rep early p
by_replacement ReplaceNode del rep con early p q = absurd (true≢false (sym q))
by_replacement ReplaceValue del rep con early p q = or_right del rep p
by_replacement ReplaceContent del rep con early p q = or_right del rep p
by_replacement Rename del rep con early p q = or_right del rep p

by_content : (c : Code) (del rep con early : Bool) → con ≡ true → yields_to_content c ≡ true → overridden_on_target c del rep con early ≡ true
by_content InsertBefore del rep con early p q = absurd (true≢false (sym q))
by_content InsertAfter del rep con early p q = absurd (true≢false (sym q))
by_content InsertFirst del rep con early p q = or_right (del || rep) con p
by_content InsertInto del rep con early p q = or_right (del || rep) con p
by_content InsertLast del rep con early p q = or_right (del || rep) con p
by_content InsertAttributes del rep con early p q = absurd (true≢false (sym q))
by_content Delete del rep con early p q = absurd (true≢false (sym q))
by_content ReplaceNode del rep con early p q = absurd (true≢false (sym q))
by_content ReplaceValue del rep con early p q = absurd (true≢false (sym q))
by_content ReplaceContent del rep con early p q = absurd (true≢false (sym q))
by_content Rename del rep con early p q = absurd (true≢false (sym q))

by_earlier : (c : Code) (del rep con early : Bool) → early ≡ true → same_code c Delete ≡ true → overridden_on_target c del rep con early ≡ true
by_earlier InsertBefore del rep con early p q = absurd (true≢false (sym q))
by_earlier InsertAfter del rep con early p q = absurd (true≢false (sym q))
by_earlier InsertFirst del rep con early p q = absurd (true≢false (sym q))
by_earlier InsertInto del rep con early p q = absurd (true≢false (sym q))
by_earlier InsertLast del rep con early p q = absurd (true≢false (sym q))
by_earlier InsertAttributes del rep con early p q = absurd (true≢false (sym q))
by_earlier Delete del rep con early p q = or_right rep early p
by_earlier ReplaceNode del rep con early p q = absurd (true≢false (sym q))
by_earlier ReplaceValue del rep con early p q = absurd (true≢false (sym q))
by_earlier ReplaceContent del rep con early p q = absurd (true≢false (sym q))
by_earlier Rename del rep con early p q = absurd (true≢false (sym q))

-- BOTH WAYS
module _ (d : Forest) (l e : List Change) (o : Change) where
  del : Bool
  del = has_change Delete o.target l

  rep : Bool
  rep = has_change ReplaceNode o.target l

  con : Bool
  con = has_change ReplaceContent o.target l

  early : Bool
  early = has_change Delete o.target e

  by_above : AboveRule l o.target d → OverridingRule d l e o
  by_above (inl (s, h, b)) = deleted_above s h b
  by_above (inr (inl (s, h, b))) = replaced_above s h b
  by_above (inr (inr (s, h, b))) = content_replaced_above s h b

  pub rule_found : overridden d l e o ≡ true → OverridingRule d l e o
  unfolding del rep con early
  rule_found h = go (or_cases (overridden_from_above l o.target d) (overridden_on_target o.code del rep con early) h)
    where
      here : ((del ≡ true) × (yields_to_deletion o.code ≡ true)) ⊎ (((rep ≡ true) × (yields_to_replacement o.code ≡ true))
          ⊎ (((con ≡ true) × (yields_to_content o.code ≡ true)) ⊎ ((early ≡ true) × (same_code o.code Delete ≡ true)))) → OverridingRule d l e o
      here (inl (p, q)) = target_deleted p q
      here (inr (inl (p, q))) = target_replaced p q
      here (inr (inr (inl (p, q)))) = content_replaced p q
      here (inr (inr (inr (p, q)))) = deleted_before p q

      go : (overridden_from_above l o.target d ≡ true) ⊎ (overridden_on_target o.code del rep con early ≡ true) → OverridingRule d l e o
      go (inl p) = by_above (rule_above l o.target d p)
      go (inr p) = here (on_target_rule o.code del rep con early p)

  above : overridden_from_above l o.target d ≡ true → overridden d l e o ≡ true
  above h = or_left (overridden_from_above l o.target d) _ h

  on_it : overridden_on_target o.code del rep con early ≡ true → overridden d l e o ≡ true
  unfolding del rep con early
  on_it h = or_right (overridden_from_above l o.target d) (overridden_on_target o.code del rep con early) h

  pub rule_overrides : OverridingRule d l e o → overridden d l e o ≡ true
  unfolding del rep con early
  rule_overrides (deleted_above s h b) = above (removed_above l s o.target d (or_left (has_change Delete s l) (has_change ReplaceNode s l) h) b)
  rule_overrides (replaced_above s h b) = above (removed_above l s o.target d (or_right (has_change Delete s l) (has_change ReplaceNode s l) h) b)
  rule_overrides (content_replaced_above s h b) = above (content_above l s o.target d h b)
  rule_overrides (target_deleted p q) = on_it (by_deletion o.code del rep con early p q)
  rule_overrides (target_replaced p q) = on_it (by_replacement o.code del rep con early p q)
  rule_overrides (content_replaced p q) = on_it (by_content o.code del rep con early p q)
  rule_overrides (deleted_before p q) = on_it (by_earlier o.code del rep con early p q)
