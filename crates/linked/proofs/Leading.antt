-- One row, as the links that are led elsewhere leave it.
use Rattle.std.proofs.Common.{◌≡◌, ℕ, Bool, true, false, cond, ◌&&◌, eqb, ◌⊎◌, Some, Option, refl, ◌∙◌, inl, inr}
use Rattle.std.specs.Option.{option_map}
use Rattle.std.proofs.lemmas.Bool.{eq-eqb, ne_eqb, cases_eq}
use Rattle.store.specs.Views.{View}
use Rattle.linked.specs.declared.row.Row.{Row}
use Rattle.linked.specs.declared.row.Siblings.TheVariants.{Children, Attributes}
use Rattle.linked.specs.Rows.{row, row_of, with_left, with_first, with_next}
use Rattle.linked.specs.Tables.{Lookup, changed, led}

-- by the tests on its identifier: a change by f where b, then by g where c
abbrev twice : Bool → Bool → (Row → Row) → (Row → Row) → Option Row → Option Row
twice b c f g o = cond c (option_map g (cond b (option_map f o) o)) (cond b (option_map f o) o)

first_changed : (b c : Bool) (v : View) (s t : ℕ)
    → twice b c (with_first Children t) (with_left s) (Some (row_of v))
    ≡ Some (row v.row (cond c s v.left) (cond (b && true) t v.first_child) v.next_sibling v.first_attribute v.next_attribute)
first_changed true true v s t = refl
first_changed true false v s t = refl
first_changed false true v s t = refl
first_changed false false v s t = refl

next_changed : (a b c : Bool) (v : View) (s t : ℕ)
    → twice b c (with_next Children t) (with_left s) (Some (row_of v))
    ≡ Some (row v.row (cond c s v.left) (cond (a && false) t v.first_child) (cond b t v.next_sibling) v.first_attribute v.next_attribute)
next_changed true true true v s t = refl
next_changed true true false v s t = refl
next_changed true false true v s t = refl
next_changed true false false v s t = refl
next_changed false true true v s t = refl
next_changed false true false v s t = refl
next_changed false false true v s t = refl
next_changed false false false v s t = refl

first_attribute_changed : (b : Bool) (v : View) (t : ℕ)
    → cond b (option_map (with_first Attributes t) (Some (row_of v))) (Some (row_of v)) ≡ Some (row v.row v.left v.first_child v.next_sibling (cond (b && true) t v.first_attribute) v.next_attribute)
first_attribute_changed true v t = refl
first_attribute_changed false v t = refl

next_attribute_changed : (a b : Bool) (v : View) (t : ℕ)
    → cond b (option_map (with_next Attributes t) (Some (row_of v))) (Some (row_of v))
    ≡ Some (row v.row v.left v.first_child v.next_sibling (cond (a && false) t v.first_attribute) (cond b t v.next_attribute))
next_attribute_changed true true v t = refl
next_attribute_changed true false v t = refl
next_attribute_changed false true v t = refl
next_attribute_changed false false v t = refl

module _ (look : Lookup) (p before t u : ℕ) where
  -- a child's place led to t, and the child `next` led back to s
  pub child_led : (s next : ℕ) (v : View) → look u ≡ Some (row_of v) → (u ≡ 0 → ⊥)
      → changed next (with_left s) (led Children p before t look) u
      ≡ Some (row v.row (cond (eqb u next) s v.left) (cond (eqb u p && eqb before 0) t v.first_child) (cond (eqb u before) t v.next_sibling) v.first_attribute v.next_attribute)
  child_led s next v h there = go (cases_eq before 0)
    where
      go : (before ≡ 0) ⊎ (before ≡ 0 → ⊥)
          → changed next (with_left s) (led Children p before t look) u
          ≡ Some (row v.row (cond (eqb u next) s v.left) (cond (eqb u p && eqb before 0) t v.first_child) (cond (eqb u before) t v.next_sibling) v.first_attribute v.next_attribute)
      go (inl z) = let e = eq-eqb before 0 z in let f = ne_eqb u before (λ q. there (q ∙ z)) in rw (e, f, h) (first_changed (eqb u p) (eqb u next) v s t)
      go (inr z) = let e = ne_eqb before 0 z in rw (e, h) (next_changed (eqb u p) (eqb u before) (eqb u next) v s t)

  -- an attribute's place led to t; no child has the identifier 0
  pub attribute_led : (s : ℕ) (v : View) → look u ≡ Some (row_of v) → (u ≡ 0 → ⊥)
      → changed 0 (with_left s) (led Attributes p before t look) u
      ≡ Some (row v.row v.left v.first_child v.next_sibling (cond (eqb u p && eqb before 0) t v.first_attribute) (cond (eqb u before) t v.next_attribute))
  attribute_led s v h there = rw (ne_eqb u 0 there) (go (cases_eq before 0))
    where
      go : (before ≡ 0) ⊎ (before ≡ 0 → ⊥)
          → led Attributes p before t look u
          ≡ Some (row v.row v.left v.first_child v.next_sibling (cond (eqb u p && eqb before 0) t v.first_attribute) (cond (eqb u before) t v.next_attribute))
      go (inl z) = let e = eq-eqb before 0 z in let f = ne_eqb u before (λ q. there (q ∙ z)) in rw (e, f, h) (first_attribute_changed (eqb u p) v t)
      go (inr z) = let e = ne_eqb before 0 z in rw (e, h) (next_attribute_changed (eqb u p) (eqb u before) v t)
