-- A row linked out stands for a node taken out.
use Rattle.std.proofs.Common.{◌≡◌, ℕ, true, false, eqb, ◌⊎◌, Some, None, Ok, Option, sym, refl, ap, ◌∙◌, inl, inr}
use Rattle.std.specs.Option.{option_map}
use Rattle.std.proofs.lemmas.Bool.{eq-eqb, ne_eqb, cases_eq, cond-true, cond-false, true≢false}
use Rattle.records.specs.declared.nodes.Kind.{Kind}
use Rattle.records.specs.declared.nodes.Kind.TheVariants.{Element, Attribute, Text}
use Rattle.document.specs.Tree.{Forest}
use Rattle.document.specs.Table.{is_attribute}
use Rattle.store.specs.Kept.{Kept}
use Rattle.store.specs.Views.{View, view}
use Rattle.store.specs.Says.{take_says, take_leaves}
use Rattle.store.specs.Links.{attribute_before, relinked_past, relinked_past_child, relinked_past_attribute}
use Rattle.store.proofs.Questions.{seen_id}
use Rattle.store.proofs.Relinking.{take_relinks}
use Rattle.store.proofs.Standing.{NodeStands, AttributeStands, stands}
use Rattle.linked.specs.declared.row.Siblings.{Siblings}
use Rattle.linked.specs.declared.row.Siblings.TheVariants.{Children, Attributes}
use Rattle.linked.specs.Rows.{row_of, with_left, next_among, siblings_of}
use Rattle.linked.specs.Tables.{Lookup, changed, led, led_around, linked_out}
use Rattle.linked.specs.Stores.{rows_of}
use Rattle.linked.specs.Places.{stands_behind}
use Rattle.linked.proofs.Finding.{none_around}
use Rattle.linked.proofs.Leading.{child_led, attribute_led}
use Rattle.linked.proofs.Putting.{nonzero}

module _ (d : Forest) (t : ℕ) (w : View) (kept : Kept d) (at : view d t ≡ Some w) (ok : take_says d t ≡ Ok tt) where
  -- the links that the removal of w leads elsewhere
  abbrev relink : Siblings → ℕ → Lookup
  relink among before = led_around among before (row_of w) (next_among among (row_of w)) w.left (rows_of d)

  others : (among : Siblings) (before u : ℕ) → (u ≡ t → ⊥)
      → ((v : View) → view d u ≡ Some v → relink among before u ≡ Some (row_of (relinked_past d t w u v))) → relink among before u ≡ rows_of (take_leaves d t) u
  others among before u ne f = go (view d u) refl ∙ ap (option_map row_of) (sym ((take_relinks d t w kept at ok).1 u ne))
    where
      go : (o : Option View) → view d u ≡ o → relink among before u ≡ option_map row_of (option_map (relinked_past d t w u) (view d u))
      go None h =
          let z : rows_of d u ≡ None = ap (option_map row_of) h in
          none_around among w.row.parent before (next_among among (row_of w)) w.next_sibling w.left (rows_of d) u z
          ∙ ap (λ (o : Option View). option_map row_of (option_map (relinked_past d t w u) o)) (sym h)
      go (Some v) h = f v h ∙ ap (λ (o : Option View). option_map row_of (option_map (relinked_past d t w u) o)) (sym h)

  abbrev pub Shown : Siblings → Type 0
  Shown among = (u : ℕ) → linked_out among (stands_behind d among (row_of w)) (row_of w) (rows_of d) u ≡ rows_of (take_leaves d t) u

  by_identifier : (among : Siblings) → ((u : ℕ) → (u ≡ t → ⊥) → relink among (stands_behind d among (row_of w)) u ≡ rows_of (take_leaves d t) u) → Shown among
  by_identifier among f u = go (cases_eq u w.row.id)
    where
      id : w.row.id ≡ t
      id = seen_id t 0 0 d w at

      go : (u ≡ w.row.id) ⊎ (u ≡ w.row.id → ⊥) → linked_out among (stands_behind d among (row_of w)) (row_of w) (rows_of d) u ≡ rows_of (take_leaves d t) u
      go (inl q) = cond-true (eqb u w.row.id) _ _ (eq-eqb u w.row.id q) ∙ ap (option_map row_of) (sym (ap (view (take_leaves d t)) (q ∙ id) ∙ (take_relinks d t w kept at ok).0))
      go (inr q) = cond-false (eqb u w.row.id) _ _ (ne_eqb u w.row.id q) ∙ f u (λ z. q (z ∙ sym id))

  child_shown : is_attribute w.row.kind ≡ false → Shown Children
  child_shown k = by_identifier Children (λ u ne. others Children w.left u ne (λ v h.
      child_led (rows_of d) w.row.parent w.left w.next_sibling u w.left w.next_sibling v (ap (option_map row_of) h) (nonzero d kept u v h)
      ∙ ap (λ (x : View). Some (row_of x)) (sym (cond-false (is_attribute w.row.kind) (relinked_past_attribute w (attribute_before d w.row.parent t) u v) (relinked_past_child w u v) k))))

  attribute_shown : is_attribute w.row.kind ≡ true → w.next_sibling ≡ 0 → Shown Attributes
  attribute_shown k z = by_identifier Attributes (λ u ne. others Attributes (attribute_before d w.row.parent w.row.id) u ne (λ v h.
      let m : ℕ = attribute_before d w.row.parent w.row.id in
      ap (λ (i : ℕ). changed i (with_left w.left) (led Attributes w.row.parent m w.next_attribute (rows_of d)) u) z
      ∙ attribute_led (rows_of d) w.row.parent m w.next_attribute u w.left v (ap (option_map row_of) h) (nonzero d kept u v h)
      ∙ ap (λ (i : ℕ). Some (row_of (relinked_past_attribute w (attribute_before d w.row.parent i) u v))) (seen_id t 0 0 d w at)
      ∙ ap (λ (x : View). Some (row_of x)) (sym (cond-true (is_attribute w.row.kind) (relinked_past_attribute w (attribute_before d w.row.parent t) u v) (relinked_past_child w u v) k))))

  pub take_shown : Shown (siblings_of w.row.kind)
  take_shown = go w.row.kind refl (stands d kept t w at)
    where
      go : (c : Kind) → w.row.kind ≡ c → NodeStands d t w ⊎ AttributeStands d t w → Shown (siblings_of c)
      go Element e s = child_shown (ap is_attribute e)
      go Text e s = child_shown (ap is_attribute e)
      go Attribute e (inl n) = absurd (true≢false (sym (ap is_attribute e) ∙ n.kind))
      go Attribute e (inr a) = attribute_shown a.kind a.next
