-- What the shape of a row of trees tells of its parts.
use Rattle.std.proofs.Common.{◌≡◌, ℕ, ◌+◌, ◌<◌, ◌≤◌, Bool, true, false, cond, eqb, ltb, List, [], ◌∷◌, Some, sym, refl, ap, ◌∙◌, arith}
use Rattle.std.proofs.lemmas.Bool.{ltb-true, and_parts, both_ways, eq-eqb, ne_eqb}
use Rattle.std.proofs.lemmas.Bool.Decides.{nat_tests}
use Rattle.records.specs.declared.nodes.Kind.{Kind}
use Rattle.records.specs.declared.nodes.Kind.TheVariants.{Element, Attribute, Text}
use Rattle.records.specs.Formed.{fields_suit_kind}
use Rattle.document.specs.Tree.{Label, Forest, nil, node, one, count_labels, count, Above, Formed, Attributes, Holds}
use Rattle.document.specs.Table.{is_attribute}
use Rattle.document.proofs.Counting.{one_zero}
use Rattle.store.specs.Kept.{Shaped}
use Rattle.store.specs.Views.{View, first_of, first_label, attribute_view, view_attribute}
use Rattle.store.specs.Writes.{insert_label, lacking}

-- identifiers are above 0, so 0 says that there is none
pub above_zero : (r : Label) → Formed r → 0 < r.id
above_zero r h = ltb-true 0 r.id (and_parts (ltb 0 r.id) (fields_suit_kind r.kind r.name r.value) h).0

pub no_first : (k : Forest) → Shaped k → first_of k ≡ 0 → k ≡ nil
no_first nil s e = refl
no_first (node r as' k f) s e = absurd (omega (arith, above_zero r s.0, e))

pub no_label : (as' : List Label) → Attributes as' → first_label as' ≡ 0 → as' ≡ []
no_label [] a e = refl
no_label (r ∷ l) a e = absurd (omega (arith, above_zero r a.1, e))

-- a node that is seen among attributes is one
pub label_kind : (t p : ℕ) (as' : List Label) (v : View) → Attributes as' → view_attribute t p as' ≡ Some v → v.row.kind ≡ Attribute
label_kind t p [] v a e = let z : ◌≡◌ {A = ℕ} 0 1 = cc in absurd (omega arith)
label_kind t p (r ∷ l) v a e = go (eqb r.id t) e (label_kind t p l v a.2)
  where
    go : (b : Bool) → cond b (Some (attribute_view p r l)) (view_attribute t p l) ≡ Some v → (view_attribute t p l ≡ Some v → v.row.kind ≡ Attribute) → v.row.kind ≡ Attribute
    go true e h = let w : attribute_view p r l ≡ v = cc in ap (λ (u : View). u.row.kind) (sym w) ∙ a.0
    go false e h = h e

-- a childless node that is no attribute may stand anywhere
pub holds_nothing : (c : Kind) → is_attribute c ≡ false → Holds c [] nil
holds_nothing Element h = tt
holds_nothing Text h = (refl, refl)
holds_nothing Attribute h = absurd (both_ways true h refl)

pub holds_element : (c : Kind) (as' : List Label) (k : Forest) → c ≡ Element → Holds c as' k
holds_element c as' k e = rw e tt

-- what has children is an element, and may have others
pub holds_others : (t : ℕ) (c : Kind) (as' : List Label) (k k' : Forest) → Holds c as' k → 1 ≤ count t k → Holds c as' k'
holds_others t Element as' k k' h o = tt
holds_others t Text as' k k' h o = absurd (omega (arith, ap (count t) h.1))
holds_others t Attribute as' k k' h o = h

pub holds_other_labels : (t : ℕ) (c : Kind) (as' bs : List Label) (k : Forest) → Holds c as' k → 1 ≤ count_labels t as' → Holds c bs k
holds_other_labels t Element as' bs k h o = tt
holds_other_labels t Text as' bs k h o = absurd (omega (arith, ap (count_labels t) h.0))
holds_other_labels t Attribute as' bs k h o = h

-- two identifiers that differ
pub strictly_below : (a b : ℕ) → ltb b a ≡ false → eqb a b ≡ false → a < b
strictly_below a b e f = grind (arith, nat_tests)

-- attributes with one more
pub attributes_more : (x : Label) (as' : List Label) → x.kind ≡ Attribute → Formed x → Attributes as' → Attributes (insert_label x as')
attributes_more x [] e f a = (e, f, tt)
attributes_more x (r ∷ l) e f a = go (ltb x.id r.id) (attributes_more x l e f a.2)
  where
    go : (b : Bool) → Attributes (insert_label x l) → Attributes (cond b (x ∷ (r ∷ l)) (r ∷ insert_label x l))
    go true h = (e, f, a)
    go false h = (a.0, a.1, h)

pub above_more : (n : ℕ) (x : Label) (as' : List Label) → n < x.id → count_labels x.id as' ≡ 0 → Above n as' → Above n (insert_label x as')
above_more n x [] h z a = (h, tt)
above_more n x (r ∷ l) h z a = go (ltb x.id r.id) refl (eqb r.id x.id) refl (above_more r.id x l)
  where
    go : (b : Bool) → ltb x.id r.id ≡ b → (c : Bool) → eqb r.id x.id ≡ c
        → (r.id < x.id → count_labels x.id l ≡ 0 → Above r.id l → Above r.id (insert_label x l)) → Above n (cond b (x ∷ (r ∷ l)) (r ∷ insert_label x l))
    go true e c f ih = (h, (ltb-true x.id r.id e, a.1))
    go false e true f ih = absurd (omega (arith, ap one f))
    go false e false f ih =
        (a.0, ih (strictly_below r.id x.id e f) (omega arith) a.1)

-- and with one fewer
pub attributes_fewer : (t : ℕ) (as' : List Label) → Attributes as' → Attributes (lacking t as')
attributes_fewer t [] a = tt
attributes_fewer t (r ∷ l) a = go (eqb r.id t) (attributes_fewer t l a.2)
  where
    go : (b : Bool) → Attributes (lacking t l) → Attributes (cond b (lacking t l) (r ∷ lacking t l))
    go true h = h
    go false h = (a.0, a.1, h)

above_less : (m n : ℕ) (as' : List Label) → m < n → Above n as' → Above m as'
above_less m n [] h a = tt
above_less m n (r ∷ l) h a = (omega (arith, a.0), a.1)

pub above_fewer : (t n : ℕ) (as' : List Label) → Above n as' → Above n (lacking t as')
above_fewer t n [] a = tt
above_fewer t n (r ∷ l) a = go (eqb r.id t) (above_fewer t r.id l a.1)
  where
    go : (b : Bool) → Above r.id (lacking t l) → Above n (cond b (lacking t l) (r ∷ lacking t l))
    go true h = above_less n r.id (lacking t l) a.0 h
    go false h = (a.0, h)

pub lacking_none : (t : ℕ) (as' : List Label) → count_labels t as' ≡ 0 → lacking t as' ≡ as'
lacking_none t [] z = refl
lacking_none t (r ∷ l) z = go (eqb r.id t) z (lacking_none t l)
  where
    go : (b : Bool) → one b + count_labels t l ≡ 0 → (count_labels t l ≡ 0 → lacking t l ≡ l) → cond b (lacking t l) (r ∷ lacking t l) ≡ r ∷ l
    go true z h = absurd (omega arith)
    go false z h = rw (h (omega arith))

-- what is inserted is what lacks
pub lacking_inserted : (x : Label) (as' : List Label) → count_labels x.id as' ≡ 0 → lacking x.id (insert_label x as') ≡ as'
lacking_inserted x [] z = rw (eq-eqb x.id x.id refl)
lacking_inserted x (r ∷ l) z = go (ltb x.id r.id) (lacking_inserted x l (omega arith))
  where
    other : eqb r.id x.id ≡ false
    other = one_zero (eqb r.id x.id) (omega arith)

    go : (b : Bool) → lacking x.id (insert_label x l) ≡ l → lacking x.id (cond b (x ∷ (r ∷ l)) (r ∷ insert_label x l)) ≡ r ∷ l
    go true h = rw (eq-eqb x.id x.id refl) (lacking_none x.id (r ∷ l) z)
    go false h = rw (other, h)

-- no node has the identifier 0
pub no_zero_labels : (as' : List Label) → Attributes as' → count_labels 0 as' ≡ 0
no_zero_labels [] a = refl
no_zero_labels (r ∷ l) a = rw (ne_eqb r.id 0 (λ e. omega (arith, above_zero r a.1))) (omega (arith, no_zero_labels l a.2))

pub no_zero : (d : Forest) → Shaped d → count 0 d ≡ 0
no_zero nil s = refl
no_zero (node r as' k f) s =
    rw (ne_eqb r.id 0 (λ e. omega (arith, above_zero r s.0))) (omega (arith, no_zero_labels as' s.2, no_zero k s.4, no_zero f s.5))
