-- What a store holds is a fact without choices: it can be had from its truncation.
use Rattle.std.proofs.Common.{◌≡◌, ℕ, Bool, true, false, ◌&&◌, ltb, List, [], ◌∷◌, refl, ap}
use mathlib.Core.Logic.{∥∥₁_elim}
use base.Stored.{coded_list, coded_bool}
use denote.Struct.Props.{props, ≡_prop}
use Rattle.std.proofs.lemmas.Bool.{ltb-true, lt-ltb, and_parts, and_from}
use Rattle.records.specs.Formed.{fields_suit_kind}
use Rattle.records.specs.declared.nodes.Kind.{Kind}
use Rattle.records.specs.declared.nodes.Kind.TheVariants.{Element, Attribute, Text}
use Rattle.records.specs.contracts.nodes.Node.{the_row}
use Rattle.document.specs.Tree.{Label, Forest, nil, node, Above, Attributes, Holds}
use Rattle.document.specs.Table.{is_attribute}
use Rattle.ordered.specs.declared.entries.RowOf.{RowOf}
use Rattle.store.specs.Kept.{Shaped, AtMostOne}
use Rattle.store.specs.Says.{is_element}
use Rattle.flat.specs.declared.rows.FlatRow.{FlatRow}
use Rattle.flat.specs.Means.{means, Stored}

-- ---- what a store may hold, as a test

no_labels : List Label → Bool
no_labels [] = true
no_labels (r ∷ l) = false

no_trees : Forest → Bool
no_trees nil = true
no_trees (node r as' k f) = false

holds_test : Kind → List Label → Forest → Bool
holds_test Element as' k = true
holds_test Attribute as' k = false
holds_test Text as' k = no_labels as' && no_trees k

attributes_test : List Label → Bool
attributes_test [] = true
attributes_test (r ∷ l) = is_attribute r.kind && ((ltb 0 r.id && fields_suit_kind r.kind r.name r.value) && attributes_test l)

above_test : ℕ → List Label → Bool
above_test n [] = true
above_test n (r ∷ l) = ltb n r.id && above_test r.id l

shaped_test : Forest → Bool
shaped_test nil = true
shaped_test (node r as' k f) =
    (ltb 0 r.id && fields_suit_kind r.kind r.name r.value)
    && (holds_test r.kind as' k && (attributes_test as' && (above_test 0 as' && (shaped_test k && shaped_test f))))

one_test : Forest → Bool
one_test nil = true
one_test (node r as' k nil) = is_element r.kind
one_test (node r as' k (node s bs l f)) = false

is_attribute_from : (c : Kind) → is_attribute c ≡ true → c ≡ Attribute
is_attribute_from Element e = cc
is_attribute_from Attribute e = refl
is_attribute_from Text e = cc

is_element_from : (c : Kind) → is_element c ≡ true → c ≡ Element
is_element_from Element e = refl
is_element_from Attribute e = cc
is_element_from Text e = cc

no_labels_from : (as' : List Label) → no_labels as' ≡ true → as' ≡ []
unfolding no_labels
no_labels_from [] e = refl
no_labels_from (r ∷ l) e = cc

no_trees_from : (k : Forest) → no_trees k ≡ true → k ≡ nil
unfolding no_trees
no_trees_from nil e = refl
no_trees_from (node r as' k f) e = cc

holds_from : (c : Kind) (as' : List Label) (k : Forest) → holds_test c as' k ≡ true → Holds c as' k
unfolding holds_test
holds_from Element as' k e = tt
holds_from Attribute as' k e = cc
holds_from Text as' k e = let p = and_parts (no_labels as') (no_trees k) e in (no_labels_from as' p.0, no_trees_from k p.1)

holds_to : (c : Kind) (as' : List Label) (k : Forest) → Holds c as' k → holds_test c as' k ≡ true
unfolding holds_test no_labels no_trees
holds_to Element as' k h = refl
holds_to Attribute as' k h = absurd h
holds_to Text as' k h = rw (h.0, h.1)

attributes_from : (l : List Label) → attributes_test l ≡ true → Attributes l
unfolding attributes_test
attributes_from [] e = tt
attributes_from (r ∷ l) e =
    let p = and_parts (is_attribute r.kind) ((ltb 0 r.id && fields_suit_kind r.kind r.name r.value) && attributes_test l) e in
    let q = and_parts (ltb 0 r.id && fields_suit_kind r.kind r.name r.value) (attributes_test l) p.1 in
    (is_attribute_from r.kind p.0, q.0, attributes_from l q.1)

attributes_to : (l : List Label) → Attributes l → attributes_test l ≡ true
unfolding attributes_test
attributes_to [] h = refl
attributes_to (r ∷ l) h =
    and_from (is_attribute r.kind) ((ltb 0 r.id && fields_suit_kind r.kind r.name r.value) && attributes_test l) (ap is_attribute h.0)
    (and_from (ltb 0 r.id && fields_suit_kind r.kind r.name r.value) (attributes_test l) h.1 (attributes_to l h.2))

above_from : (n : ℕ) (l : List Label) → above_test n l ≡ true → Above n l
unfolding above_test
above_from n [] e = tt
above_from n (r ∷ l) e = let p = and_parts (ltb n r.id) (above_test r.id l) e in (ltb-true n r.id p.0, above_from r.id l p.1)

above_to : (n : ℕ) (l : List Label) → Above n l → above_test n l ≡ true
unfolding above_test
above_to n [] h = refl
above_to n (r ∷ l) h = and_from (ltb n r.id) (above_test r.id l) (lt-ltb n r.id h.0) (above_to r.id l h.1)

shaped_from : (d : Forest) → shaped_test d ≡ true → Shaped d
unfolding shaped_test
shaped_from nil e = tt
shaped_from (node r as' k f) e =
    let h = holds_test r.kind as' k in
    let p = and_parts (ltb 0 r.id && fields_suit_kind r.kind r.name r.value) (h && (attributes_test as' && (above_test 0 as' && (shaped_test k && shaped_test f)))) e in
    let q = and_parts h (attributes_test as' && (above_test 0 as' && (shaped_test k && shaped_test f))) p.1 in
    let s = and_parts (attributes_test as') (above_test 0 as' && (shaped_test k && shaped_test f)) q.1 in
    let u = and_parts (above_test 0 as') (shaped_test k && shaped_test f) s.1 in
    let w = and_parts (shaped_test k) (shaped_test f) u.1 in
    (p.0, holds_from r.kind as' k q.0, attributes_from as' s.0, above_from 0 as' u.0, shaped_from k w.0, shaped_from f w.1)

shaped_to : (d : Forest) → Shaped d → shaped_test d ≡ true
unfolding shaped_test
shaped_to nil s = refl
shaped_to (node r as' k f) s =
    rw (s.0, holds_to r.kind as' k s.1, attributes_to as' s.2, above_to 0 as' s.3, shaped_to k s.4) (shaped_to f s.5)

one_from : (d : Forest) → one_test d ≡ true → AtMostOne d
unfolding one_test
one_from nil e = tt
one_from (node r as' k nil) e = is_element_from r.kind e
one_from (node r as' k (node s bs l f)) e = cc

one_to : (d : Forest) → AtMostOne d → one_test d ≡ true
unfolding one_test
one_to nil h = refl
one_to (node r as' k nil) h = rw h
one_to (node r as' k (node s bs l f)) h = absurd h

-- ---- facts out of their truncation

test_prop : (b : Bool) → IsProp (b ≡ true)
test_prop b = ≡_prop coded_bool b true

pub stored : (rows : List FlatRow) (index : List RowOf) (used : ℕ) → ∥ Stored rows index used ∥₁ → Stored rows index used
stored rows index used t =
    let d = means rows used in
    record {
      kept = record {
        root = one_from d (∥∥₁_elim t (test_prop (one_test d)) (λ s. one_to d s.kept.root));
        shaped = shaped_from d (∥∥₁_elim t (test_prop (shaped_test d)) (λ s. shaped_to d s.kept.shaped));
        distinct = ∥∥₁_elim t (hlevel props) (λ s. s.kept.distinct);
      };
      listed = ∥∥₁_elim t (≡_prop (coded_list the_row.coded) _ _) (λ s. s.listed);
      laid = record {
        backward = ∥∥₁_elim t (hlevel props) (λ s. s.laid.backward);
        parented = ∥∥₁_elim t (hlevel props) (λ s. s.laid.parented);
        sized = ∥∥₁_elim t (hlevel props) (λ s. s.laid.sized);
        inside = ∥∥₁_elim t (hlevel props) (λ s. s.laid.inside);
        outside = ∥∥₁_elim t (hlevel props) (λ s. s.laid.outside);
      };
      indexed = record {
        ascending = ∥∥₁_elim t (hlevel props) (λ s. s.indexed.ascending);
        leading = ∥∥₁_elim t (hlevel props) (λ s. s.indexed.leading);
        reaching = ∥∥₁_elim t (hlevel props) (λ s. s.indexed.reaching);
      };
    }
