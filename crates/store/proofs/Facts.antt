-- That a store may hold a document is a fact: it holds in one way only. So are equations between what is seen of nodes.
use Rattle.std.proofs.Common.{◌≡◌, ℕ, List, [], ◌∷◌, Some, None, Option, sym, refl, ap, ◌∙◌}
use mathlib.Core.Bool.{Bool-set}
use mathlib.Core.List.{is_set}
use mathlib.Core.HLevel.{⊥_prop, Unit-prop, ×_prop, ×₃_prop, collapsible→set}
use native.Mathlib.Nat.{ℕ_set}
use native.Mathlib.Bridge.{le_prop}
use base.Stored.{Coded-set}
use Rattle.records.specs.declared.nodes.Kind.{Kind}
use Rattle.records.specs.declared.nodes.Kind.TheVariants.{Element, Attribute, Text}
use Rattle.records.specs.contracts.nodes.Kind.{the_row as kind_row}
use Rattle.records.specs.contracts.nodes.Node.{the_row as node_row}
use Rattle.document.specs.Tree.{Label, Forest, nil, node, Holds, Attributes, Above}
use Rattle.store.specs.Kept.{Kept, Shaped, AtMostOne}
use Rattle.store.specs.Meaning.{labels_set, documents_set}
use Rattle.store.specs.Views.{View, view_set}

kinds_set : IsSet Kind
kinds_set = Coded-set kind_row.coded

pub views_set : IsSet View
views_set = view_set (Coded-set node_row.coded) ℕ_set

-- an option is a list of at most one
to_list : {A : Type 0} → Option A → List A
to_list None = []
to_list (Some x) = x ∷ []

of_list : {A : Type 0} → List A → Option A
of_list [] = None
of_list (x ∷ l) = Some x

back : {A : Type 0} (o : Option A) → of_list (to_list o) ≡ o
unfolding to_list of_list
back None = refl
back (Some x) = refl

told_apart : {A : Type 0} (x y : Option A) → to_list x ≡ to_list y → x ≡ y
told_apart x y e = sym (back x) ∙ ap of_list e ∙ back y

pub options_set : {A : Type 0} → IsSet A → IsSet (Option A)
options_set s = collapsible→set (λ x y p. told_apart x y (ap to_list p)) (λ x y p q. ap (told_apart x y) (is_set s (to_list x) (to_list y) (ap to_list p) (ap to_list q)))

at_most_one_prop : (d : Forest) → IsProp (AtMostOne d)
at_most_one_prop nil = Unit-prop
at_most_one_prop (node r as' k nil) = kinds_set r.kind Element
at_most_one_prop (node r as' k (node s bs l f)) = ⊥_prop

holds_prop : (c : Kind) (as' : List Label) (k : Forest) → IsProp (Holds c as' k)
holds_prop Element as' k = Unit-prop
holds_prop Attribute as' k = ⊥_prop
holds_prop Text as' k = ×_prop (is_set labels_set as' []) (documents_set k nil)

attributes_prop : (as' : List Label) → IsProp (Attributes as')
attributes_prop [] = Unit-prop
attributes_prop (r ∷ l) = ×₃_prop (kinds_set r.kind Attribute) (Bool-set _ _) (attributes_prop l)

above_prop : (n : ℕ) (as' : List Label) → IsProp (Above n as')
above_prop n [] = Unit-prop
above_prop n (r ∷ l) = ×_prop le_prop (above_prop r.id l)

shaped_prop : (d : Forest) → IsProp (Shaped d)
shaped_prop nil = Unit-prop
shaped_prop (node r as' k f) =
    let i = shaped_prop k in
    let j = shaped_prop f in
    λ u w. λ t. (Bool-set _ _ u.0 w.0 t, holds_prop r.kind as' k u.1 w.1 t, attributes_prop as' u.2 w.2 t, above_prop 0 as' u.3 w.3 t, i u.4 w.4 t, j u.5 w.5 t)

pub kept_prop : (d : Forest) → IsProp (Kept d)
kept_prop d u w t = record {
  root = at_most_one_prop d u.root w.root t;
  shaped = shaped_prop d u.shaped w.shaped t;
  distinct = λ x. le_prop (u.distinct x) (w.distinct x) t;
}
