-- Rows of trees, joined.
use Rattle.std.proofs.Common.{◌≡◌, refl, ap}
use Rattle.document.specs.Tree.{nil, Forest, node}
use Rattle.changes.specs.Changes.{◌⊕◌}

pub ⊕-nil : (f : Forest) → f ⊕ nil ≡ f
⊕-nil nil = refl
⊕-nil (node r as' k f) = ap (λ x. node r as' k x) (⊕-nil f)

pub ⊕-assoc : (f g h : Forest) → (f ⊕ g) ⊕ h ≡ f ⊕ (g ⊕ h)
⊕-assoc nil g h = refl
⊕-assoc (node r as' k f) g h = ap (λ x. node r as' k x) (⊕-assoc f g h)
