-- A walk along the attributes of a node, from one to the next.
use Rattle.std.proofs.Common.{◌≡◌, ℕ, List, Some, None, Option, sym, refl, ◌∙◌}
use Rattle.std.specs.Result.{result_unwrap_or}
use Rattle.document.specs.Tree.{Label, Forest, Above}
use Rattle.store.specs.Kept.{Kept}
use Rattle.store.specs.Views.{View, view, asked, first_label, first_attribute_says}
use Rattle.store.specs.Links.{label_before, label_from, attribute_before, attribute_from}
use Rattle.store.proofs.Telling.{SeenLabels}
use Rattle.store.proofs.Standing.{first_attribute_of, row_of_attributes}

-- what is left of the attributes of p, where the walk for x has come behind `before` to `next`
abbrev pub Left : Forest → ℕ → ℕ → ℕ → ℕ → Type 0
Left d p x before next =
    (rest : List Label) × (next ≡ first_label rest) × SeenLabels (view d) p rest × Above before rest
    × (label_before before x rest ≡ attribute_before d p x) × (label_from x rest ≡ attribute_from d p x)

module _ (d : Forest) (p x : ℕ) where
  answered : (o : Option View) → result_unwrap_or (asked (λ v. v.first_attribute) o) 0 ≡ first_attribute_of o
  answered None = refl
  answered (Some v) = refl

  pub starts : Kept d → (next : ℕ) → next ≡ result_unwrap_or (first_attribute_says d p) 0 → Left d p x 0 next
  starts kept next e =
      let r = row_of_attributes d kept p in
      (r.labels, e ∙ answered (view d p) ∙ r.starts, r.shows, r.ascends, sym (r.reads (label_before 0 x) refl), sym (r.reads (label_from x) refl))
