-- The document that a representation stands for, where it can stand for one only.
use Rattle.std.specs.Prelude.{◌≡◌}
use Rattle.std.proofs.Math.Logic.{∥∥₁_elim, ∥∥₁_prop}
use mathlib.Core.HLevel.{Σ_prop_path}
use mathlib.Core.List.{is_set}
use Rattle.std.proofs.Math.Nat.{ℕ_set}
use base.Stored.{Coded-set}
use Rattle.records.specs.contracts.nodes.Kind.{the_row}
use Rattle.document.specs.Tree.{Label, label_set, Forest, forest_set}

-- documents are told apart by their parts alone
pub labels_set : IsSet Label
labels_set = label_set ℕ_set (Coded-set the_row.coded)

pub documents_set : IsSet Forest
documents_set = forest_set labels_set (is_set labels_set)

module _ (P : Forest → Type 0) (one_only : (d e : Forest) → P d → P e → d ≡ e) where
  abbrev Chosen : Type 0
  Chosen = (d : Forest) × ∥ P d ∥₁

  same : (d e : Forest) → ∥ P d ∥₁ → ∥ P e ∥₁ → d ≡ e
  same d e s t = ∥∥₁_elim s (documents_set d e) (λ u. ∥∥₁_elim t (documents_set d e) (λ w. one_only d e u w))

  chosen_prop : IsProp Chosen
  chosen_prop = λ u w. Σ_prop_path (λ d. ∥∥₁_prop) (same u.0 w.0 u.1 w.1)

  choose : ∥ ((d : Forest) × P d) ∥₁ → Chosen
  choose t = ∥∥₁_elim t chosen_prop (λ u. (u.0, ∣ u.1 ∣₁))

  -- the one document of which P holds
  pub meant : ∥ ((d : Forest) × P d) ∥₁ → Forest
  meant t = (choose t).0

  pub meant_holds : (t : ∥ ((d : Forest) × P d) ∥₁) → ∥ P (meant t) ∥₁
  unfolding meant
  meant_holds t = (choose t).1

  pub meant_is : (t : ∥ ((d : Forest) × P d) ∥₁) (d : Forest) → P d → meant t ≡ d
  meant_is t d u = same (meant t) d (meant_holds t) ∣ u ∣₁
