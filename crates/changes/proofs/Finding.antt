-- What is found of a node of a document stands where the node does.
use Rattle.std.proofs.Common.{◌≡◌, ℕ, ◌≤◌, eqb, List, [], ◌∷◌, Some, None, Option, refl, arith}
use Rattle.std.proofs.lemmas.Bool.{eq-eqb}
use Rattle.document.specs.Tree.{Label, count, count_labels, Forest, nil, node}
use Rattle.document.proofs.Counting.{one_zero}
use Rattle.changes.specs.Tests.{Found, or_found, find, find_label}

or_none : (o : Option Found) → or_found o None ≡ o
or_none None = refl
or_none (Some x) = refl

pub find_label_none : (p t : ℕ) (l : List Label) → count_labels t l ≡ 0 → find_label p t l ≡ None
find_label_none p t [] h = refl
find_label_none p t (r ∷ l) h = rw (one_zero (eqb r.id t) (omega arith), find_label_none p t l (omega arith))

pub find_none : (t : ℕ) (f : Forest) → count t f ≡ 0 → find t f ≡ None
find_none t nil h = refl
find_none t (node r as' k f) h =
    rw (one_zero (eqb r.id t) (omega arith), find_label_none r.id t as' (omega arith), find_none t k (omega arith), find_none t f (omega arith))

pub find_label_itself : (p : ℕ) (r : Label) (l : List Label) → find_label p r.id (r ∷ l) ≡ Some (record { kind = r.kind; element = p })
find_label_itself p r l = rw (eq-eqb r.id r.id refl)

pub find_label_behind : (p t : ℕ) (r : Label) (l : List Label) → count_labels t (r ∷ l) ≤ 1 → 1 ≤ count_labels t l → find_label p t (r ∷ l) ≡ find_label p t l
find_label_behind p t r l d h = rw (one_zero (eqb r.id t) (omega arith))

pub find_itself : (r : Label) (as' : List Label) (k f : Forest) → find r.id (node r as' k f) ≡ Some (record { kind = r.kind; element = r.id })
find_itself r as' k f = rw (eq-eqb r.id r.id refl)

module _ (r : Label) (as' : List Label) (k f : Forest) (t : ℕ) (d : count t (node r as' k f) ≤ 1) where
  pub find_attribute : 1 ≤ count_labels t as' → find t (node r as' k f) ≡ find_label r.id t as'
  find_attribute h =
      rw (one_zero (eqb r.id t) (omega arith), find_none t k (omega arith), find_none t f (omega arith)) (or_none (find_label r.id t as'))

  pub find_below : 1 ≤ count t k → find t (node r as' k f) ≡ find t k
  find_below h =
      rw (one_zero (eqb r.id t) (omega arith), find_label_none r.id t as' (omega arith), find_none t f (omega arith)) (or_none (find t k))

  pub find_behind : 1 ≤ count t f → find t (node r as' k f) ≡ find t f
  find_behind h = rw (one_zero (eqb r.id t) (omega arith), find_label_none r.id t as' (omega arith), find_none t k (omega arith))
