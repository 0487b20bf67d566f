-- The changes of gathered marks insert behind a child or first in an element.
use Rattle.std.proofs.Common.{◌≡◌, ℕ, Bool, true, false, List, [], ◌∷◌, ◌++◌, Some, None, Option, refl}
use Rattle.records.specs.declared.operations.Code.{Code}
use Rattle.records.specs.declared.operations.Code.TheVariants.{InsertAfter, InsertFirst, InsertAttributes, ReplaceNode, ReplaceContent}
use Rattle.document.specs.Tree.{Forest, nil, node}
use Rattle.changes.specs.Changes.{Change}
use Rattle.changes.specs.Marks.{NodeChanges, MarkedLabel, MarkedForest, no_marks, marked}
use Rattle.changes.specs.Reduced.{insertion, deletion_of, replacement, new_value, new_name, changes_by_code, label_changes_in_order, changes_in_order}
use Rattle.changes.specs.Order.{inserts_behind_or_first, AllBehindOrFirst}
use Rattle.changes.proofs.Fitting.{Fit, FitLabels}
use Rattle.changes.proofs.Inverting.{Gathered, GatheredNode}

joined : (l k : List Change) → AllBehindOrFirst l → AllBehindOrFirst k → AllBehindOrFirst (l ++ k)
joined [] k p q = q
joined (o ∷ l) k p q = (p.0, joined l k p.1 q)

of_insertion : (t : ℕ) (c : Code) (f : Forest) → inserts_behind_or_first c ≡ true → AllBehindOrFirst (insertion t c f)
of_insertion t c nil e = tt
of_insertion t c (node r as' k f) e = (e, tt)

of_deletion : (t : ℕ) (b : Bool) → AllBehindOrFirst (deletion_of t b)
of_deletion t false = tt
of_deletion t true = (refl, tt)

of_replacement : (t : ℕ) (c : Code) (o : Option Forest) → inserts_behind_or_first c ≡ true → AllBehindOrFirst (replacement t c o)
of_replacement t c None e = tt
of_replacement t c (Some f) e = (e, tt)

of_value : (t : ℕ) (o : Option ℕ) → AllBehindOrFirst (new_value t o)
of_value t None = tt
of_value t (Some v) = (refl, tt)

of_name : (t : ℕ) (o : Option ℕ) → AllBehindOrFirst (new_name t o)
of_name t None = tt
of_name t (Some n) = (refl, tt)

of_node : (t : ℕ) (a : NodeChanges) → GatheredNode a → AllBehindOrFirst (changes_by_code t a)
of_node t a g =
    rw (g.0, g.1, g.2)
    (joined _ _ (of_insertion t InsertAfter a.after refl)
    (joined _ _ (of_insertion t InsertFirst a.first refl)
    (joined _ _ (of_insertion t InsertAttributes a.attributes refl)
    (joined _ _ (of_deletion t a.deleted)
    (joined _ _ (of_replacement t ReplaceNode a.replaced refl)
    (joined _ _ (of_value t a.revalued)
    (joined _ _ (of_replacement t ReplaceContent a.content refl) (of_name t a.renamed))))))))

-- nothing is inserted beside or into an attribute
of_labels : (l : List MarkedLabel) → FitLabels l → AllBehindOrFirst (label_changes_in_order l)
of_labels [] f = tt
of_labels (m ∷ l) f = joined _ _ (of_node m.label.id m.changes (f.0.before, f.0.into, f.0.last)) (of_labels l f.1)

pub of_marks : (m : MarkedForest) → Gathered m → Fit m → AllBehindOrFirst (changes_in_order m)
of_marks no_marks g f = tt
of_marks (marked r a as' k b) g f =
    joined _ _ (of_node r.id a g.0) (joined _ _ (of_labels as' f.1) (joined _ _ (of_marks k g.1 f.2) (of_marks b g.2 f.3)))
