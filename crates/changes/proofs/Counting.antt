-- How often identifiers stand in rows and lists.
use Rattle.std.proofs.Common.{◌≡◌, ℕ, ◌+◌, ◌≤◌, Bool, true, false, eqb, ltb, List, [], ◌∷◌, ◌++◌, refl, arith}
use Rattle.records.specs.declared.operations.Code.{Code}
use Rattle.document.specs.Tree.{count, Forest, nil, node, count_labels, Label, one}
use Rattle.changes.specs.Changes.{◌⊕◌, root_labels, insert_label, insert_labels, Change, count_nodes, changes_on, joined_nodes, same_code, or_else, nodes_given, first_of}

pub count-⊕ : (t : ℕ) (f g : Forest) → count t (f ⊕ g) ≡ count t f + count t g
count-⊕ t nil g = omega arith
count-⊕ t (node r as' k f) g = omega (arith, count-⊕ t f g)

pub count_roots : (t : ℕ) (f : Forest) → count_labels t (root_labels f) ≤ count t f
count_roots t nil = omega arith
count_roots t (node r as' k f) = omega (arith, count_roots t f)

pub count_labels-++ : (t : ℕ) (f g : List Label) → count_labels t (f ++ g) ≡ count_labels t f + count_labels t g
count_labels-++ t [] g = omega arith
count_labels-++ t (r ∷ f) g = omega (arith, count_labels-++ t f g)

pub count_insert_label : (t : ℕ) (x : Label) (l : List Label) → count_labels t (insert_label x l) ≡ one (eqb x.id t) + count_labels t l
count_insert_label t x [] = refl
count_insert_label t x (y ∷ l) = go (ltb x.id y.id) refl (count_insert_label t x l)
  where
    go : (b : Bool) → ltb x.id y.id ≡ b → count_labels t (insert_label x l) ≡ one (eqb x.id t) + count_labels t l
        → count_labels t (insert_label x (y ∷ l)) ≡ one (eqb x.id t) + count_labels t (y ∷ l)
    go true e h = rw e
    go false e h = rw (e, h) (omega arith)

pub count_insert_labels : (t : ℕ) (xs l : List Label) → count_labels t (insert_labels xs l) ≡ count_labels t xs + count_labels t l
count_insert_labels t [] l = omega arith
count_insert_labels t (x ∷ xs) l = omega (arith, count_insert_label t x (insert_labels xs l), count_insert_labels t xs l)

pub count_on : (t s : ℕ) (l : List Change) → count_nodes t (changes_on s l) ≤ count_nodes t l
count_on t s [] = omega arith
count_on t s (o ∷ l) = go (eqb o.target s) refl (count_on t s l)
  where
    go : (b : Bool) → eqb o.target s ≡ b → count_nodes t (changes_on s l) ≤ count_nodes t l → count_nodes t (changes_on s (o ∷ l)) ≤ count_nodes t (o ∷ l)
    go true e h = rw e (omega arith)
    go false e h = rw e (omega arith)

pub count_joined : (t : ℕ) (c : Code) (l : List Change) → count t (joined_nodes c l) ≤ count_nodes t l
count_joined t c [] = omega arith
count_joined t c (o ∷ l) = go (same_code o.code c) refl (count_joined t c l)
  where
    go : (b : Bool) → same_code o.code c ≡ b → count t (joined_nodes c l) ≤ count_nodes t l → count t (joined_nodes c (o ∷ l)) ≤ count_nodes t (o ∷ l)
    go true e h = rw e (omega (arith, count-⊕ t o.nodes (joined_nodes c l)))
    go false e h = rw e (omega arith)

pub count_first : (t : ℕ) (c : Code) (l : List Change) → count t (or_else (nodes_given (first_of c l)) nil) ≤ count_nodes t l
count_first t c [] = omega arith
count_first t c (o ∷ l) = go (same_code o.code c) refl (count_first t c l)
  where
    go : (b : Bool) → same_code o.code c ≡ b → count t (or_else (nodes_given (first_of c l)) nil) ≤ count_nodes t l
        → count t (or_else (nodes_given (first_of c (o ∷ l))) nil) ≤ count_nodes t (o ∷ l)
    go true e h = rw e (omega arith)
    go false e h = rw e (omega arith)
