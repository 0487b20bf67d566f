-- What is seen of a node is what the listing shows.
use Rattle.std.proofs.Common.{◌≡◌, ℕ, Bool, true, false, cond, eqb, List, [], ◌∷◌, ◌++◌, Some, None, Err, Option, sym, refl, ap, ◌∙◌, arith}
use Rattle.std.proofs.lemmas.Bool.{eqb-true}
use Rattle.records.specs.declared.nodes.Node.{Node}
use Rattle.document.specs.Tree.{Label, Forest, nil, node}
use Rattle.document.specs.Listing.{row, attribute_rows, rows, listing}
use Rattle.faults.specs.declared.StoreFault.TheVariants.{Absent}
use Rattle.store.specs.Views.{View, view, asked, or_else, attribute_view, node_view, view_attribute, view_in}
use Rattle.store.specs.Listed.{row_with, found}
use Rattle.store.specs.Statements.{RecordIsListed, AbsentIsUnlisted}
use Rattle.store.proofs.Along.{absent, unseen}
use Rattle.store.proofs.Places.{times_rows}

abbrev row_of : Option View → Option Node
row_of None = None
row_of (Some v) = Some v.row

row_of_else : (o q : Option View) → row_of (or_else o q) ≡ or_else (row_of o) (row_of q)
row_of_else None q = refl
row_of_else (Some v) q = refl

with-++ : (t : ℕ) (xs ys : List Node) → row_with t (xs ++ ys) ≡ or_else (row_with t xs) (row_with t ys)
with-++ t [] ys = refl
with-++ t (x ∷ xs) ys = go (eqb x.id t) (with-++ t xs ys)
  where
    go : (b : Bool) → row_with t (xs ++ ys) ≡ or_else (row_with t xs) (row_with t ys) → cond b (Some x) (row_with t (xs ++ ys)) ≡ or_else (cond b (Some x) (row_with t xs)) (row_with t ys)
    go true h = refl
    go false h = h

label_row : (t p : ℕ) (as' : List Label) → row_of (view_attribute t p as') ≡ row_with t (attribute_rows p as')
label_row t p [] = refl
label_row t p (r ∷ l) = go (eqb r.id t) (label_row t p l)
  where
    go : (b : Bool) → row_of (view_attribute t p l) ≡ row_with t (attribute_rows p l) → row_of (cond b (Some (attribute_view p r l)) (view_attribute t p l)) ≡ cond b (Some (row p r)) (row_with t (attribute_rows p l))
    go true h = refl
    go false h = h

seen_row : (t p l : ℕ) (d : Forest) → row_of (view_in t p l d) ≡ row_with t (rows p d)
seen_row t p l nil = refl
seen_row t p l (node r as' k f) = go (eqb r.id t) (seen_row t r.id 0 k) (seen_row t p r.id f)
  where
    A : List Node
    A = attribute_rows r.id as'

    K : List Node
    K = rows r.id k

    F : List Node
    F = rows p f

    rest : row_of (view_in t r.id 0 k) ≡ row_with t K → row_of (view_in t p r.id f) ≡ row_with t F
        → row_of (or_else (view_attribute t r.id as') (or_else (view_in t r.id 0 k) (view_in t p r.id f))) ≡ row_with t (A ++ (K ++ F))
    rest i j =
        rw (row_of_else (view_attribute t r.id as') (or_else (view_in t r.id 0 k) (view_in t p r.id f)), row_of_else (view_in t r.id 0 k) (view_in t p r.id f), label_row t r.id as', i, j)
        (sym (with-++ t A (K ++ F) ∙ ap (λ (o : Option Node). or_else (row_with t A) o) (with-++ t K F)))

    go : (b : Bool) → row_of (view_in t r.id 0 k) ≡ row_with t K → row_of (view_in t p r.id f) ≡ row_with t F
        → row_of (cond b (Some (node_view p l r as' k f)) (or_else (view_attribute t r.id as') (or_else (view_in t r.id 0 k) (view_in t p r.id f)))) ≡ cond b (Some (row p r)) (row_with t (A ++ (K ++ F)))
    go true i j = refl
    go false i j = rest i j

-- what is seen of t is t
row_id : (t : ℕ) (xs : List Node) (x : Node) → row_with t xs ≡ Some x → x.id ≡ t
row_id t [] x e = let z : ◌≡◌ {A = ℕ} 0 1 = cc in absurd (omega arith)
row_id t (y ∷ xs) x e = go (eqb y.id t) refl e (row_id t xs x)
  where
    go : (b : Bool) → eqb y.id t ≡ b → cond b (Some y) (row_with t xs) ≡ Some x → (row_with t xs ≡ Some x → x.id ≡ t) → x.id ≡ t
    go true h e ih = let same : y ≡ x = cc in ap (λ (z : Node). z.id) (sym same) ∙ eqb-true y.id t h
    go false h e ih = ih e

pub seen_id : (t p l : ℕ) (d : Forest) (v : View) → view_in t p l d ≡ Some v → v.row.id ≡ t
seen_id t p l d v e = row_id t (rows p d) v.row (sym (seen_row t p l d) ∙ ap row_of e)

asked_row : (o : Option View) → asked (λ v. v.row) o ≡ found (row_of o)
asked_row None = refl
asked_row (Some v) = refl

pub record_is_listed : RecordIsListed
unfolding listing
record_is_listed d t = asked_row (view d t) ∙ ap found (seen_row t 0 0 d)

pub absent_is_unlisted : AbsentIsUnlisted
unfolding listing
absent_is_unlisted d t question = (
  λ e. times_rows t 0 d ∙ unseen t 0 0 d (not_there (view d t) e),
  λ z. ap (asked question) (absent t 0 0 d (sym (times_rows t 0 d) ∙ z)),
)
  where
    not_there : (o : Option View) → asked question o ≡ Err Absent → o ≡ None
    not_there None e = refl
    not_there (Some v) e = cc
