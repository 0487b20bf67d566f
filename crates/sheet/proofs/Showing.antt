-- What a table that lists a document shows of its nodes.
use Rattle.std.proofs.Common.{◌≡◌, ℕ, ◌+◌, ◌<◌, ◌≤◌, Bool, true, false, cond, not, ◌&&◌, eqb, ltb, List, [], ◌∷◌, length, get_or, Some, None, Ok, Err, Option, sym, refl, ap, ◌∙◌, subst, one-add, arith}
use mathlib.Core.List.{is_set}
use mathlib.Core.Logic.{∥∥₁_elim}
use native.Mathlib.Bridge.{le_prop}
use base.Stored.{Coded-set}
use Rattle.std.proofs.lemmas.Bool.{eq-eqb, ltb-true, ltb-false}
use Rattle.std.proofs.lemmas.Option.{slice_get_past, slice_get-get_or}
use Rattle.std.specs.List.{slice_get, position as place_where}
use Rattle.std.specs.Option.{ok_or}
use Rattle.records.specs.contracts.nodes.Node.{the_row}
use Rattle.records.specs.declared.nodes.Node.{Node}
use Rattle.faults.specs.declared.DocumentFault.TheVariants.{ScratchShort}
use Rattle.faults.specs.declared.StoreFault.TheVariants.{Absent}
use Rattle.document.specs.Tree.{nil, size}
use Rattle.document.specs.Listing.{listing}
use Rattle.document.specs.Table.{is_attribute, document_of, table_test}
use Rattle.document.proofs.Passing.{passing_lists_document}
use Rattle.store.specs.Listed.{position, row_with, found, first_where, child_row, attribute_row, Shown}
use Rattle.store.specs.Views.{View, view, asked, first_of}
use Rattle.store.proofs.Facts.{kept_prop}
use Rattle.store.proofs.Finding.{position_counted}
use Rattle.store.proofs.Formed.{well_formed_is_kept}
use Rattle.store.proofs.Neighbours.{neighbours_are_listed, size_and_root_are_listed}
use Rattle.store.proofs.Questions.{record_is_listed}
use Rattle.sheet.specs.declared.scan.Below.TheVariants.{Children, Attributes}
use Rattle.sheet.specs.Below.{no_node, next_of, left_before}
use Rattle.nodetable.specs.Tested.{tested}
use Rattle.sheet.specs.Sheets.{Lists, Found, view_at}

-- that a table lists a document is a fact
lists_prop : (xs : List Node) → IsProp (Lists xs)
lists_prop xs u w t = record {
  kept = kept_prop (document_of xs) u.kept w.kept t;
  listed = is_set (Coded-set the_row.coded) (listing (document_of xs)) xs u.listed w.listed t;
  within = le_prop u.within w.within t;
}

pub lists : (xs : List Node) → ∥ Lists xs ∥₁ → Lists xs
lists xs t = ∥∥₁_elim t (lists_prop xs) (λ h. h)

-- the first row with an identifier stands at its position
row_at : (t : ℕ) (xs : List Node) → row_with t xs ≡ slice_get xs (position t xs)
row_at t [] = refl
row_at t (y ∷ ys) = go (eqb y.id t) (row_at t ys)
  where
    go : (b : Bool) → row_with t ys ≡ slice_get ys (position t ys) → cond b (Some y) (row_with t ys) ≡ slice_get (y ∷ ys) (cond b 0 (1 + position t ys))
    go true ih = refl
    go false ih = rw one-add ih

module _ (xs : List Node) (h : Lists xs) (t : ℕ) where
  record_said : asked (λ v. v.row) (view (document_of xs) t) ≡ found (row_with t xs)
  record_said = record_is_listed (document_of xs) t ∙ ap (λ (ys : List Node). found (row_with t ys)) h.listed

  pub unlisted : length xs ≤ position t xs → view (document_of xs) t ≡ None
  unlisted l = go (view (document_of xs) t) (record_said ∙ ap found (row_at t xs ∙ slice_get_past xs (position t xs) l))
    where
      go : (o : Option View) → asked (λ v. v.row) o ≡ Err Absent → o ≡ None
      go None e = refl
      go (Some v) e = cc

  -- the row that is seen, and where it stands
  seen_row : position t xs < length xs → (v : View) × (view (document_of xs) t ≡ Some v) × (v.row ≡ get_or xs (position t xs) no_node)
  seen_row l = go (view (document_of xs) t) refl (record_said ∙ ap found (row_at t xs ∙ slice_get-get_or xs (position t xs) no_node l))
    where
      go : (o : Option View) → view (document_of xs) t ≡ o → asked (λ v. v.row) o ≡ Ok (get_or xs (position t xs) no_node) → (v : View) × (view (document_of xs) t ≡ Some v) × (v.row ≡ get_or xs (position t xs) no_node)
      go None q e = let z : ◌≡◌ {A = ℕ} 0 1 = cc in absurd (omega arith)
      go (Some v) q e = (v, q, cc)

  -- by the kind of a node, as a test on its own row
  own_child : (x : Node) (n : ℕ) → cond (is_attribute x.kind) 0 n ≡ cond (child_row x.parent x) n 0
  own_child x n = rw (eq-eqb x.parent x.parent refl) (go (is_attribute x.kind))
    where
      go : (b : Bool) → cond b 0 n ≡ cond (true && not b) n 0
      go true = refl
      go false = refl

  own_attribute : (x : Node) (n : ℕ) → cond (is_attribute x.kind) n 0 ≡ cond (attribute_row x.parent x) n 0
  own_attribute x n = rw (eq-eqb x.parent x.parent refl) (go (is_attribute x.kind))
    where
      go : (b : Bool) → cond b n 0 ≡ cond (true && b) n 0
      go true = refl
      go false = refl

  pub seen_at : position t xs < length xs → view (document_of xs) t ≡ Some (view_at xs t (position t xs))
  seen_at l =
      let r = seen_row l in
      let v = r.0 in
      let n : Shown xs t v = subst (λ (ys : List Node). Shown ys t v) h.listed (neighbours_are_listed (document_of xs) t v h.kept r.1) in
      let at = r.1 in
      let x = r.2 in
      let child = n.first_child in
      let attribute = n.first_attribute in
      let next = n.next_sibling ∙ own_child v.row _ ∙ ap (next_of Children (position t xs) xs) r.2 in
      let following = n.next_attribute ∙ own_attribute v.row _ ∙ ap (next_of Attributes (position t xs) xs) r.2 in
      let left = n.left ∙ own_child v.row _ ∙ ap (left_before (position t xs) xs) r.2 in
      at ∙ ap Some (λ i. record { row = x i; left = left i; first_child = child i; next_sibling = next i; first_attribute = attribute i; next_attribute = following i })

  -- the place that a search by the identifier answers
  pub found_at : Found xs t (ok_or (place_where (λ x. eqb x.id t) xs) Absent)
  found_at = rw (position_counted t xs) (go (ltb (position t xs) (length xs)) refl)
    where
      go : (b : Bool) → ltb (position t xs) (length xs) ≡ b → Found xs t (ok_or (cond b (Some (position t xs)) None) Absent)
      go true e = (ltb-true _ _ e, seen_at (ltb-true _ _ e))
      go false e = (refl, unlisted (ltb-false _ _ e))

-- the table of a document
pub rows_counted : (xs : List Node) → Lists xs → length xs ≡ size (document_of xs)
rows_counted xs h = ap length (sym h.listed) ∙ sym (size_and_root_are_listed (document_of xs)).0

pub root_listed : (xs : List Node) → Lists xs → first_of (document_of xs) ≡ first_where (λ x. true) xs
root_listed xs h = (size_and_root_are_listed (document_of xs)).1 ∙ ap (first_where (λ x. true)) h.listed

-- an empty table, and one that passed the tests
pub none_means : document_of [] ≡ nil
unfolding document_of
none_means = refl

pub none_listed : Lists []
unfolding document_of listing
none_listed = record { kept = record { root = tt; shaped = tt; distinct = λ t. omega arith }; listed = refl; within = omega arith }

pub passed_listed : (xs : List Node) → table_test 1000 xs ≡ Ok tt → Lists xs
passed_listed xs e = let p = passing_lists_document 1000 xs e in record { kept = (well_formed_is_kept (document_of xs) p.0).0; listed = p.2; within = p.1 }

pub passed_tests : (n : ℕ) (xs : List Node) → tested n 1000 xs ≡ Ok tt → Lists xs
passed_tests n xs e = go (ltb n (length xs)) e
  where
    go : (b : Bool) → cond b (Err ScratchShort) (table_test 1000 xs) ≡ Ok tt → Lists xs
    go true e = let z : ◌≡◌ {A = ℕ} 0 1 = cc in absurd (omega arith)
    go false e = passed_listed xs e
