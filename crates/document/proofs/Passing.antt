-- A table that passes the tests lists a well-formed document.
use Rattle.std.proofs.Common.{◌≡◌, ℕ, ◌≤◌, true, false, List, [], ◌∷◌, ◌++◌, length, Some, None, sym, refl, ap, ap₂, true≢false, arith}
use Rattle.std.proofs.lemmas.Bool.{eq-eqb, eqb-true}
use Rattle.records.specs.declared.nodes.Kind.{Kind}
use Rattle.records.specs.declared.nodes.Kind.TheVariants.{Element, Attribute, Text}
use Rattle.records.specs.declared.nodes.Node.{Node}
use Rattle.document.specs.Tree.{Label, Forest, nil, node, OneElement, Holds, Sound}
use Rattle.document.specs.Listing.{row, label, rows, listing}
use Rattle.document.specs.Table.{name_key, attached, order_from, is_root, out_of_order, attributes_for, children_for, groups, document_of}
use Rattle.document.specs.Statements.{PassingListsDocument}
use Rattle.document.proofs.Counting.{above_uncounted, count_rows, count_key, count_of_rows, length_of_rows}
use Rattle.document.proofs.Gathering.{formed_above}
use Rattle.document.proofs.Tested.{some_none, passed, AllFormed, Passed, passing}
use Rattle.document.proofs.Ordered.{Told, names_of_attributes, order_told}

root_parts : (c : Kind) (p : ℕ) → is_root c p ≡ true → (c ≡ Element) × (p ≡ 0)
root_parts Element p h = (refl, eqb-true p 0 h)
root_parts Attribute p h = absurd (true≢false (sym h))
root_parts Text p h = absurd (true≢false (sym h))

-- a table in document order lists one sound tree below an element
ordered_document : (xs : List Node) → out_of_order xs ≡ None → ((t : ℕ) → count_rows t xs ≤ 1) → AllFormed xs → ((k : ℕ × ℕ) → count_key name_key k xs ≤ 1)
    → OneElement (children_for 0 (groups xs)) × Sound (children_for 0 (groups xs)) × (rows 0 (children_for 0 (groups xs)) ≡ xs)
ordered_document [] h d w names = absurd (some_none 0 h)
ordered_document (x ∷ xs) h d w names =
    rw whole (
      root.0,
      (w.0, holds, (t.1.0, t.1.1, names_of_attributes x.id as' (rows x.id k ++ []) xs t.1.0 t.0 rest_names), t.2, tt),
      ap₂ (λ (y : Node) (ys : List Node). y ∷ ys) (ap (λ (p : ℕ). row p (label x)) (sym root.1)) t.0,
    )
  where
    as' : List Label
    as' = attributes_for x.id (groups xs)

    k : Forest
    k = children_for x.id (groups xs)

    start : (is_root x.kind x.parent ≡ true) × (order_from (x.id ∷ []) (Some 0) 1 xs ≡ None)
    start = passed (is_root x.kind x.parent) (order_from (x.id ∷ []) (Some 0) 1 xs) 0 h

    root : (x.kind ≡ Element) × (x.parent ≡ 0)
    root = root_parts x.kind x.parent start.0

    rest_names : (j : ℕ × ℕ) → count_key name_key j xs ≤ 1
    rest_names j = omega (arith, names j)

    t : Told (x.id ∷ []) (Some 0) (groups xs) xs
    t = order_told xs (x.id ∷ []) (Some 0) 1 start.1 (λ i. omega (arith, d i)) (omega (arith, above_uncounted x.id (formed_above (label x) w.0))) w.1 rest_names

    holds : Holds x.kind as' k
    holds = rw root.0 tt

    no_attribute : attached x ≡ false
    no_attribute = rw root.0

    whole : children_for 0 (groups (x ∷ xs)) ≡ node (label x) as' k nil
    whole = rw (no_attribute, eq-eqb x.parent 0 root.1, t.3)

pub passing_lists_document : PassingListsDocument
unfolding listing document_of
passing_lists_document room xs h = (
  record { root = u.0; sound = u.1; distinct = λ t. omega (arith, p.identifiers t, ap (count_rows t) u.2, count_of_rows t 0 d) },
  omega (arith, p.fits, ap length u.2, length_of_rows 0 d),
  u.2,
)
  where
    d : Forest
    d = children_for 0 (groups xs)

    p : Passed room xs
    p = passing room xs h

    u : OneElement d × Sound d × (rows 0 d ≡ xs)
    u = ordered_document xs p.order p.identifiers p.formed p.names
