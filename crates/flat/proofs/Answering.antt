-- What a flat store answers is what its document says.
use Rattle.std.proofs.Common.{◌≡◌, ℕ, zero, suc, ◌+◌, ◌<◌, ◌≤◌, Bool, true, false, ◌⊎◌, List, length, take, drop, None, Ok, Ordering, Less, Equal, Greater, sym, refl, ap, ◌∙◌, inl, inr, arith}
use Rattle.std.specs.Cmp.{ranks, tied_itself}
use Rattle.std.specs.Ordering.{is_lt, nat_cmp, ordering_then, MatchOrdering}
use Rattle.std.proofs.lemmas.List.{get_or_default}
use Rattle.std.proofs.lemmas.Bool.{cases_eq, both_ways}
use Rattle.records.specs.declared.nodes.Node.{Node}
use Rattle.document.specs.Tree.{Forest, size}
use Rattle.document.specs.Table.{is_attribute}
use Rattle.ordered.specs.declared.entries.RowOf.{RowOf}
use Rattle.ordered.specs.Table.{Ascending}
use Rattle.ordered.specs.Entries.{by_identifier}
use Rattle.ordered.proofs.Orders.{identifiers}
use Rattle.store.specs.Views.{View, view, first_of, asked, record_says, first_child_says, next_sibling_says, first_attribute_says, next_attribute_says, place_says}
use Rattle.store.specs.Listed.{child_row, attribute_row, first_where, last_where}
use Rattle.flat.specs.declared.rows.FlatRow.{FlatRow}
use Rattle.flat.specs.Means.{no_entry, at, up, entry, nodes, means, Plain, Stored}
use Rattle.flat.specs.Walks.{child_at, attribute_at, Behind, Unknown}
use Rattle.store.proofs.Neighbours.{size_and_root_are_listed}
use Rattle.flat.proofs.Tables.{first_from, none_from}
use Rattle.flat.proofs.Families.{up_before}
use Rattle.flat.proofs.Standing.{nodes_long, node_at, Seen, plain, sight, listed_size}
use Rattle.flat.proofs.Asking.{first_attribute, next_attribute, first_child, next_sibling}

-- ---- the index

-- a greater identifier decides
not_less : (x y : ℕ) (r s : Ordering) → MatchOrdering r (x < y) (x ≡ y) (y < x) → y < x → is_lt (ordering_then r s) ≡ false
not_less x y Less s h l = absurd (omega arith)
not_less x y Equal s h l = absurd (omega arith)
not_less x y Greater s h l = refl

not_before : (a b : RowOf) → (b.id < a.id) ⊎ (a ≡ b) → is_lt (by_identifier a b) ≡ false
not_before a b (inl l) = not_less a.id b.id (nat_cmp a.id b.id) (nat_cmp a.row b.row) (ranks a.id b.id) l
not_before a b (inr e) = ap (λ x. is_lt (by_identifier x b)) e ∙ ap is_lt (tied_itself identifiers b)

pub ascending_from : (X : List RowOf) (n : ℕ) → n ≤ length X → ((i j : ℕ) → i < j → j < n → (entry X i).id < (entry X j).id) → Ascending by_identifier n X
ascending_from X n h up i j d l g =
    rw (get_or_default X j d no_entry (omega arith), get_or_default X i d no_entry (omega arith)) (not_before (entry X j) (entry X i) (by (cases_eq i j)))
  where
    by : (i ≡ j) ⊎ (i ≡ j → ⊥) → ((entry X i).id < (entry X j).id) ⊎ (entry X j ≡ entry X i)
    by (inl e) = inr (ap (entry X) (sym e))
    by (inr e) = inl (up i j (omega arith) g)

module _ (R : List FlatRow) (X : List RowOf) (n : ℕ) (h : n ≤ length R) (s : Stored R X n) where
  D : Forest
  D = means R n

  P : Plain R n
  P = plain R X n h s

  pub unknown_from : (t : ℕ) → view (means R n) t ≡ None → Unknown (means R n) t
  unknown_from t e =
      record {
        seen = e;
        row = ap (asked (λ v. v.row)) e;
        first_child = ap (asked (λ v. v.first_child)) e;
        next_sibling = ap (asked (λ v. v.next_sibling)) e;
        first_attribute = ap (asked (λ v. v.first_attribute)) e;
        next_attribute = ap (asked (λ v. v.next_attribute)) e;
        place = ap (asked (λ v. (v.row.parent, v.left))) e;
      }

  -- ---- the questions about the node in row i

  module _ (i : ℕ) (l : i < n) where
    t : ℕ
    t = (at R i).node.id

    abbrev S : Seen (means R n) s.kept (nodes R n) s.listed (at R i).node.id i
    S = sight R X n h s (at R i).node.id i l refl

    row_is : S.v.row ≡ (at R i).node
    row_is = S.row ∙ node_at R n i h l

    -- an answer that is right of what is seen is right
    answer : {Y : Type 0} (f : View → Y) (y : Y) → f S.v ≡ y → Ok y ≡ asked f (view (means R n) (at R i).node.id)
    answer f y e = sym (ap (asked f) S.seen ∙ ap Ok e)

    pub record_is : Ok (at R i).node ≡ record_says (means R n) (at R i).node.id
    record_is = answer (λ v. v.row) (at R i).node row_is

    pub first_attribute_is : Ok (attribute_at R n (i + 1) (at R i).node.id) ≡ first_attribute_says (means R n) (at R i).node.id
    first_attribute_is = answer (λ v. v.first_attribute) (attribute_at R n (i + 1) (at R i).node.id) (S.shown.first_attribute ∙ sym (first_attribute R n h s.laid P i l))

    pub first_child_is : (r : ℕ) → Behind R n i (at R i).node.id None r → Ok (child_at R n r (at R i).node.id) ≡ first_child_says (means R n) (at R i).node.id
    first_child_is r b = answer (λ v. v.first_child) (child_at R n r (at R i).node.id) (S.shown.first_child ∙ sym (first_child R n h s.laid P i r l b))

    kind_is : (b : Bool) → is_attribute (at R i).node.kind ≡ b → is_attribute S.v.row.kind ≡ b
    kind_is b e = ap (λ (x : Node). is_attribute x.kind) row_is ∙ e

    parent_is : S.v.row.parent ≡ (at R i).node.parent
    parent_is = ap (λ (x : Node). x.parent) row_is

    -- an attribute has no sibling, and only an attribute has a next one
    pub no_sibling : is_attribute (at R i).node.kind ≡ true → Ok 0 ≡ next_sibling_says (means R n) (at R i).node.id
    no_sibling e = answer (λ v. v.next_sibling) 0 (S.shown.next_sibling ∙ rw (kind_is true e))

    pub next_sibling_is : is_attribute (at R i).node.kind ≡ false
        → Ok (child_at R n (i + (at R i).size) (at R i).node.parent) ≡ next_sibling_says (means R n) (at R i).node.id
    next_sibling_is e =
        answer (λ v. v.next_sibling) (child_at R n (i + (at R i).size) (at R i).node.parent)
        (S.shown.next_sibling ∙ rw (kind_is false e, parent_is, S.place) (sym (next_sibling R n h s.laid P i l e)))

    pub no_next_attribute : is_attribute (at R i).node.kind ≡ false → Ok 0 ≡ next_attribute_says (means R n) (at R i).node.id
    no_next_attribute e = answer (λ v. v.next_attribute) 0 (S.shown.next_attribute ∙ rw (kind_is false e))

    pub next_attribute_is : is_attribute (at R i).node.kind ≡ true
        → Ok (attribute_at R n (i + 1) (at R i).node.parent) ≡ next_attribute_says (means R n) (at R i).node.id
    next_attribute_is e =
        answer (λ v. v.next_attribute) (attribute_at R n (i + 1) (at R i).node.parent)
        (S.shown.next_attribute ∙ rw (kind_is true e, parent_is, S.place) (sym (by i l e)))
      where
        by : (i : ℕ) → i < n → is_attribute (at R i).node.kind ≡ true
            → attribute_at R n (i + 1) (at R i).node.parent ≡ first_where (attribute_row (at R i).node.parent) (drop (i + 1) (nodes R n))
        by zero l e = absurd (both_ways (is_attribute (at R 0).node.kind) (P.root l).1 e)
        by (suc k) l e =
            let b = up_before R n s.laid P (suc k) (omega arith) l in
            rw (← (s.laid.parented (suc k) (omega arith) l).0) (next_attribute R n h s.laid P (up R (suc k)) (suc k + 1) (omega arith) (omega arith))

    -- parent and left neighbour
    pub place_of_attribute : is_attribute (at R i).node.kind ≡ true → Ok ((at R i).node.parent, 0) ≡ place_says (means R n) (at R i).node.id
    place_of_attribute e =
        let w : S.v.left ≡ 0 = S.shown.left ∙ rw (kind_is true e) in
        answer (λ v. (v.row.parent, v.left)) ((at R i).node.parent, 0) (λ j. (parent_is j, w j))

    pub place_is : (left : ℕ) → is_attribute (at R i).node.kind ≡ false → left ≡ last_where (child_row (at R i).node.parent) (take i (nodes R n))
        → Ok ((at R i).node.parent, left) ≡ place_says (means R n) (at R i).node.id
    place_is left e w =
        let u : S.v.left ≡ left = S.shown.left ∙ rw (kind_is false e, parent_is, S.place) (sym w) in
        answer (λ v. (v.row.parent, v.left)) ((at R i).node.parent, left) (λ j. (parent_is j, u j))

    pub place_of_root : i ≡ 0 → Ok ((at R i).node.parent, 0) ≡ place_says (means R n) (at R i).node.id
    place_of_root e =
        let g : 0 < n = omega arith in
        let k : is_attribute (at R i).node.kind ≡ false = ap (λ (j : ℕ). is_attribute (at R j).node.kind) e ∙ (P.root g).1 in
        place_is 0 k (sym (ap (λ (j : ℕ). last_where (child_row (at R i).node.parent) (take j (nodes R n))) e))

  -- ---- the whole

  pub size_is : size (means R n) ≡ n
  size_is = listed_size (means R n) s.kept (nodes R n) s.listed ∙ nodes_long R n h

  pub root_is : (r : ℕ) → (n ≡ 0 → r ≡ 0) → (0 < n → r ≡ (at R 0).node.id) → r ≡ first_of (means R n)
  root_is r none some =
      by (cases_eq n 0) ∙ sym ((size_and_root_are_listed (means R n)).1 ∙ ap (first_where (λ x. true)) s.listed)
    where
      by : (n ≡ 0) ⊎ (n ≡ 0 → ⊥) → r ≡ first_where (λ x. true) (nodes R n)
      by (inl e) = none e ∙ sym (none_from (λ x. true) (nodes R n) 0 (λ j a b. absurd (omega (arith, nodes_long R n h))))
      by (inr e) =
          let g : 0 < n = omega arith in
          some g ∙ sym (first_from (λ x. true) (nodes R n) 0 0 (omega arith) (omega (arith, nodes_long R n h)) refl (λ j a b. absurd (omega arith)) ∙ ap (λ (x : Node). x.id) (node_at R n 0 h g))
