-- What the memory stands for after a write.
use Rattle.std.proofs.Common.{◌≡◌, ℕ, ◌+◌, ◌-◌, ◌<◌, ◌≤◌, Bool, true, false, cond, eqb, ◌⊎◌, List, [], length, Some, None, Ok, Option, sym, refl, ap, ◌∙◌, subst, inl, inr, arith, length-append, length-drop, length-take}
use mathlib.Core.Logic.{∥∥₁_map}
use Rattle.std.specs.Option.{option_map}
use Rattle.std.proofs.lemmas.Bool.{eq-eqb, ne_eqb, eqb-false, cond-true, cond-false, cases_lt}
use Rattle.records.specs.declared.nodes.Node.{Node}
use Rattle.document.specs.Tree.{Label, Forest, nil, node, size}
use Rattle.document.specs.Listing.{label, listing}
use Rattle.document.specs.Table.{is_attribute}
use Rattle.store.specs.Kept.{Kept, AtMostOne}
use Rattle.store.specs.Listed.{removed_at, position, renamed_row, revalued_row}
use Rattle.store.specs.Views.{View, view, view_in, view_attribute, node_view, or_else, first_of, asked}
use Rattle.store.specs.Writes.{act, unchanged, with_attribute, with_first, with_behind, put_in, without, lacking, edited, edit_labels, edit_tree, named, valued}
use Rattle.store.specs.Says.{Answer, after, put_says, put_leaves, take_says, take_leaves, rename_says, rename_leaves, set_value_says, set_value_leaves}
use Rattle.store.specs.Links.{reshown}
use Rattle.store.proofs.Along.{absent}
use Rattle.store.proofs.Edits.{rename_reshows, rename_keeps, set_value_reshows, set_value_keeps}
use Rattle.store.proofs.Neighbours.{size_and_root_are_listed}
use Rattle.store.proofs.Puts as puts
use Rattle.store.proofs.Questions.{seen_id}
use Rattle.store.proofs.Takes as takes
use Rattle.store.proofs.Standing.{NodeStands, AttributeStands, stands}
use Rattle.linked.specs.declared.table.Table.{Table}
use Rattle.linked.specs.declared.row.Row.{Row}
use Rattle.linked.specs.declared.row.Siblings.{Siblings}
use Rattle.linked.specs.declared.row.Siblings.TheVariants.{Children, Attributes}
use Rattle.linked.specs.declared.linked_store.LinkedStore.{LinkedStore}
use Rattle.linked.specs.Rows.{seen, row, row_of, with_record, row_among, siblings_of}
use Rattle.linked.specs.Tables.{Lookup, shows, changed, linked_in, linked_out}
use Rattle.linked.specs.Stores.{Holds, rows_of}
use Rattle.linked.specs.Places.{neighbours, stands_behind}
use Rattle.linked.specs.Document.{document, limit_of}
use Rattle.linked.proofs.Holding.{holds, what_shows, what_holds}
use Rattle.linked.proofs.Putting.{put_shown}
use Rattle.linked.proofs.Taking.{take_shown}

-- what a table shows, by another account of it
shown_as : (t : Table) (m n : ℕ) (f g : Lookup) → m ≡ n → ((u : ℕ) → f u ≡ g u) → shows t m f → shows t n g
shown_as t m n f g q e s = (
  s.0 ∙ q,
  record {
    within = s.1.within;
    equal = s.1.equal;
    ascending = s.1.ascending;
    inside = s.1.inside;
    apart = s.1.apart;
    shown = λ k x w h. sym (e _) ∙ s.1.shown k x w h;
    every = λ u w h. s.1.every u w (e u ∙ h);
    once = s.1.once;
  },
)

-- ---- the root
first_stays : (t : ℕ) (in_row : List Label → List Label) (at : Label → List Label → Forest → Forest → Forest) → ((r : Label) (as' : List Label) (k f : Forest) → first_of (at r as' k f) ≡ r.id)
    → (d : Forest) → first_of (act t in_row at d) ≡ first_of d
first_stays t in_row at same nil = refl
first_stays t in_row at same (node r as' k f) = go (eqb r.id t)
  where
    go : (b : Bool) → first_of (cond b (at r (in_row as') (act t in_row at k) (act t in_row at f)) (node r (in_row as') (act t in_row at k) (act t in_row at f))) ≡ r.id
    go true = same r (in_row as') (act t in_row at k) (act t in_row at f)
    go false = refl

put_root : (d : Forest) (n : Node) (l : ℕ) → first_of (put_in d n l) ≡ cond (eqb n.parent 0) n.id (first_of d)
put_root d n l = go (eqb n.parent 0) (is_attribute n.kind) (eqb l 0)
  where
    go : (a b c : Bool) → first_of (cond a (node (label n) [] nil nil) (cond b (act n.parent unchanged (with_attribute (label n)) d)
        (cond c (act n.parent unchanged (with_first (label n)) d) (act l unchanged (with_behind (label n)) d))))
        ≡ cond a n.id (first_of d)
    go true b c = refl
    go false true c = first_stays n.parent unchanged _ (λ r as' k f. refl) d
    go false false true = first_stays n.parent unchanged _ (λ r as' k f. refl) d
    go false false false = first_stays l unchanged _ (λ r as' k f. refl) d

-- ---- a node put in
among_node : (a : Siblings) (n : Node) (l m : ℕ) → (row_among a n l m).node ≡ n
among_node Children n l m = refl
among_node Attributes n l m = refl

module _ (s : LinkedStore) (n : Node) (l : ℕ) (ok : put_says (limit_of s) (document s) n l ≡ Ok tt) where
  has_room : Holds s.table s.root (document s) → size (document s) < limit_of s
  has_room h =
      let a = puts.accepted (limit_of s) (document s) n l ok in
      let w = h.shows.within in
      let c = h.counted in
      let e = s.table.index.ok.0 in
      go (cases_lt (size (document s)) (limit_of s)) a (omega arith)
    where
      go : (size (document s) < limit_of s) ⊎ (limit_of s ≤ size (document s)) → puts.Accepted (limit_of s) (document s) n l → size (document s) ≤ limit_of s
          → size (document s) < limit_of s
      go (inl h) a w = h
      go (inr h) a w = absurd (a.room_left (omega arith))

  same : Holds s.table s.root (document s)
      → (among : Siblings) → among ≡ siblings_of n.kind → (pair : ℕ × ℕ) → pair ≡ neighbours (document s) among n l → (w : Row) → w ≡ row_among among n l pair.1
      → (u : ℕ) → linked_in among pair.0 w (rows_of (document s)) u ≡ rows_of (put_leaves (limit_of s) (document s) n l) u
  same h among ea pair ep w ew u =
      subst (λ (x : Row). linked_in among pair.0 x (rows_of (document s)) u ≡ rows_of (put_leaves (limit_of s) (document s) n l) u) (sym ew)
      (subst (λ (q : ℕ × ℕ). linked_in among q.0 (row_among among n l q.1) (rows_of (document s)) u ≡ rows_of (put_leaves (limit_of s) (document s) n l) u) (sym ep)
      (subst (λ (a : Siblings). linked_in a (neighbours (document s) a n l).0 (row_among a n l (neighbours (document s) a n l).1) (rows_of (document s)) u ≡ rows_of (put_leaves (limit_of s) (document s) n l) u) (sym ea)
      (put_shown (limit_of s) (document s) n l h.kept ok u)))

  pub put_stored : (t : Table) (among : Siblings) (pair : ℕ × ℕ) (w : Row) (root : ℕ)
      → among ≡ siblings_of n.kind → pair ≡ neighbours (document s) among n l → w ≡ row_among among n l pair.1 → root ≡ cond (eqb n.parent 0) n.id s.root
      → ((m : ℕ) (look : Lookup) → shows s.table m look → look w.node.id ≡ None → m < limit_of s → shows t (m + 1) (linked_in among pair.0 w look))
      → ∥ Holds t root (put_leaves (limit_of s) (document s) n l) ∥₁
  put_stored t among pair w root ea ep ew er E = ∥∥₁_map (holds s) (λ h.
      let a = puts.accepted (limit_of s) (document s) n l ok in
      let id : w.node.id ≡ n.id = ap (λ (x : Row). x.node.id) ew ∙ ap (λ (x : Node). x.id) (among_node among n l pair.1) in
      let none : rows_of (document s) w.node.id ≡ None = ap (rows_of (document s)) id ∙ ap (option_map row_of) (absent n.id 0 0 (document s) a.new) in
      let leaves = puts.leaves_accepted (limit_of s) (document s) n l ok in
      let after = E (size (document s)) (rows_of (document s)) (what_shows s.table s.root (document s) h) none (has_room h) in
      let grown = puts.put_size (limit_of s) (document s) n l h.kept a in
      what_holds t root (put_leaves (limit_of s) (document s) n l) (subst Kept (sym leaves) (puts.put_kept (limit_of s) (document s) n l h.kept a))
      (er ∙ ap (λ (r : ℕ). cond (eqb n.parent 0) n.id r) h.rooted ∙ sym (ap first_of leaves ∙ put_root (document s) n l))
      (shown_as t _ _ (linked_in among pair.0 w (rows_of (document s))) (rows_of (put_leaves (limit_of s) (document s) n l)) (sym grown ∙ ap size (sym leaves)) (same h among ea pair ep w ew) after))

-- ---- a node taken out
-- without its root a document is nothing; without another node it keeps its root
take_root : (d : Forest) (t : ℕ) (w : View) → Kept d → view d t ≡ Some w → first_of (without t d) ≡ cond (eqb w.row.parent 0) 0 (first_of d)
take_root d t w kept at = go d kept.root at (λ e. top (stands d kept t w at) e)
  where
    top : NodeStands d t w ⊎ AttributeStands d t w → w.row.parent ≡ 0 → first_of d ≡ t
    top (inl n) e = (n.top e).0
    top (inr a) e = let h = a.below in absurd (omega arith)

    go : (f : Forest) → AtMostOne f → view f t ≡ Some w → (w.row.parent ≡ 0 → first_of f ≡ t) → first_of (without t f) ≡ cond (eqb w.row.parent 0) 0 (first_of f)
    go nil one e h = let z : ◌≡◌ {A = ℕ} 0 1 = cc in absurd (omega arith)
    go (node r as' k (node q bs j f)) one e h = absurd one
    go (node r as' k nil) one e h = by (eqb r.id t) refl e
      where
        by : (b : Bool) → eqb r.id t ≡ b → cond b (Some (node_view 0 0 r as' k nil)) (or_else (view_attribute t r.id as') (or_else (view_in t r.id 0 k) None)) ≡ Some w
            → first_of (cond b nil (node r (lacking t as') (without t k) nil)) ≡ cond (eqb w.row.parent 0) 0 r.id
        by true q e = let v : w ≡ node_view 0 0 r as' k nil = cc in sym (cond-true _ _ _ (eq-eqb w.row.parent 0 (ap (λ (x : View). x.row.parent) v)))
        by false q e = sym (cond-false _ _ _ (ne_eqb w.row.parent 0 (λ z. eqb-false r.id t q (h z))))

take_size : (d : Forest) (t : ℕ) → Kept d → take_says d t ≡ Ok tt → size (take_leaves d t) + 1 ≡ size d
take_size d t kept ok =
    let e = takes.take_removes_one d t kept ok in
    let a = (size_and_root_are_listed d).0 in
    let b = (size_and_root_are_listed (take_leaves d t)).0 in
    let c = ap length e.0 in
    let h = e.1 in
    let f : length (removed_at (position t (listing d)) (listing d)) + 1 ≡ length (listing d) = simp (length-append, length-take, length-drop) (omega arith) in
    omega arith

seen_again : (w : Row) (o : Option View) → o ≡ Some (seen w) → option_map row_of o ≡ Some w
seen_again w o e = ap (option_map row_of) e

module _ (s : LinkedStore) (w : Row) (ok : take_says (document s) w.node.id ≡ Ok tt) (at : view (document s) w.node.id ≡ Some (seen w)) where
  pub take_stored : (t : Table) (among : Siblings) (before root : ℕ)
      → among ≡ siblings_of w.node.kind → before ≡ stands_behind (document s) among w → root ≡ cond (eqb w.node.parent 0) 0 s.root
      → ((n : ℕ) (look : Lookup) → shows s.table n look → look w.node.id ≡ Some w → shows t (n - 1) (linked_out among before w look))
      → ∥ Holds t root (take_leaves (document s) w.node.id) ∥₁
  take_stored t among before root ea eb er E = ∥∥₁_map (holds s) (λ h.
      let after = E (size (document s)) (rows_of (document s)) (what_shows s.table s.root (document s) h) (seen_again w (view (document s) w.node.id) at) in
      let leaves = takes.leaves_accepted (document s) w.node.id ok in
      let fewer = take_size (document s) w.node.id h.kept ok in
      what_holds t root (take_leaves (document s) w.node.id) (takes.take_keeps (size (document s)) (document s) w.node.id h.kept (omega arith)).0
      (er ∙ ap (λ (r : ℕ). cond (eqb w.node.parent 0) 0 r) h.rooted ∙ sym (ap first_of leaves ∙ take_root (document s) w.node.id (seen w) h.kept at))
      (shown_as t (size (document s) - 1) _ (linked_out among before w (rows_of (document s))) (rows_of (take_leaves (document s) w.node.id)) (omega (arith, fewer)) (same h among ea before eb) after))
    where
      same : Holds s.table s.root (document s)
          → (among : Siblings) → among ≡ siblings_of w.node.kind → (before : ℕ) → before ≡ stands_behind (document s) among w
          → (u : ℕ) → linked_out among before w (rows_of (document s)) u ≡ rows_of (take_leaves (document s) w.node.id) u
      same h among ea before eb u =
          subst (λ (i : ℕ). linked_out among i w (rows_of (document s)) u ≡ rows_of (take_leaves (document s) w.node.id) u) (sym eb)
          (subst (λ (a : Siblings). linked_out a (stands_behind (document s) a w) w (rows_of (document s)) u ≡ rows_of (take_leaves (document s) w.node.id) u) (sym ea)
          (take_shown (document s) w.node.id (seen w) h.kept at ok u))

-- the answer that leads to a row
pub row_told : (d : Forest) (id : ℕ) (w : Row) → Ok w ≡ asked row_of (view d id) → (w.node.id ≡ id) × (view d w.node.id ≡ Some (seen w))
row_told d id w e = go (view d id) refl e
  where
    go : (o : Option View) → view d id ≡ o → Ok w ≡ asked row_of o → (w.node.id ≡ id) × (view d w.node.id ≡ Some (seen w))
    go None h q = let z : ◌≡◌ {A = ℕ} 0 1 = cc in absurd (omega arith)
    go (Some v) h q =
        let same : w ≡ row_of v = cc in
        let i : w.node.id ≡ id = ap (λ (x : Row). x.node.id) same ∙ seen_id id 0 0 d v h in
        (i, ap (view d) i ∙ h ∙ ap (λ (x : Row). Some (seen x)) (sym same))

-- ---- another record for a node
rewritten : (d d' : Forest) (id : ℕ) (f g : Node → Node) → ((u : ℕ) → view d' u ≡ option_map (reshown f) (view d u)) → ((y : Node) → f y ≡ cond (eqb y.id id) (g y) y)
    → (u : ℕ) → changed id (with_record g) (rows_of d) u ≡ rows_of d' u
rewritten d d' id f g re is u = go (view d u) refl ∙ ap (option_map row_of) (sym (re u))
  where
    by : (b : Bool) (y : View) → cond b (Some (with_record g (row_of y))) (Some (row_of y)) ≡ Some (row (cond b (g y.row) y.row) y.left y.first_child y.next_sibling y.first_attribute y.next_attribute)
    by true y = refl
    by false y = refl

    none : (b : Bool) → cond b (option_map (with_record g) None) None ≡ None
    none true = refl
    none false = refl

    go : (o : Option View) → view d u ≡ o → changed id (with_record g) (rows_of d) u ≡ option_map row_of (option_map (reshown f) (view d u))
    go None h = rw h (none (eqb u id))
    go (Some y) h =
        let i : y.row.id ≡ u = seen_id u 0 0 d y h in
        rw h (by (eqb u id) y ∙ ap (λ (x : Node). Some (row x y.left y.first_child y.next_sibling y.first_attribute y.next_attribute)) (ap (λ (k : ℕ). cond (eqb k id) (g y.row) y.row) (sym i) ∙ sym (is y.row)))

first_edited : (t : ℕ) (e : Label → Label) → ((r : Label) → (e r).id ≡ r.id) → (d : Forest) → first_of (edited t e d) ≡ first_of d
first_edited t e same d = first_stays t (edit_labels t e) (edit_tree e) (λ r as' k f. same r) d

abbrev pub with_name : ℕ → Node → Node
with_name m x = record { id = x.id; parent = x.parent; kind = x.kind; name = m; value = x.value }

abbrev pub with_value : ℕ → Node → Node
with_value m x = record { id = x.id; parent = x.parent; kind = x.kind; name = x.name; value = m }

module _ (s : LinkedStore) (id : ℕ) (t : Table) where
  edit_stored : (f g : Node → Node) (d' : Forest) → ((u : ℕ) → view d' u ≡ option_map (reshown f) (view (document s) u)) → ((y : Node) → f y ≡ cond (eqb y.id id) (g y) y)
      → (Kept (document s) → Kept d' × (size d' ≡ size (document s))) → first_of d' ≡ first_of (document s)
      → ((n : ℕ) (look : Lookup) → shows s.table n look → shows t n (changed id (with_record g) look)) → ∥ Holds t s.root d' ∥₁
  edit_stored f g d' re is kept first E = ∥∥₁_map (holds s) (λ h.
      let k = kept h.kept in
      what_holds t s.root d' k.0 (h.rooted ∙ sym first)
      (shown_as t _ _ (changed id (with_record g) (rows_of (document s))) (rows_of d') (sym k.1) (rewritten (document s) d' id f g re is) (E (size (document s)) (rows_of (document s)) (what_shows s.table s.root (document s) h))))

  pub rename_stored : (m : ℕ) → rename_says (document s) id m ≡ Ok tt → ((n : ℕ) (look : Lookup) → shows s.table n look → shows t n (changed id (with_record (with_name m)) look))
      → ∥ Holds t s.root (rename_leaves (document s) id m) ∥₁
  rename_stored m ok =
      edit_stored (renamed_row id m) (with_name m) (rename_leaves (document s) id m) (rename_reshows (document s) id m ok) (λ y. refl) (rename_keeps (document s) id m)
      (ap (λ (r : Answer). first_of (after r (edited id (named m) (document s)) (document s))) ok ∙ first_edited id (named m) (λ r. refl) (document s))

  pub value_stored : (m : ℕ) → set_value_says (document s) id ≡ Ok tt → ((n : ℕ) (look : Lookup) → shows s.table n look → shows t n (changed id (with_record (with_value m)) look))
      → ∥ Holds t s.root (set_value_leaves (document s) id m) ∥₁
  value_stored m ok =
      edit_stored (revalued_row id m) (with_value m) (set_value_leaves (document s) id m) (set_value_reshows (document s) id m ok) (λ y. refl) (set_value_keeps (document s) id m)
      (ap (λ (r : Answer). first_of (after r (edited id (valued m) (document s)) (document s))) ok ∙ first_edited id (valued m) (λ r. refl) (document s))
