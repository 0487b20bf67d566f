-- What the rows of a store tell, as the listing of what it means.
use Rattle.std.proofs.Common.{◌≡◌, ℕ, zero, suc, ◌<◌, ◌≤◌, false, List, length, take, Some, None, Ok, Option, sym, refl, ap, ◌∙◌, subst, add-one, arith}
use Rattle.std.proofs.lemmas.List.{get_or-map, get_or-take, length-map, length-take-le}
use Rattle.records.specs.declared.nodes.Node.{Node}
use Rattle.document.specs.Tree.{Forest, nil, node, size, count}
use Rattle.document.specs.Listing.{listing, rows}
use Rattle.document.specs.Table.{is_attribute}
use Rattle.document.proofs.Counting.{length_of_rows}
use Rattle.ordered.specs.declared.entries.RowOf.{RowOf}
use Rattle.store.specs.Kept.{Kept, AtMostOne}
use Rattle.store.specs.Views.{View, view, asked}
use Rattle.store.specs.Listed.{position, times, row_with, found, Shown}
use Rattle.store.proofs.Along.{absent, unseen}
use Rattle.store.proofs.Places.{times_rows}
use Rattle.store.proofs.Questions.{record_is_listed}
use Rattle.store.proofs.Neighbours.{neighbours_are_listed}
use Rattle.store.proofs.Shapes.{no_zero}
use Rattle.flat.specs.declared.rows.FlatRow.{FlatRow}
use Rattle.flat.specs.Means.{no_node, no_row, at, nodes, means, Plain, Stored}
use Rattle.flat.proofs.Tables.{nth, times_at, once_at, Found, found_at, no_times}
use Rattle.flat.proofs.Chains.{Follows, chained}

pub nodes_long : (R : List FlatRow) (n : ℕ) → n ≤ length R → length (nodes R n) ≡ n
nodes_long R n h = length-map (take n R) (λ (r : FlatRow). r.node) ∙ length-take-le n R h

pub node_at : (R : List FlatRow) (n k : ℕ) → n ≤ length R → k < n → nth (nodes R n) k ≡ (at R k).node
node_at R n k h l =
    get_or-map (λ (r : FlatRow). r.node) (take n R) k no_row no_node (omega (arith, length-take-le n R h)) ∙ ap (λ (r : FlatRow). r.node) (get_or-take n R k no_row l)

-- ---- of a document and its listing

module _ (d : Forest) (kept : Kept d) (xs : List Node) (e : listing d ≡ xs) where
  is_rows : rows 0 d ≡ xs
  unfolding listing
  is_rows = e

  pub listed_times : (t : ℕ) → times t xs ≡ count t d
  listed_times t = rw (← is_rows) (times_rows t 0 d)

  pub listed_size : size d ≡ length xs
  listed_size = sym (length_of_rows 0 d) ∙ ap length is_rows

  pub listed_once : (i j : ℕ) → i < length xs → j < length xs → (nth xs i).id ≡ (nth xs j).id → i ≡ j
  listed_once i j h g q = once_at (nth xs j).id xs i j (omega (arith, listed_times (nth xs j).id, kept.distinct (nth xs j).id)) h g q refl

  pub listed_above : (k : ℕ) → k < length xs → 0 < (nth xs k).id
  listed_above k h = go (nth xs k).id refl
    where
      go : (m : ℕ) → (nth xs k).id ≡ m → 0 < m
      go zero q = absurd (omega (arith, times_at 0 xs k h q, listed_times 0, no_zero d kept.shaped))
      go (suc m) q = omega arith

  pub listed_next : (k : ℕ) → suc k < length xs → Follows (nth xs k) (nth xs (suc k))
  listed_next k h = rw (← is_rows) (chained 0 d kept.shaped k (rw is_rows h))

  pub listed_root : 0 < length xs → ((nth xs 0).parent ≡ 0) × (is_attribute (nth xs 0).kind ≡ false)
  listed_root h = rw (← is_rows) (go d kept.root (omega (arith, listed_size)))
    where
      go : (f : Forest) → AtMostOne f → 0 < size f → ((nth (rows 0 f) 0).parent ≡ 0) × (is_attribute (nth (rows 0 f) 0).kind ≡ false)
      go nil o l = absurd (omega arith)
      go (node r as' k nil) o l = (refl, ap is_attribute o)
      go (node r as' k (node s bs m f)) o l = absurd o

  -- a row with the identifier t shows what is seen of t
  pub record Seen (t i : ℕ) : Type 0 where
    pub v : View
    pub seen : view d t ≡ Some v
    pub row : v.row ≡ nth xs i
    pub place : position t xs ≡ i
    pub shown : Shown xs t v

  pub seen_at : (t i : ℕ) → i < length xs → (nth xs i).id ≡ t → Seen t i
  seen_at t i h q = go (view d t) refl
    where
      f : Found t xs i
      f = found_at t xs i (omega (arith, listed_times t, kept.distinct t)) h q

      go : (o : Option View) → view d t ≡ o → Seen t i
      go None u = absurd (omega (arith, times_at t xs i h q, listed_times t, unseen t 0 0 d u))
      go (Some v) u =
          let a : asked (λ w. w.row) (view d t) ≡ Ok v.row = ap (asked (λ w. w.row)) u in
          let b : asked (λ w. w.row) (view d t) ≡ found (Some (nth xs i)) = record_is_listed d t ∙ ap (λ (l : List Node). found (row_with t l)) e ∙ ap found f.row in
          let c : found (Some v.row) ≡ found (Some (nth xs i)) = sym a ∙ b in
          record {
            v = v;
            seen = u;
            row = cc;
            place = f.place;
            shown = subst (λ (l : List Node). Shown l t v) e (neighbours_are_listed d t v kept u);
          }

  pub unseen_from : (t : ℕ) → ((k : ℕ) → k < length xs → (nth xs k).id ≡ t → ⊥) → view d t ≡ None
  unseen_from t n = absent t 0 0 d (sym (listed_times t) ∙ no_times t xs n)

-- ---- of a store

module _ (R : List FlatRow) (X : List RowOf) (n : ℕ) (h : n ≤ length R) (s : Stored R X n) where
  long : length (nodes R n) ≡ n
  long = nodes_long R n h

  pub plain : Plain R n
  plain =
      record {
        above = λ k l. rw (← node_at R n k h l) (listed_above (means R n) s.kept (nodes R n) s.listed k (omega (arith, long)));
        once = λ i j l m e. listed_once (means R n) s.kept (nodes R n) s.listed i j (omega (arith, long)) (omega (arith, long)) (rw (node_at R n i h l, node_at R n j h m) e);
        next = λ k l.
            let m : k < n = omega arith in
            let g : suc k < n = omega arith in
            rw (add-one, ← node_at R n k h m, ← node_at R n (suc k) h g) (listed_next (means R n) s.kept (nodes R n) s.listed k (omega (arith, long)));
        root = λ l. rw (← node_at R n 0 h l) (listed_root (means R n) s.kept (nodes R n) s.listed (omega (arith, long)));
      }

  pub sight : (t i : ℕ) → i < n → (at R i).node.id ≡ t → Seen (means R n) s.kept (nodes R n) s.listed t i
  sight t i l e = seen_at (means R n) s.kept (nodes R n) s.listed t i (omega (arith, long)) (ap (λ (x : Node). x.id) (node_at R n i h l) ∙ e)

  pub no_sight : (t : ℕ) → ((k : ℕ) → k < n → (at R k).node.id ≡ t → ⊥) → view (means R n) t ≡ None
  no_sight t no' =
      unseen_from (means R n) s.kept (nodes R n) s.listed t
      (λ k l e. let m : k < n = omega (arith, long) in no' k m (ap (λ (x : Node). x.id) (sym (node_at R n k h m)) ∙ e))
