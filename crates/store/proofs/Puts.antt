-- A put that is accepted.
use Rattle.std.proofs.Common.{◌≡◌, ℕ, ◌+◌, ◌<◌, ◌≤◌, Bool, true, false, cond, not, ◌&&◌, ◌||◌, eqb, ◌⊎◌, List, [], ◌∷◌, Some, None, Ok, Err, Option, sym, refl, ap, ◌∙◌, subst, inl, inr, arith}
use Rattle.std.proofs.lemmas.Bool.{eqb-true, eqb-false, eq-eqb, both_ways, and_parts, or_cases, not-true, ltb-false, cases_lt}
use Rattle.records.specs.Formed.{formed_node}
use Rattle.records.specs.declared.nodes.Kind.{Kind}
use Rattle.records.specs.declared.nodes.Kind.TheVariants.{Element, Attribute, Text}
use Rattle.records.specs.declared.nodes.Node.{Node}
use Rattle.document.specs.Tree.{Label, Forest, nil, node, one, count, size}
use Rattle.document.specs.Listing.{row, label, rows, listing}
use Rattle.document.specs.Table.{is_attribute}
use Rattle.document.proofs.Counting.{length_of_rows}
use Rattle.faults.specs.declared.StoreFault.TheVariants.{Misformed, Known, Unsuited, Full}
use Rattle.store.specs.Kept.{AtMostOne, Kept}
use Rattle.store.specs.Views.{View, view, node_view}
use Rattle.store.specs.Writes.{act, unchanged, with_first, with_behind, with_attribute, without, put_in}
use Rattle.store.specs.Says.{Answer, after, is_element, is_there, is_element_there, is_child_of, fits_root, fits_below, fits, put_says, put_leaves, take_says}
use Rattle.store.specs.Listed.{position, past_smaller, past_attributes, past_all, place_behind, put_place, read_at}
use Rattle.store.specs.Statements.{PutAddsOne, PutKeeps, TakeUndoesPut}
use Rattle.store.proofs.Along.{there}
use Rattle.store.proofs.Places.{OneMore, more_here, more_inserted, more_length, more_times, times_rows}
use Rattle.store.proofs.Shapes.{holds_nothing}
use Rattle.store.proofs.Planting.{Planted, planted, as_first, as_next, as_attribute}

-- the tests of a put, all passed
abbrev tests : Bool → Bool → Bool → Bool → Answer
tests a b c e = cond (not a) (Err Misformed) (cond b (Err Known) (cond (not c) (Err Unsuited) (cond e (Err Full) (Ok tt))))

tests_passed : (a b c e : Bool) → tests a b c e ≡ Ok tt → (a ≡ true) × (b ≡ false) × (c ≡ true) × (e ≡ false)
tests_passed true false true false h = (refl, refl, refl, refl)
tests_passed true false true true h = let z : ◌≡◌ {A = ℕ} 0 1 = cc in absurd (omega arith)
tests_passed true false false e h = let z : ◌≡◌ {A = ℕ} 0 1 = cc in absurd (omega arith)
tests_passed true true c e h = let z : ◌≡◌ {A = ℕ} 0 1 = cc in absurd (omega arith)
tests_passed false b c e h = let z : ◌≡◌ {A = ℕ} 0 1 = cc in absurd (omega arith)

pub record Accepted (room : ℕ) (d : Forest) (n : Node) (l : ℕ) : Type 0 where
  pub formed : formed_node n ≡ true
  pub new : count n.id d ≡ 0
  pub suits : fits d n l ≡ true
  pub room_left : size d ≡ room → ⊥

pub accepted : (room : ℕ) (d : Forest) (n : Node) (l : ℕ) → put_says room d n l ≡ Ok tt → Accepted room d n l
accepted room d n l h =
    let t = tests_passed (formed_node n) (is_there (view d n.id)) (fits d n l) (eqb (size d) room) h in
    record {
      formed = t.0;
      new = omega (arith, ltb-false 0 (count n.id d) (sym (there n.id 0 0 d) ∙ t.1));
      suits = t.2;
      room_left = eqb-false (size d) room t.3;
    }

-- kinds by their tests
element_kind : (c : Kind) → is_element c ≡ true → (c ≡ Element) × (is_attribute c ≡ false)
element_kind Element e = (refl, refl)
element_kind Attribute e = absurd (both_ways false refl e)
element_kind Text e = absurd (both_ways false refl e)

attribute_kind : (c : Kind) → is_attribute c ≡ true → c ≡ Attribute
attribute_kind Attribute e = refl
attribute_kind Element e = absurd (both_ways false refl e)
attribute_kind Text e = absurd (both_ways false refl e)

pub nothing_there : (d : Forest) → size d ≡ 0 → d ≡ nil
nothing_there nil e = refl
nothing_there (node r as' k f) e = absurd (omega arith)

-- the parent and the left neighbour, as the test saw them
pub record ElementThere (o : Option View) : Type 0 where
  pub v : View
  pub at : o ≡ Some v
  pub element : v.row.kind ≡ Element
  pub child : is_attribute v.row.kind ≡ false

pub element_there : (o : Option View) → is_element_there o ≡ true → ElementThere o
element_there None e = absurd (both_ways false refl e)
element_there (Some v) e = let k = element_kind v.row.kind e in record { v = v; at = refl; element = k.0; child = k.1 }

pub record ChildThere (p : ℕ) (o : Option View) : Type 0 where
  pub v : View
  pub at : o ≡ Some v
  pub parent : v.row.parent ≡ p
  pub child : is_attribute v.row.kind ≡ false

child_there : (p : ℕ) (o : Option View) → is_child_of p o ≡ true → ChildThere p o
child_there p None e = absurd (both_ways false refl e)
child_there p (Some v) e =
    let t = and_parts (eqb v.row.parent p) (not (is_attribute v.row.kind)) e in
    record { v = v; at = refl; parent = eqb-true v.row.parent p t.0; child = not-true (is_attribute v.row.kind) t.1 }

pub record BelowThere (d : Forest) (n : Node) (l : ℕ) : Type 0 where
  pub parent : ElementThere (view d n.parent)
  pub left : (eqb l 0 || (not (is_attribute n.kind) && is_child_of n.parent (view d l))) ≡ true

pub below_there : (d : Forest) (n : Node) (l : ℕ) → fits_below d n l ≡ true → BelowThere d n l
below_there d n l h =
    let t = and_parts (is_element_there (view d n.parent)) (eqb l 0 || (not (is_attribute n.kind) && is_child_of n.parent (view d l))) h in
    record { parent = element_there (view d n.parent) t.0; left = t.1 }

pub sibling_there : (d : Forest) (n : Node) (l : ℕ) → BelowThere d n l → eqb l 0 ≡ false → ChildThere n.parent (view d l)
sibling_there d n l b z =
    go (or_cases (eqb l 0) (not (is_attribute n.kind) && is_child_of n.parent (view d l)) b.left)
  where
    go : (eqb l 0 ≡ true) ⊎ ((not (is_attribute n.kind) && is_child_of n.parent (view d l)) ≡ true) → ChildThere n.parent (view d l)
    go (inl e) = absurd (both_ways (eqb l 0) z e)
    go (inr e) = child_there n.parent (view d l) (and_parts (not (is_attribute n.kind)) (is_child_of n.parent (view d l)) e).1

module _ (room : ℕ) (d : Forest) (n : Node) (l : ℕ) (kept : Kept d) (a : Accepted room d n l) where
  on_nothing : n.parent ≡ 0 → is_attribute n.kind ≡ false → Planted n 0 nil (node (label n) [] nil nil) 0
  on_nothing e k =
      let same : row 0 (label n) ≡ n = ap (λ (q : ℕ). row q (label n)) (sym e) in
      record {
        more = subst (λ (y : Node). OneMore [] (row 0 (label n) ∷ []) 0 y) same (more_here [] (row 0 (label n)));
        shaped = (a.formed, holds_nothing n.kind k, tt, tt, tt, tt);
        undone = rw (eq-eqb n.id n.id refl);
        bare = λ l'. rw (eq-eqb n.id n.id refl);
      }

  as_root : n.parent ≡ 0 → fits_root d n l ≡ true → Planted n 0 d (node (label n) [] nil nil) 0
  as_root e h =
      let t = and_parts (eqb (size d) 0) (is_element n.kind && eqb l 0) h in
      let k = element_kind n.kind (and_parts (is_element n.kind) (eqb l 0) t.1).0 in
      rw (nothing_there d (eqb-true (size d) 0 t.0)) (on_nothing e k.1)

  below_parent : (b c : Bool) → is_attribute n.kind ≡ b → eqb l 0 ≡ c → BelowThere d n l
      → Planted n 0 d (cond b (act n.parent unchanged (with_attribute (label n)) d) (cond c (act n.parent unchanged (with_first (label n)) d) (act l unchanged (with_behind (label n)) d)))
      (cond b (position n.parent (rows 0 d) + read_at n.parent (past_smaller n.id) d)
      (cond c (position n.parent (rows 0 d) + read_at n.parent past_attributes d) (position l (rows 0 d) + read_at l past_all d)))
  below_parent true c e f t =
      let p = t.parent in
      planted n.parent n (with_attribute (label n)) (past_smaller n.id) p.v p.child
      (as_attribute n p.v p.child p.element a.formed (attribute_kind n.kind e)) d 0 0 (kept.distinct n.parent) p.at kept.shaped a.new
  below_parent false true e f t =
      let p = t.parent in
      planted n.parent n (with_first (label n)) past_attributes p.v p.child
      (as_first n p.v p.child p.element a.formed e) d 0 0 (kept.distinct n.parent) p.at kept.shaped a.new
  below_parent false false e f t =
      let s = sibling_there d n l t f in
      planted l n (with_behind (label n)) past_all s.v s.child
      (as_next n s.v s.child l s.parent a.formed e) d 0 0 (kept.distinct l) s.at kept.shaped a.new

  pub put_planted : Planted n 0 d (put_in d n l) (put_place d n l)
  unfolding listing
  put_planted = go (eqb n.parent 0) refl a.suits
    where
      go : (b : Bool) → eqb n.parent 0 ≡ b → cond b (fits_root d n l) (fits_below d n l) ≡ true
          → Planted n 0 d (cond b (node (label n) [] nil nil) (cond (is_attribute n.kind) (act n.parent unchanged (with_attribute (label n)) d) (cond (eqb l 0) (act n.parent unchanged (with_first (label n)) d) (act l unchanged (with_behind (label n)) d))))
          (cond b 0 (cond (is_attribute n.kind) (place_behind n.parent (past_smaller n.id) d) (cond (eqb l 0) (place_behind n.parent past_attributes d) (place_behind l past_all d))))
      go true e h = as_root (eqb-true n.parent 0 e) h
      go false e h = below_parent (is_attribute n.kind) (eqb l 0) refl refl (below_there d n l h)

  -- still one tree
  inside : (t : ℕ) (at : Label → List Label → Forest → Forest → Forest) → ((r : Label) (as' : List Label) (k : Forest) → r.kind ≡ Element → AtMostOne (at r as' k nil))
      → (d : Forest) → AtMostOne d → AtMostOne (act t unchanged at d)
  inside t at same nil h = tt
  inside t at same (node r as' k (node s bs m f)) h = absurd h
  inside t at same (node r as' k nil) h = go (eqb r.id t)
    where
      go : (b : Bool) → AtMostOne (cond b (at r as' (act t unchanged at k) nil) (node r as' (act t unchanged at k) nil))
      go true = same r as' (act t unchanged at k) h
      go false = h

  beside : (d : Forest) (v : View) → view d l ≡ Some v → (v.row.parent ≡ 0 → ⊥) → AtMostOne d → AtMostOne (act l unchanged (with_behind (label n)) d)
  beside nil v e ne h = tt
  beside (node r as' k (node s bs m f)) v e ne h = absurd h
  beside (node r as' k nil) v e ne h = go (eqb r.id l) refl
    where
      go : (b : Bool) → eqb r.id l ≡ b → AtMostOne (cond b (with_behind (label n) r as' (act l unchanged (with_behind (label n)) k) nil) (node r as' (act l unchanged (with_behind (label n)) k) nil))
      go false c = h
      go true c =
          let w : Some (node_view 0 0 r as' k nil) ≡ Some v = rw c at e in
          let u : node_view 0 0 r as' k nil ≡ v = cc in
          absurd (ne (ap (λ (x : View). x.row.parent) (sym u)))

  pub put_root : AtMostOne (put_in d n l)
  put_root = go (eqb n.parent 0) refl a.suits
    where
      below : (b c : Bool) → eqb l 0 ≡ c → (n.parent ≡ 0 → ⊥) → BelowThere d n l
          → AtMostOne (cond b (act n.parent unchanged (with_attribute (label n)) d) (cond c (act n.parent unchanged (with_first (label n)) d) (act l unchanged (with_behind (label n)) d)))
      below true c f ne t = inside n.parent (with_attribute (label n)) (λ r as' k h. h) d kept.root
      below false true f ne t = inside n.parent (with_first (label n)) (λ r as' k h. h) d kept.root
      below false false f ne t =
          let s = sibling_there d n l t f in
          beside d s.v s.at (λ z. ne (sym s.parent ∙ z)) kept.root

      go : (b : Bool) → eqb n.parent 0 ≡ b → cond b (fits_root d n l) (fits_below d n l) ≡ true
          → AtMostOne (cond b (node (label n) [] nil nil) (cond (is_attribute n.kind) (act n.parent unchanged (with_attribute (label n)) d) (cond (eqb l 0) (act n.parent unchanged (with_first (label n)) d) (act l unchanged (with_behind (label n)) d))))
      go true e h =
          let t = and_parts (eqb (size d) 0) (is_element n.kind && eqb l 0) h in
          (element_kind n.kind (and_parts (is_element n.kind) (eqb l 0) t.1).0).0
      go false e h = below (is_attribute n.kind) (eqb l 0) refl (eqb-false n.parent 0 e) (below_there d n l h)

  pub put_size : size (put_in d n l) ≡ size d + 1
  put_size = omega (arith, more_length (rows 0 d) (rows 0 (put_in d n l)) (put_place d n l) n put_planted.more, length_of_rows 0 d, length_of_rows 0 (put_in d n l))

  put_count : (t : ℕ) → count t (put_in d n l) ≡ count t d + one (eqb n.id t)
  put_count t = omega (arith, more_times t (rows 0 d) (rows 0 (put_in d n l)) (put_place d n l) n put_planted.more, times_rows t 0 d, times_rows t 0 (put_in d n l))

  pub put_kept : Kept (put_in d n l)
  put_kept = record { root = put_root; shaped = put_planted.shaped; distinct = λ t. once t (eqb n.id t) refl (put_count t) }
    where
      once : (t : ℕ) (b : Bool) → eqb n.id t ≡ b → count t (put_in d n l) ≡ count t d + one b → count t (put_in d n l) ≤ 1
      once t false e h = omega (arith, kept.distinct t)
      once t true e h = let z : count t d ≡ 0 = rw (← eqb-true n.id t e) a.new in omega arith

-- ---- what the statements say

pub leaves_accepted : (room : ℕ) (d : Forest) (n : Node) (l : ℕ) → put_says room d n l ≡ Ok tt → put_leaves room d n l ≡ put_in d n l
leaves_accepted room d n l h = ap (λ (r : Answer). after r (put_in d n l) d) h

pub put_adds_one : PutAddsOne
unfolding listing
put_adds_one room d n l kept h =
    let p = put_planted room d n l kept (accepted room d n l h) in
    let m = more_inserted (rows 0 d) (rows 0 (put_in d n l)) (put_place d n l) n p.more in
    (ap (λ (x : Forest). rows 0 x) (leaves_accepted room d n l h) ∙ m.0, omega (arith, m.1, length_of_rows 0 d))

pub put_keeps : PutKeeps
put_keeps room d n l kept within = go (put_says room d n l) refl
  where
    go : (r : Answer) → put_says room d n l ≡ r → Kept (after r (put_in d n l) d) × (size (after r (put_in d n l) d) ≤ room)
    go (Err e) h = (kept, within)
    go (Ok u) h =
        let a = accepted room d n l h in
        let s = put_size room d n l kept a in
        (put_kept room d n l kept a, fits_in (cases_lt (size d) room) a.room_left s)
      where
        fits_in : (size d < room) ⊎ (room ≤ size d) → (size d ≡ room → ⊥) → size (put_in d n l) ≡ size d + 1 → size (put_in d n l) ≤ room
        fits_in (inl o) ne s = omega arith
        fits_in (inr o) ne s = absurd (ne (omega arith))

pub take_undoes_put : TakeUndoesPut
take_undoes_put room d n l kept h =
    let p = put_planted room d n l kept (accepted room d n l h) in
    let says : take_says (put_leaves room d n l) n.id ≡ Ok tt = rw (leaves_accepted room d n l h) (p.bare 0) in (
      says,
      ap (λ (r : Answer). after r (without n.id (put_leaves room d n l)) (put_leaves room d n l)) says
          ∙ ap (λ (x : Forest). without n.id x) (leaves_accepted room d n l h) ∙ p.undone,
    )
