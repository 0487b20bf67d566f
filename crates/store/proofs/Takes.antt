-- A node taken out: one row fewer, and the shape kept.
use Rattle.std.proofs.Common.{◌≡◌, ℕ, ◌+◌, ◌≤◌, Bool, true, false, cond, eqb, List, [], ◌∷◌, ◌++◌, Some, None, Ok, Err, Option, sym, refl, ap, ◌∙◌, arith}
use Rattle.std.proofs.lemmas.Bool.{eqb-true, eq-eqb, and_parts}
use Rattle.document.specs.Tree.{Label, Forest, nil, node, one, count_labels, count, size}
use Rattle.document.specs.Listing.{row, attribute_rows, rows, listing}
use Rattle.document.proofs.Counting.{length_of_rows}
use Rattle.faults.specs.declared.StoreFault.TheVariants.{Unsuited}
use Rattle.store.specs.Kept.{Shaped, AtMostOne, Kept}
use Rattle.store.specs.Views.{View, view, attribute_view, node_view, view_attribute, view_in}
use Rattle.store.specs.Writes.{lacking, without_tree, without}
use Rattle.store.specs.Says.{Answer, after, is_bare, take_of, take_says, take_leaves}
use Rattle.store.specs.Listed.{position}
use Rattle.store.specs.Statements.{TakeRemovesOne, TakeKeeps}
use Rattle.store.proofs.Along.{Steps, along}
use Rattle.store.proofs.Places.{OneMore, more_here, more_behind, more_before, more_at, more_removed, more_length, more_times, position_past, position_within, times_labels, times_rows}
use Rattle.store.proofs.Questions.{seen_id}
use Rattle.store.proofs.Shapes.{no_first, no_label, holds_others, holds_other_labels, attributes_fewer, above_fewer, lacking_none}

-- d' is d, below p, without the node that v shows, which stood at place i of the rows
pub record Uprooted (v : View) (p : ℕ) (d d' : Forest) (i : ℕ) : Type 0 where
  pub fewer : OneMore (rows p d') (rows p d) i v.row
  pub shaped : Shaped d'

labels_fewer : (t q : ℕ) (v : View) (as' : List Label) → view_attribute t q as' ≡ Some v → count_labels t as' ≤ 1
    → OneMore (attribute_rows q (lacking t as')) (attribute_rows q as') (position t (attribute_rows q as')) v.row
labels_fewer t q v [] e c = let z : ◌≡◌ {A = ℕ} 0 1 = cc in absurd (omega arith)
labels_fewer t q v (r ∷ l) e c = go (eqb r.id t) refl e c (labels_fewer t q v l)
  where
    go : (b : Bool) → eqb r.id t ≡ b → cond b (Some (attribute_view q r l)) (view_attribute t q l) ≡ Some v → one b + count_labels t l ≤ 1
        → (view_attribute t q l ≡ Some v → count_labels t l ≤ 1 → OneMore (attribute_rows q (lacking t l)) (attribute_rows q l) (position t (attribute_rows q l)) v.row)
        → OneMore (attribute_rows q (cond b (lacking t l) (r ∷ lacking t l))) (row q r ∷ attribute_rows q l) (cond b 0 (1 + position t (attribute_rows q l))) v.row
    go true h e c ih =
        let w : attribute_view q r l ≡ v = cc in
        let same : row q r ≡ v.row = ap (λ (u : View). u.row) w in
        let none : count_labels t l ≡ 0 = omega arith in
        rw (lacking_none t l none, ← same) (more_here (attribute_rows q l) (row q r))
    go false h e c ih =
        more_at (row q r ∷ attribute_rows q (lacking t l)) (row q r ∷ attribute_rows q l) _ _ v.row (omega arith)
        (more_behind (row q r ∷ []) (attribute_rows q (lacking t l)) (attribute_rows q l) _ v.row (ih e (omega arith)))

module _ (t : ℕ) (v : View) (bare : is_bare v ≡ true) where
  abbrev Claim : ℕ → ℕ → Forest → Forest → Type 0
  Claim p l d d' = Shaped d → Uprooted v p d d' (position t (rows p d))

  pub bare_node : (p l : ℕ) (r : Label) (as' : List Label) (k f : Forest) → v ≡ node_view p l r as' k f → Shaped (node r as' k f) → (as' ≡ []) × (k ≡ nil)
  bare_node p l r as' k f w s =
      let b = and_parts (eqb v.first_child 0) (eqb v.first_attribute 0) bare in
      let c : v.first_child ≡ 0 = eqb-true v.first_child 0 b.0 in
      let a : v.first_attribute ≡ 0 = eqb-true v.first_attribute 0 b.1 in (
        no_label as' s.2 (ap (λ (u : View). u.first_attribute) (sym w) ∙ a),
        no_first k s.4 (ap (λ (u : View). u.first_child) (sym w) ∙ c),
      )

  alone : (p : ℕ) (r : Label) (as' : List Label) (k f : Forest) → as' ≡ [] → k ≡ nil → rows p (node r as' k f) ≡ row p r ∷ rows p f
  alone p r as' k f a c = rw (a, c)

  steps : Steps t (lacking t) without_tree v Claim
  steps = record {
    at_node = λ p l r as' k f e w z₁ z₂ z₃ s.
        let b = bare_node p l r as' k f w s in
        let same : row p r ≡ v.row = ap (λ (u : View). u.row) (sym w) in
        record {
          fewer = rw (alone p r as' k f b.0 b.1, e, ← same) (more_here (rows p f) (row p r));
          shaped = s.5;
        };
    at_label = λ p l r as' k f e w z₁ z₂ z₃ s.
        let A = attribute_rows r.id as' in
        let A' = attribute_rows r.id (lacking t as') in
        let R = rows r.id k ++ rows p f in
        record {
          fewer =
              more_at (row p r ∷ (A' ++ R)) (row p r ∷ (A ++ R)) _ _ v.row
              (rw e (omega (arith, position_within t A R (omega (arith, times_labels t r.id as')))))
              (more_behind (row p r ∷ []) (A' ++ R) (A ++ R) _ v.row (more_before R A' A _ v.row (labels_fewer t r.id v as' w (omega arith))));
          shaped = (s.0, holds_other_labels t r.kind as' (lacking t as') k s.1 (omega arith), attributes_fewer t as' s.2, above_fewer t 0 as' s.3, s.4, s.5);
        };
    below = λ p l r as' k k' f e z₁ o z₃ ih s.
        let m = ih s.4 in
        let A = attribute_rows r.id as' in
        let K = rows r.id k in
        let K' = rows r.id k' in
        let F = rows p f in
        record {
          fewer =
              more_at (row p r ∷ (A ++ (K' ++ F))) (row p r ∷ (A ++ (K ++ F))) _ _ v.row
              (rw e (omega (arith, position_past t A (K ++ F) (times_labels t r.id as' ∙ z₁), position_within t K F (omega (arith, times_rows t r.id k)))))
              (more_behind (row p r ∷ []) (A ++ (K' ++ F)) (A ++ (K ++ F)) _ v.row (more_behind A (K' ++ F) (K ++ F) _ v.row (more_before F K' K _ v.row m.fewer)));
          shaped = (s.0, holds_others t r.kind as' k k' s.1 o, s.2, s.3, m.shaped, s.5);
        };
    behind = λ p l r as' k f f' e z₁ z₂ o ih s.
        let m = ih s.5 in
        let A = attribute_rows r.id as' in
        let K = rows r.id k in
        let F = rows p f in
        let F' = rows p f' in
        record {
          fewer =
              more_at (row p r ∷ (A ++ (K ++ F'))) (row p r ∷ (A ++ (K ++ F))) _ _ v.row
              (rw e (omega (arith, position_past t A (K ++ F) (times_labels t r.id as' ∙ z₁), position_past t K F (times_rows t r.id k ∙ z₂))))
              (more_behind (row p r ∷ []) (A ++ (K ++ F')) (A ++ (K ++ F)) _ v.row (more_behind A (K ++ F') (K ++ F) _ v.row (more_behind K F' F _ v.row m.fewer)));
          shaped = (s.0, s.1, s.2, s.3, s.4, m.shaped);
        };
  }

  pub uprooted : (d : Forest) (p l : ℕ) → count t d ≤ 1 → view_in t p l d ≡ Some v → Claim p l d (without t d)
  uprooted = along t (lacking t) without_tree (lacking_none t) v Claim steps

-- a take that is accepted
pub record Accepted (d : Forest) (t : ℕ) : Type 0 where
  pub v : View
  pub at : view d t ≡ Some v
  pub bare : is_bare v ≡ true

pub accepted : (d : Forest) (t : ℕ) → take_says d t ≡ Ok tt → Accepted d t
accepted d t h = go (view d t) refl h
  where
    answer : Bool → Answer
    answer b = cond b (Ok tt) (Err Unsuited)

    bare_from : (b : Bool) → answer b ≡ Ok tt → b ≡ true
    bare_from true e = refl
    bare_from false e = let z : ◌≡◌ {A = ℕ} 0 1 = cc in absurd (omega arith)

    go : (o : Option View) → view d t ≡ o → take_of o ≡ Ok tt → Accepted d t
    go None e h = let z : ◌≡◌ {A = ℕ} 0 1 = cc in absurd (omega arith)
    go (Some v) e h = record { v = v; at = e; bare = bare_from (is_bare v) h }

pub leaves_accepted : (d : Forest) (t : ℕ) → take_says d t ≡ Ok tt → take_leaves d t ≡ without t d
leaves_accepted d t h = ap (λ (r : Answer). after r (without t d) d) h

still_one : (t : ℕ) (d : Forest) → AtMostOne d → AtMostOne (without t d)
still_one t nil h = tt
still_one t (node r as' k (node s bs m f)) h = absurd h
still_one t (node r as' k nil) h = go (eqb r.id t)
  where
    go : (b : Bool) → AtMostOne (cond b nil (node r (lacking t as') (without t k) nil))
    go true = tt
    go false = h

-- the node is gone
pub take_count : (d : Forest) (t : ℕ) → Kept d → take_says d t ≡ Ok tt → count t (without t d) ≡ 0
take_count d t kept h =
    let a = accepted d t h in
    let u = uprooted t a.v a.bare d 0 0 (kept.distinct t) a.at kept.shaped in
    let m = more_times t (rows 0 (without t d)) (rows 0 d) (position t (rows 0 d)) a.v.row u.fewer in
    let here : one (eqb a.v.row.id t) ≡ 1 = rw (eq-eqb a.v.row.id t (seen_id t 0 0 d a.v a.at)) in
    omega (arith, m, kept.distinct t, times_rows t 0 d, times_rows t 0 (without t d))

pub take_removes_one : TakeRemovesOne
unfolding listing
take_removes_one d t kept h =
    let a = accepted d t h in
    let u = uprooted t a.v a.bare d 0 0 (kept.distinct t) a.at kept.shaped in
    let m = more_removed (rows 0 (without t d)) (rows 0 d) (position t (rows 0 d)) a.v.row u.fewer in
    (ap (λ (x : Forest). rows 0 x) (leaves_accepted d t h) ∙ m.0, omega (arith, m.1, length_of_rows 0 d))

pub take_keeps : TakeKeeps
take_keeps room d t kept within = go (take_says d t) refl
  where
    go : (r : Answer) → take_says d t ≡ r → Kept (after r (without t d) d) × (size (after r (without t d) d) ≤ room)
    go (Err e) h = (kept, within)
    go (Ok u) h =
        let a = accepted d t h in
        let u = uprooted t a.v a.bare d 0 0 (kept.distinct t) a.at kept.shaped in
        let m = u.fewer in (
          record {
            root = still_one t d kept.root;
            shaped = u.shaped;
            distinct = λ x. omega (arith, kept.distinct x, more_times x (rows 0 (without t d)) (rows 0 d) (position t (rows 0 d)) a.v.row m, times_rows x 0 d, times_rows x 0 (without t d));
          },
          omega (arith, more_length (rows 0 (without t d)) (rows 0 d) (position t (rows 0 d)) a.v.row m, length_of_rows 0 d, length_of_rows 0 (without t d)),
        )
