-- The rows of a document with the rows behind them, as the walk meets them, and where each node stands.
use Rattle.std.proofs.Common.{◌≡◌, ℕ, ◌+◌, ◌<◌, ◌≤◌, true, false, eqb, ltb, List, [], ◌∷◌, ◌++◌, Some, None, Option, refl, ap, ◌∙◌, inl, inr, arith}
use Rattle.std.proofs.lemmas.Bool.{eqb-true, eq-eqb, cases_Bool, cases_eq, lt-ltb}
use Rattle.document.specs.Tree.{Label, Forest, nil, node, one, count_labels, count}
use Rattle.document.proofs.Counting.{one_zero, one_refl}
use Rattle.store.specs.Views.{node_view, attribute_view, or_else, view_attribute, view_in, view}
use Rattle.store.proofs.Along.{absent_label, absent}
use Rattle.walk.specs.Ahead.{Row, row_below, or_rows, ahead_in, ahead, or_labels, labels_from, labels_in, labels_at}

-- a row of trees below p and behind l, with the rows s behind it
pub data Trail (d : Forest) : ℕ → ℕ → Forest → List Row → Type 0 where
  whole : Trail d 0 0 d []
  below : {p l : ℕ} {r : Label} {as' : List Label} {k f : Forest} {s : List Row} → Trail d p l (node r as' k f) s → Trail d r.id 0 k (row_below p f ∷ s)
  along : {p l : ℕ} {r : Label} {as' : List Label} {k f : Forest} {s : List Row} → Trail d p l (node r as' k f) s → Trail d p r.id f s

pub within : {d : Forest} {p l : ℕ} {f : Forest} {s : List Row} → Trail d p l f s → (y : ℕ) → count y f ≤ count y d
within whole y = omega arith
within (below t) y = omega (arith, within t y)
within (along t) y = omega (arith, within t y)

or_else_none : {X : Type 0} → (o : Option X) → or_else o None ≡ o
or_else_none None = refl
or_else_none (Some v) = refl

or_rows_none : (s : List Row) → or_rows s [] ≡ s
or_rows_none [] = refl
or_rows_none (w ∷ s) = refl

or_labels_none : (l : List Label) → or_labels l [] ≡ l
or_labels_none [] = refl
or_labels_none (r ∷ l) = refl

-- what is absent is not found
no_labels_from : (x : ℕ) (l : List Label) → count_labels x l ≡ 0 → labels_from x l ≡ []
no_labels_from x [] z = refl
no_labels_from x (r ∷ l) z =
    let e : eqb r.id x ≡ false = one_zero (eqb r.id x) (omega arith) in
    let i : labels_from x l ≡ [] = no_labels_from x l (omega arith) in rw (e, i)

no_labels_in : (x : ℕ) (f : Forest) → count x f ≡ 0 → labels_in x f ≡ []
no_labels_in x nil z = refl
no_labels_in x (node r as' k f) z =
    let i = no_labels_from x as' (omega arith) in
    let j = no_labels_in x k (omega arith) in
    let h = no_labels_in x f (omega arith) in rw (i, j, h)

none_ahead : (x : ℕ) (s : List Row) (p : ℕ) (f : Forest) → count x f ≡ 0 → ahead_in x s p f ≡ []
none_ahead x s p nil z = refl
none_ahead x s p (node r as' k f) z =
    let e : eqb r.id x ≡ false = one_zero (eqb r.id x) (omega arith) in
    let c : count_labels x as' ≡ 0 = omega arith in
    let j = none_ahead x (row_below p f ∷ s) r.id k (omega arith) in
    let h = none_ahead x s p f (omega arith) in rw (e, c, j, h)

-- a node of a row is found in the row
pub record Found (d : Forest) (p l : ℕ) (f : Forest) (s : List Row) (y : ℕ) : Type 0 where
  pub seen : view d y ≡ view_in y p l f
  pub onward : ahead_in y [] 0 d ≡ ahead_in y s p f
  pub labels : labels_in y d ≡ labels_in y f

module _ (p l : ℕ) (r : Label) (as' : List Label) (k f : Forest) (s : List Row) (y : ℕ) (once : count y (node r as' k f) ≤ 1) where
  not_here : 0 < count_labels y as' + (count y k + count y f) → eqb r.id y ≡ false
  not_here h = one_zero (eqb r.id y) (omega arith)

  seen_below : 0 < count y k → view_in y p l (node r as' k f) ≡ view_in y r.id 0 k
  seen_below h =
      let e = not_here (omega arith) in
      let a = absent_label y r.id as' (omega arith) in
      let b = absent y p r.id f (omega arith) in rw (e, a, b) (or_else_none (view_in y r.id 0 k))

  seen_along : 0 < count y f → view_in y p l (node r as' k f) ≡ view_in y p r.id f
  seen_along h =
      let e = not_here (omega arith) in
      let a = absent_label y r.id as' (omega arith) in
      let b = absent y r.id 0 k (omega arith) in rw (e, a, b)

  ahead_below : 0 < count y k → ahead_in y s p (node r as' k f) ≡ ahead_in y (row_below p f ∷ s) r.id k
  ahead_below h =
      let e = not_here (omega arith) in
      let c : count_labels y as' ≡ 0 = omega arith in
      let b = none_ahead y s p f (omega arith) in rw (e, c, b) (or_rows_none (ahead_in y (row_below p f ∷ s) r.id k))

  ahead_along : 0 < count y f → ahead_in y s p (node r as' k f) ≡ ahead_in y s p f
  ahead_along h =
      let e = not_here (omega arith) in
      let c : count_labels y as' ≡ 0 = omega arith in
      let b = none_ahead y (row_below p f ∷ s) r.id k (omega arith) in rw (e, c, b)

  labels_below : 0 < count y k → labels_in y (node r as' k f) ≡ labels_in y k
  labels_below h =
      let a = no_labels_from y as' (omega arith) in
      let b = no_labels_in y f (omega arith) in rw (a, b) (or_labels_none (labels_in y k))

  labels_along : 0 < count y f → labels_in y (node r as' k f) ≡ labels_in y f
  labels_along h =
      let a = no_labels_from y as' (omega arith) in
      let b = no_labels_in y k (omega arith) in rw (a, b)

pub found : {d : Forest} → ((t : ℕ) → count t d ≤ 1) → {p l : ℕ} {f : Forest} {s : List Row} → Trail d p l f s → (y : ℕ) → 0 < count y f → Found d p l f s y
found once whole y h = record { seen = refl; onward = refl; labels = refl }
found once (below {p = p} {l = l} {r = r} {as' = as'} {k = k} {f = f} {s = s} t) y h =
    let c : count y (node r as' k f) ≤ 1 = omega (arith, once y, within t y) in
    let u = found once t y (omega arith) in
    record {
      seen = u.seen ∙ seen_below p l r as' k f s y c h;
      onward = u.onward ∙ ahead_below p l r as' k f s y c h;
      labels = u.labels ∙ labels_below p l r as' k f s y c h;
    }
found once (along {p = p} {l = l} {r = r} {as' = as'} {k = k} {f = f} {s = s} t) y h =
    let c : count y (node r as' k f) ≤ 1 = omega (arith, once y, within t y) in
    let u = found once t y (omega arith) in
    record {
      seen = u.seen ∙ seen_along p l r as' k f s y c h;
      onward = u.onward ∙ ahead_along p l r as' k f s y c h;
      labels = u.labels ∙ labels_along p l r as' k f s y c h;
    }

-- a node of a row of trees, with all that stands about it
pub record Standing (d : Forest) : Type 0 where
  pub parent : ℕ
  pub left : ℕ
  pub label : Label
  pub attributes : List Label
  pub children : Forest
  pub behind : Forest
  pub rest : List Row
  pub trail : Trail d parent left (node label attributes children behind) rest

-- the node of whose children the row consists
abbrev pub Under : (d : Forest) → ℕ → List Row → Type 0
Under d p [] = p ≡ 0
Under d p (w ∷ s) = (e : Standing d) × (e.label.id ≡ p) × (row_below e.parent e.behind ≡ w) × (e.rest ≡ s)

pub up : {d : Forest} {p l : ℕ} {f : Forest} {s : List Row} → Trail d p l f s → Under d p s
up whole = refl
up (below {p = p} {l = l} {r = r} {as' = as'} {k = k} {f = f} {s = s} t) =
    (record { parent = p; left = l; label = r; attributes = as'; children = k; behind = f; rest = s; trail = t }, refl, refl, refl)
up (along t) = up t

-- the row behind the node of whose children a row consists
abbrev pub Trails : Forest → List Row → Type 0
Trails d [] = Unit {0}
Trails d (w ∷ s) = (l : ℕ) × Trail d w.parent l w.trees s

pub trails_behind : {d : Forest} {p l : ℕ} {f : Forest} {s : List Row} → Trail d p l f s → Trails d s
trails_behind whole = tt
trails_behind (below {r = r} t) = (r.id, along t)
trails_behind (along t) = trails_behind t

-- an attribute among others
pub record Among (a : Label) (l as' : List Label) : Type 0 where
  pub front : List Label
  pub split : as' ≡ front ++ (a ∷ l)

module _ (d : Forest) (once : (t : ℕ) → count t d ≤ 1) (w : Standing d) where
  pub standing_seen : view d w.label.id ≡ Some (node_view w.parent w.left w.label w.attributes w.children w.behind)
  standing_seen =
      let e = eq-eqb w.label.id w.label.id refl in
      (found once w.trail w.label.id (omega (arith, ap one e))).seen ∙ rw e

  pub standing_ahead : ahead d w.label.id ≡ row_below w.parent (node w.label w.attributes w.children w.behind) ∷ w.rest
  unfolding ahead
  standing_ahead =
      let e = eq-eqb w.label.id w.label.id refl in
      (found once w.trail w.label.id (omega (arith, ap one e))).onward ∙ rw e

  -- a node is no attribute
  pub standing_labels : labels_at d w.label.id ≡ []
  unfolding labels_at
  standing_labels =
      let c : count w.label.id (node w.label w.attributes w.children w.behind) ≤ 1 = omega (arith, once w.label.id, within w.trail w.label.id) in
      let i = one_refl w.label.id in
      let a = no_labels_from w.label.id w.attributes (omega arith) in
      let k = no_labels_in w.label.id w.children (omega arith) in
      let f = no_labels_in w.label.id w.behind (omega arith) in
      (found once w.trail w.label.id (omega (arith, i))).labels ∙ rw (a, k, f)

counted : (a : Label) (l front : List Label) → 1 ≤ count_labels a.id (front ++ (a ∷ l))
counted a l [] = omega (arith, one_refl a.id)
counted a l (b ∷ front) = omega (arith, counted a l front)

module _ (p : ℕ) (a : Label) (l : List Label) where
  view_among : (front : List Label) → count_labels a.id (front ++ (a ∷ l)) ≤ 1 → view_attribute a.id p (front ++ (a ∷ l)) ≡ Some (attribute_view p a l)
  view_among [] c = let e = eq-eqb a.id a.id refl in rw e
  view_among (b ∷ front) c =
      let e : eqb b.id a.id ≡ false = one_zero (eqb b.id a.id) (omega (arith, counted a l front)) in
      rw e (view_among front (omega arith))

  labels_among : (front : List Label) → count_labels a.id (front ++ (a ∷ l)) ≤ 1 → labels_from a.id (front ++ (a ∷ l)) ≡ a ∷ l
  labels_among [] c = let e = eq-eqb a.id a.id refl in rw e
  labels_among (b ∷ front) c =
      let e : eqb b.id a.id ≡ false = one_zero (eqb b.id a.id) (omega (arith, counted a l front)) in
      rw e (labels_among front (omega arith))

-- an attribute of a node
module _ (d : Forest) (once : (t : ℕ) → count t d ≤ 1) (w : Standing d) (a : Label) (l : List Label) (m : Among a l w.attributes) where
  here : 1 ≤ count_labels a.id w.attributes
  here = let e = m.split in rw e (counted a l m.front)

  single : count a.id (node w.label w.attributes w.children w.behind) ≤ 1
  single = omega (arith, once a.id, within w.trail a.id)

  elsewhere : eqb w.label.id a.id ≡ false
  elsewhere = one_zero (eqb w.label.id a.id) (omega (arith, here, single))

  at : Found d w.parent w.left (node w.label w.attributes w.children w.behind) w.rest a.id
  at = found once w.trail a.id (omega (arith, here))

  split_single : count_labels a.id (m.front ++ (a ∷ l)) ≤ 1
  split_single = omega (arith, single, ap (λ (q : List Label). count_labels a.id q) m.split)

  pub attribute_seen : view d a.id ≡ Some (attribute_view w.label.id a l)
  attribute_seen =
      let e = elsewhere in
      let v : view_attribute a.id w.label.id w.attributes ≡ Some (attribute_view w.label.id a l) =
      ap (view_attribute a.id w.label.id) m.split ∙ view_among w.label.id a l m.front split_single in
      at.seen ∙ rw (e, v)

  pub attribute_labels : labels_at d a.id ≡ a ∷ l
  unfolding labels_at
  attribute_labels =
      let v : labels_from a.id w.attributes ≡ a ∷ l = ap (labels_from a.id) m.split ∙ labels_among w.label.id a l m.front split_single in
      at.labels ∙ rw v

  pub attribute_ahead : ahead d a.id ≡ row_below w.label.id nil ∷ row_below w.parent w.behind ∷ w.rest
  unfolding ahead
  attribute_ahead =
      let e = elsewhere in
      let c : ltb 0 (count_labels a.id w.attributes) ≡ true = lt-ltb 0 (count_labels a.id w.attributes) (omega (arith, here)) in
      at.onward ∙ rw (e, c)

-- where a node stands: in a row of trees, or among the attributes of a node of one
pub record OfLabel (d : Forest) (x : ℕ) : Type 0 where
  pub owner : Standing d
  pub label : Label
  pub others : List Label
  pub id : label.id ≡ x
  pub among : Among label others owner.attributes

pub data Spot (d : Forest) (x : ℕ) : Type 0 where
  nowhere : count x d ≡ 0 → Spot d x
  in_row : (w : Standing d) → w.label.id ≡ x → Spot d x
  on_node : OfLabel d x → Spot d x

record Split (x : ℕ) (as' : List Label) : Type 0 where
  label : Label
  others : List Label
  id : label.id ≡ x
  among : Among label others as'

split : (x : ℕ) (as' : List Label) → 1 ≤ count_labels x as' → Split x as'
split x [] h = absurd (omega arith)
split x (r ∷ l) h = elim (cases_Bool (eqb r.id x)) [
  | inl e ↦ record { label = r; others = l; id = eqb-true r.id x e; among = record { front = []; split = refl } }
  | inr e ↦
      (let w = split x l (omega (arith, ap one e)) in
      record { label = w.label; others = w.others; id = w.id; among = record { front = r ∷ w.among.front; split = ap (λ q. r ∷ q) w.among.split } })
]

spot_in : {d : Forest} (x : ℕ) (f : Forest) {p l : ℕ} {s : List Row} → Trail d p l f s → 1 ≤ count x f → Spot d x
spot_in x nil t h = absurd (omega arith)
spot_in x (node r as' k f) {p} {l} {s} t h =
    elim (cases_Bool (eqb r.id x)) [
      | inl e ↦ in_row (record { parent = p; left = l; label = r; attributes = as'; children = k; behind = f; rest = s; trail = t }) (eqb-true r.id x e)
      | inr e ↦ elim (cases_eq (count_labels x as') 0) [
        | inr a ↦
            (let w = split x as' (omega arith) in
            on_node (record { owner = record { parent = p; left = l; label = r; attributes = as'; children = k; behind = f; rest = s; trail = t }; label = w.label; others = w.others; id = w.id; among = w.among }))
        | inl a ↦ elim (cases_eq (count x k) 0) [ inr b ↦ spot_in x k (below t) (omega arith) | inl b ↦ spot_in x f (along t) (omega (arith, ap one e)) ]
      ]
    ]

pub spot : (d : Forest) (x : ℕ) → Spot d x
spot d x = elim (cases_eq (count x d) 0) [ inl z ↦ nowhere z | inr h ↦ spot_in x d whole (omega arith) ]

pub unseen_ahead : (d : Forest) (x : ℕ) → count x d ≡ 0 → ahead d x ≡ []
unfolding ahead
unseen_ahead d x z = none_ahead x [] 0 d z

pub unseen_labels : (d : Forest) (x : ℕ) → count x d ≡ 0 → labels_at d x ≡ []
unfolding labels_at
unseen_labels d x z = no_labels_in x d z
