-- One step of the walk: from a node to its attributes, to its children and to what is behind it.
use Rattle.std.proofs.Common.{◌≡◌, ℕ, ◌+◌, ◌<◌, ◌≤◌, List, [], ◌∷◌, ◌++◌, length, Some, sym, refl, ap, ◌∙◌, subst, ap₂, append_assoc, arith}
use Rattle.document.specs.Tree.{Label, Forest, nil, node, count, size}
use Rattle.document.proofs.Counting.{one_refl}
use Rattle.store.specs.Kept.{Kept}
use Rattle.store.specs.Views.{View, first_of, first_label, node_view, attribute_view, view}
use Rattle.store.specs.Links.{link_of}
use Rattle.store.proofs.Along.{absent}
use Rattle.store.proofs.Shapes.{no_zero}
use Rattle.walk.specs.Ahead.{Row, row_below, ahead, first_else, first_ahead, head_ahead, Walks, rows_behind, behind_node, rows_after, after_node, attributes_ahead, attributes_of, labels_at, over, size_ahead}
use Rattle.walk.proofs.Trails.{Trail, whole, below, along, within, Standing, Under, up, Trails, trails_behind, standing_seen, standing_ahead, attribute_seen, attribute_labels, attribute_ahead, OfLabel, Spot, nowhere, in_row, on_node, spot, unseen_ahead, unseen_labels}

-- the rows without the empty ones in front
abbrev settle : Forest → List Row → List Row → List Row
settle nil all rest = rest
settle (node r as' k f) all rest = all

abbrev pub settled : List Row → List Row
settled [] = []
settled (w ∷ s) = settle w.trees (w ∷ s) (settled s)

pub over_settled : {X : Type 0} → (g : ℕ → Forest → List X) → ((p : ℕ) → g p nil ≡ []) → (s : List Row) → over g (settled s) ≡ over g s
over_settled g z [] = refl
over_settled g z (w ∷ s) = go w.trees refl (over_settled g z s)
  where
    go : (f : Forest) → w.trees ≡ f → over g (settled s) ≡ over g s → over g (settle f (w ∷ s) (settled s)) ≡ g w.parent w.trees ++ over g s
    go nil e i = i ∙ ap (λ q. q ++ over g s) (sym (ap (g w.parent) e ∙ z w.parent))
    go (node r as' k f) e i = refl

pub size_settled : (s : List Row) → size_ahead (settled s) ≡ size_ahead s
size_settled [] = refl
size_settled (w ∷ s) = go w.trees refl (size_settled s)
  where
    go : (f : Forest) → w.trees ≡ f → size_ahead (settled s) ≡ size_ahead s → size_ahead (settle f (w ∷ s) (settled s)) ≡ size w.trees + size_ahead s
    go nil e i = omega (arith, ap size e)
    go (node r as' k f) e i = refl

-- from a node without a right neighbour to its parent: the same node is behind both
pub record Climbs (d : Forest) (x p : ℕ) : Type 0 where
  pub same : behind_node d p ≡ behind_node d x
  pub less : length (ahead d p) < length (ahead d x)

-- a node at which the walk stands
pub record NodeStep (d : Forest) (x : ℕ) : Type 0 where
  pub at : Standing d
  pub id : at.label.id ≡ x
  pub view_is : view d x ≡ Some (node_view at.parent at.left at.label at.attributes at.children at.behind)
  pub ahead_is : ahead d x ≡ row_below at.parent (node at.label at.attributes at.children at.behind) ∷ at.rest
  pub attributes_are : attributes_of d x ≡ at.attributes

-- the walk goes on with these rows
pub record Goes (d : Forest) (y : ℕ) (s : List Row) : Type 0 where
  pub walks : Walks d y
  pub rows_are : ahead d y ≡ settled s
  pub size_is : size_ahead (ahead d y) ≡ size_ahead s

-- of the attributes of x those from a on are left
pub record Left (d : Forest) (x a : ℕ) : Type 0 where
  pub front : List Label
  pub split : attributes_of d x ≡ front ++ labels_at d a
  pub begins : first_label (labels_at d a) ≡ a

-- the first of the attributes that are left
pub record LabelStep (d : Forest) (x a : ℕ) : Type 0 where
  pub label : Label
  pub others : List Label
  pub id : label.id ≡ a
  pub labels_are : labels_at d a ≡ label ∷ others
  pub view_is : view d a ≡ Some (attribute_view x label others)
  pub others_are : labels_at d (first_label others) ≡ others
  pub goes_on : (b : ℕ) → b ≡ first_label others → Left d x b

next_first : (n : ℕ) → (n ≡ 0 → ⊥) → (f : Forest) (m : ℕ) → n ≡ first_of f → n ≡ first_else f m
next_first n nz nil m e = absurd (nz e)
next_first n nz (node r as' k f) m e = e

module _ (d : Forest) (ok : Kept d) where
  pub zero_ahead : ahead d 0 ≡ []
  zero_ahead = unseen_ahead d 0 (no_zero d ok.shaped)

  pub zero_labels : labels_at d 0 ≡ []
  zero_labels = unseen_labels d 0 (no_zero d ok.shaped)

  pub above_zero : (w : Standing d) → w.label.id ≡ 0 → ⊥
  above_zero w e =
      let c : 1 ≤ count w.label.id (node w.label w.attributes w.children w.behind) = omega (arith, one_refl w.label.id) in
      omega (arith, within w.trail w.label.id, ap (λ (t : ℕ). count t d) e, no_zero d ok.shaped)

  -- the walk comes to the first of the rows that are left
  pub onward : (s : List Row) → Trails d s → ahead d (first_ahead s) ≡ settled s
  onward [] t = zero_ahead
  onward (w ∷ s) t = go w.trees refl t.1 (onward s)
    where
      go : (f : Forest) → w.trees ≡ f → Trail d w.parent t.0 w.trees s → (Trails d s → ahead d (first_ahead s) ≡ settled s)
          → ahead d (first_else f (first_ahead s)) ≡ settle f (w ∷ s) (settled s)
      go nil e u i = i (trails_behind u)
      go (node r as' k f) e u i =
          standing_ahead d ok.distinct (record { parent = w.parent; left = t.0; label = r; attributes = as'; children = k; behind = f; rest = s; trail = subst (λ (q : Forest). Trail d w.parent t.0 q s) e u })
          ∙ ap (λ (q : Forest). row_below w.parent q ∷ s) (sym e)

  first_settled : (s : List Row) → head_ahead (settled s) ≡ first_ahead s
  first_settled [] = refl
  first_settled (w ∷ s) = go w.trees refl (first_settled s)
    where
      go : (f : Forest) → w.trees ≡ f → head_ahead (settled s) ≡ first_ahead s → head_ahead (settle f (w ∷ s) (settled s)) ≡ first_else f (first_ahead s)
      go nil e i = i
      go (node r as' k f) e i = ap first_of e

  -- the walk stands at a node
  pub stands : (x : ℕ) → Walks d x → (x ≡ 0 → ⊥) → (w : Standing d) × (w.label.id ≡ x)
  stands x h nz = go (spot d x)
    where
      go : Spot d x → (w : Standing d) × (w.label.id ≡ x)
      go (nowhere z) = absurd (nz (sym h ∙ ap head_ahead (unseen_ahead d x z)))
      go (in_row w e) = (w, e)
      go (on_node w) =
          absurd (nz (sym h ∙ (ap (λ (t : ℕ). head_ahead (ahead d t)) (sym w.id) ∙ ap head_ahead (attribute_ahead d ok.distinct w.owner w.label w.others w.among))))

  -- THE NEXT NODE THAT IS NOT BELOW A NODE
  -- no node has the identifier 0
  pub above_first : (f : Forest) {p l : ℕ} {s : List Row} → Trail d p l f s → first_of f ≡ 0 → f ≡ nil
  above_first nil t e = refl
  above_first (node r as' k f) {p} {l} {s} t e =
      absurd (above_zero (record { parent = p; left = l; label = r; attributes = as'; children = k; behind = f; rest = s; trail = t }) e)

  seen_at : (w : Standing d) (x : ℕ) → w.label.id ≡ x → view d x ≡ Some (node_view w.parent w.left w.label w.attributes w.children w.behind)
  seen_at w x e = ap (view d) (sym e) ∙ standing_seen d ok.distinct w

  ahead_at : (w : Standing d) (x : ℕ) → w.label.id ≡ x → ahead d x ≡ row_below w.parent (node w.label w.attributes w.children w.behind) ∷ w.rest
  ahead_at w x e = ap (ahead d) (sym e) ∙ standing_ahead d ok.distinct w

  label_seen : (x : ℕ) (w : OfLabel d x) → view d x ≡ Some (attribute_view w.owner.label.id w.label w.others)
  label_seen x w = ap (view d) (sym w.id) ∙ attribute_seen d ok.distinct w.owner w.label w.others w.among

  label_ahead : (x : ℕ) (w : OfLabel d x) → ahead d x ≡ row_below w.owner.label.id nil ∷ row_below w.owner.parent w.owner.behind ∷ w.owner.rest
  label_ahead x w = ap (ahead d) (sym w.id) ∙ attribute_ahead d ok.distinct w.owner w.label w.others w.among

  -- what is seen of a node that is nowhere, in a row, or an attribute
  link_none : (f : View → ℕ) (x : ℕ) → count x d ≡ 0 → link_of f (view d x) ≡ 0
  link_none f x z = ap (link_of f) (absent x 0 0 d z)

  pub beside : (x n : ℕ) → n ≡ link_of (λ v. v.next_sibling) (view d x) → (n ≡ 0 → ⊥) → n ≡ behind_node d x
  beside x n h nz = go (spot d x)
    where
      go : Spot d x → n ≡ behind_node d x
      go (nowhere z) = absurd (nz (h ∙ link_none (λ v. v.next_sibling) x z))
      go (in_row w q) =
          next_first n nz w.behind (first_ahead w.rest) (h ∙ ap (link_of (λ v. v.next_sibling)) (seen_at w x q)) ∙ sym (ap (λ (s : List Row). first_ahead (rows_behind s)) (ahead_at w x q))
      go (on_node w) = absurd (nz (h ∙ ap (link_of (λ v. v.next_sibling)) (label_seen x w)))

  -- from a node without a right neighbour to its parent
  pub climbs : (x p : ℕ) → link_of (λ v. v.next_sibling) (view d x) ≡ 0 → p ≡ link_of (λ v. v.row.parent) (view d x) → (p ≡ 0 → ⊥) → Climbs d x p
  climbs x p h q nz = go (spot d x)
    where
      climb : (s : List Row) (f : Forest) → f ≡ nil → (r : Label) (as' : List Label) (k : Forest) → Under d p s → ahead d x ≡ row_below p (node r as' k f) ∷ s → Climbs d x p
      climb [] f e r as' k u a = absurd (nz u)
      climb (w ∷ s) f e r as' k u a =
          let b : ahead d p ≡ row_below u.0.parent (node u.0.label u.0.attributes u.0.children u.0.behind) ∷ u.0.rest = ahead_at u.0 p u.1 in
          record {
            same = ap (λ (t : List Row). first_ahead (rows_behind t)) b ∙ (ap₂ (λ (v : Row) (t : List Row). first_ahead (v ∷ t)) u.2 u.3
                ∙ sym (ap (λ (t : List Row). first_ahead (rows_behind t)) a ∙ ap (λ (g : Forest). first_else g (first_ahead (w ∷ s))) e));
            less = omega (arith, ap length a, ap length b, ap length u.3);
          }

      go : Spot d x → Climbs d x p
      go (nowhere z) = absurd (nz (q ∙ link_none (λ v. v.row.parent) x z))
      go (in_row w e) =
          let n : first_of w.behind ≡ 0 = sym (ap (link_of (λ v. v.next_sibling)) (seen_at w x e)) ∙ h in
          let i : w.parent ≡ p = sym (q ∙ ap (link_of (λ v. v.row.parent)) (seen_at w x e)) in
          climb w.rest w.behind (above_first w.behind (along w.trail) n) w.label w.attributes w.children (subst (λ (t : ℕ). Under d t w.rest) i (up w.trail))
          (ahead_at w x e ∙ ap (λ (t : ℕ). row_below t (node w.label w.attributes w.children w.behind) ∷ w.rest) i)
      go (on_node w) =
          let i : w.owner.label.id ≡ p = sym (q ∙ ap (link_of (λ v. v.row.parent)) (label_seen x w)) in
          let b = ahead_at w.owner p i in
          let a = label_ahead x w in
          record {
            same = ap (λ (t : List Row). first_ahead (rows_behind t)) b ∙ sym (ap (λ (t : List Row). first_ahead (rows_behind t)) a);
            less = omega (arith, ap length a, ap length b);
          }

  -- at the end of the outermost row
  pub ends : (x p : ℕ) → link_of (λ v. v.next_sibling) (view d x) ≡ 0 → p ≡ link_of (λ v. v.row.parent) (view d x) → p ≡ 0 → 0 ≡ behind_node d x
  ends x p h q z = go (spot d x)
    where
      none : (s : List Row) → Under d 0 s → s ≡ []
      none [] u = refl
      none (w ∷ s) u = absurd (above_zero u.0 u.1)

      go : Spot d x → 0 ≡ behind_node d x
      go (nowhere e) = sym (ap (λ (t : List Row). first_ahead (rows_behind t)) (unseen_ahead d x e))
      go (in_row w e) =
          let n : first_of w.behind ≡ 0 = sym (ap (link_of (λ v. v.next_sibling)) (seen_at w x e)) ∙ h in
          let i : w.parent ≡ 0 = sym (q ∙ ap (link_of (λ v. v.row.parent)) (seen_at w x e)) ∙ z in
          let f = above_first w.behind (along w.trail) n in
          let s = none w.rest (subst (λ (t : ℕ). Under d t w.rest) i (up w.trail)) in
          sym (ap (λ (t : List Row). first_ahead (rows_behind t)) (ahead_at w x e) ∙ ap₂ (λ (g : Forest) (t : List Row). first_else g (first_ahead t)) f s)
      go (on_node w) = absurd (above_zero w.owner (sym (q ∙ ap (link_of (λ v. v.row.parent)) (label_seen x w)) ∙ z))

  -- THE NEXT NODE IN DOCUMENT ORDER
  pub child_after : (x n : ℕ) → n ≡ link_of (λ v. v.first_child) (view d x) → (n ≡ 0 → ⊥) → n ≡ after_node d x
  child_after x n h nz = go (spot d x)
    where
      go : Spot d x → n ≡ after_node d x
      go (nowhere z) = absurd (nz (h ∙ link_none (λ v. v.first_child) x z))
      go (in_row w q) =
          next_first n nz w.children (first_ahead (row_below w.parent w.behind ∷ w.rest)) (h ∙ ap (link_of (λ v. v.first_child)) (seen_at w x q))
          ∙ sym (ap (λ (s : List Row). first_ahead (rows_after s)) (ahead_at w x q))
      go (on_node w) = absurd (nz (h ∙ ap (link_of (λ v. v.first_child)) (label_seen x w)))

  pub childless_after : (x : ℕ) → link_of (λ v. v.first_child) (view d x) ≡ 0 → behind_node d x ≡ after_node d x
  childless_after x h = go (spot d x)
    where
      go : Spot d x → behind_node d x ≡ after_node d x
      go (nowhere z) = ap (λ (s : List Row). first_ahead (rows_behind s)) (unseen_ahead d x z) ∙ sym (ap (λ (s : List Row). first_ahead (rows_after s)) (unseen_ahead d x z))
      go (in_row w q) =
          let n : first_of w.children ≡ 0 = sym (ap (link_of (λ v. v.first_child)) (seen_at w x q)) ∙ h in
          ap (λ (s : List Row). first_ahead (rows_behind s)) (ahead_at w x q)
          ∙ sym (ap (λ (s : List Row). first_ahead (rows_after s)) (ahead_at w x q)
          ∙ ap (λ (g : Forest). first_else g (first_ahead (row_below w.parent w.behind ∷ w.rest))) (above_first w.children (below w.trail) n))
      go (on_node w) = ap (λ (s : List Row). first_ahead (rows_behind s)) (label_ahead x w) ∙ sym (ap (λ (s : List Row). first_ahead (rows_after s)) (label_ahead x w))

  pub node_step : (x : ℕ) → Walks d x → (x ≡ 0 → ⊥) → NodeStep d x
  unfolding attributes_of
  node_step x h nz =
      let w = stands x h nz in
      record { at = w.0; id = w.1; view_is = seen_at w.0 x w.1; ahead_is = ahead_at w.0 x w.1; attributes_are = ap attributes_ahead (ahead_at w.0 x w.1) }

  goes : (s : List Row) → Trails d s → (y : ℕ) → y ≡ first_ahead s → Goes d y s
  goes s t y e =
      let r : ahead d y ≡ settled s = ap (ahead d) e ∙ onward s t in
      record { walks = ap head_ahead r ∙ (first_settled s ∙ sym e); rows_are = r; size_is = ap size_ahead r ∙ size_settled s }

  pub goes_over : {X : Type 0} → (g : ℕ → Forest → List X) → ((p : ℕ) → g p nil ≡ []) → (y : ℕ) (s : List Row) → Goes d y s → over g (ahead d y) ≡ over g s
  goes_over g z y s w = ap (over g) w.rows_are ∙ over_settled g z s

  pub goes_after : (x : ℕ) (w : NodeStep d x) (y : ℕ) → y ≡ after_node d x → Goes d y (row_below x w.at.children ∷ row_below w.at.parent w.at.behind ∷ w.at.rest)
  goes_after x w y h =
      let e : y ≡ first_ahead (row_below w.at.label.id w.at.children ∷ row_below w.at.parent w.at.behind ∷ w.at.rest) =
      h ∙ ap (λ (s : List Row). first_ahead (rows_after s)) w.ahead_is in
      subst (λ (i : ℕ). Goes d y (row_below i w.at.children ∷ row_below w.at.parent w.at.behind ∷ w.at.rest)) w.id
      (goes (row_below w.at.label.id w.at.children ∷ row_below w.at.parent w.at.behind ∷ w.at.rest) (0, below w.at.trail) y e)

  pub goes_behind : (x : ℕ) (w : NodeStep d x) (y : ℕ) → y ≡ behind_node d x → Goes d y (row_below w.at.parent w.at.behind ∷ w.at.rest)
  goes_behind x w y h =
      let e : y ≡ first_ahead (row_below w.at.parent w.at.behind ∷ w.at.rest) = h ∙ ap (λ (s : List Row). first_ahead (rows_behind s)) w.ahead_is in
      goes (row_below w.at.parent w.at.behind ∷ w.at.rest) (w.at.label.id, along w.at.trail) y e

  -- the walk begins with the whole document
  pub goes_whole : (y : ℕ) → y ≡ first_of d → Goes d y (row_below 0 d ∷ [])
  goes_whole y e = goes (row_below 0 d ∷ []) (0, whole) y (e ∙ first d)
    where
      first : (f : Forest) → first_of f ≡ first_else f 0
      first nil = refl
      first (node r as' k f) = refl

  labels_again : (w : Standing d) (front m : List Label) → w.attributes ≡ front ++ m → labels_at d (first_label m) ≡ m
  labels_again w front [] e = zero_labels
  labels_again w front (b ∷ m) e = attribute_labels d ok.distinct w b m (record { front = front; split = e })

  pub left_all : (x : ℕ) (w : NodeStep d x) (a : ℕ) → a ≡ link_of (λ v. v.first_attribute) (view d x) → Left d x a × (labels_at d a ≡ attributes_of d x)
  left_all x w a h =
      let e : a ≡ first_label w.at.attributes = h ∙ ap (link_of (λ v. v.first_attribute)) w.view_is in
      let l : labels_at d a ≡ w.at.attributes = ap (labels_at d) e ∙ labels_again w.at [] w.at.attributes refl in
      (record { front = []; split = w.attributes_are ∙ sym l; begins = ap first_label l ∙ sym e }, l ∙ sym w.attributes_are)

  pub label_step : (x : ℕ) (w : NodeStep d x) (a : ℕ) → Left d x a → (a ≡ 0 → ⊥) → LabelStep d x a
  label_step x w a u nz = go (labels_at d a) refl
    where
      go : (m : List Label) → labels_at d a ≡ m → LabelStep d x a
      go [] e = absurd (nz (sym u.begins ∙ ap first_label e))
      go (b ∷ m) e =
          let i : b.id ≡ a = sym (ap first_label e) ∙ u.begins in
          let s : w.at.attributes ≡ u.front ++ (b ∷ m) = sym w.attributes_are ∙ (u.split ∙ ap (λ q. u.front ++ q) e) in
          let s' : w.at.attributes ≡ (u.front ++ (b ∷ [])) ++ m = s ∙ sym (append_assoc u.front (b ∷ []) m) in
          let o : labels_at d (first_label m) ≡ m = labels_again w.at (u.front ++ (b ∷ [])) m s' in
          record {
            label = b;
            others = m;
            id = i;
            labels_are = e;
            view_is = ap (view d) (sym i) ∙ (attribute_seen d ok.distinct w.at b m (record { front = u.front; split = s }) ∙ ap (λ (t : ℕ). Some (attribute_view t b m)) w.id);
            others_are = o;
            goes_on = λ y h. record {
              front = u.front ++ (b ∷ []);
              split = w.attributes_are ∙ (s' ∙ ap (λ q. (u.front ++ (b ∷ [])) ++ q) (sym (ap (labels_at d) h ∙ o)));
              begins = ap (λ (t : ℕ). first_label (labels_at d t)) h ∙ (ap first_label o ∙ sym h);
            };
          }
