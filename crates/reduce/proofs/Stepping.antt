-- One step of the walk that writes the reduced list.
use Rattle.std.proofs.Common.{◌≡◌, ℕ, ◌<◌, Bool, true, false, cond, eqb, List, [], ◌∷◌, ◌++◌, length, sym, refl, ap, ◌∙◌, ap₂, append_assoc, arith}
use Rattle.std.proofs.lemmas.Bool.{cond-true, cond-false, ne_eqb}
use Rattle.records.specs.declared.operations.Code.TheVariants.{InsertBefore, InsertLast}
use Rattle.document.specs.Tree.{Label, Forest, nil, node}
use Rattle.store.specs.Kept.{Kept}
use Rattle.store.specs.Views.{first_of, first_label, view}
use Rattle.store.specs.Links.{link_of}
use Rattle.changes.specs.Changes.{Change}
use Rattle.walk.specs.Ahead.{ahead, behind_node, after_node, Walks, attributes_of, labels_at, over, size_ahead}
use Rattle.walk.proofs.Trails.{below, along}
use Rattle.walk.proofs.Walking.{NodeStep, Left, zero_ahead, zero_labels, above_first, node_step, left_all, label_step, goes_over, goes_after, goes_behind, goes_whole}
use Rattle.reduce.specs.declared.keys.Key.{Key}
use Rattle.reduce.specs.Groups.{key, gap_key}
use Rattle.reduce.specs.Mirror.{group, goes, cuts, left_on_attribute, left_on_attributes, gap, left_on, left_at, left_ahead, reduced_row}

pub append-nil : {X : Type 0} → (l : List X) → l ++ [] ≡ l
append-nil [] = refl
append-nil (y ∷ l) = ap (λ q. y ∷ q) (append-nil l)

-- the group of a gap, by the first node of the row behind it
gap_found : (l : List Change) (p : ℕ) (f : Forest) (h : ℕ) → h ≡ first_of f → (first_of f ≡ 0 → f ≡ nil) → group l (gap_key h p).target (gap_key h p).code ≡ gap l p f
gap_found l p nil h e z = ap (λ (i : ℕ). group l (gap_key i p).target (gap_key i p).code) e
gap_found l p (node r as' k f) h e z =
    ap (λ (i : ℕ). group l (gap_key i p).target (gap_key i p).code) e
    ∙ ap (λ (q : Key). group l q.target q.code) (cond-false (eqb r.id 0) (key p InsertLast) (key r.id InsertBefore) (ne_eqb r.id 0 (λ w. let q : node r as' k f ≡ nil = z w in let z : ◌≡◌ {A = ℕ} 0 1 = cc in omega arith)))

pub record AttributeReduced (d : Forest) (l : List Change) (x a b : ℕ) : Type 0 where
  pub goes_on : Left d x b
  pub all : left_on_attributes l (labels_at d a) ≡ left_on_attribute l a ++ left_on_attributes l (labels_at d b)
  pub less : length (labels_at d b) < length (labels_at d a)

pub record NodeReduced (d : Forest) (l : List Change) (x y : ℕ) : Type 0 where
  pub walks : Walks d y
  pub all : over (reduced_row l) (ahead d x) ≡ left_ahead l (ahead d x) ++ over (reduced_row l) (ahead d y)
  pub less : size_ahead (ahead d y) < size_ahead (ahead d x)

module _ (d : Forest) (ok : Kept d) (l : List Change) where
  pub attributes_begin : (x a : ℕ) → Walks d x → 0 < x → a ≡ link_of (λ v. v.first_attribute) (view d x) → Left d x a × (labels_at d a ≡ attributes_of d x)
  attributes_begin x a h nz e = left_all d ok x (node_step d ok x h (λ z. omega arith)) a e

  pub attribute_reduced : (x a b : ℕ) → Walks d x → 0 < x → Left d x a → (a ≡ 0 → ⊥) → b ≡ link_of (λ w. w.next_attribute) (view d a) → AttributeReduced d l x a b
  attribute_reduced x a b h nz u na en =
      let s = label_step d ok x (node_step d ok x h (λ e. omega arith)) a u na in
      let n : b ≡ first_label s.others = en ∙ ap (link_of (λ w. w.next_attribute)) s.view_is in
      let o : labels_at d b ≡ s.others = ap (labels_at d) n ∙ s.others_are in
      record {
        goes_on = s.goes_on b n;
        all = ap (left_on_attributes l) s.labels_are ∙ ap₂ (λ (i : ℕ) (m : List Label). left_on_attribute l i ++ left_on_attributes l m) s.id (sym o);
        less = omega (arith, ap length s.labels_are, ap length o);
      }

  pub no_attributes : (a : ℕ) → a ≡ 0 → labels_at d a ≡ []
  no_attributes a e = ap (labels_at d) e ∙ zero_labels d ok

  -- what is left on a node, with the gaps that a store shows
  pub left_here : (x n p c : ℕ) (beyond under : Key) → Walks d x → 0 < x → n ≡ link_of (λ v. v.next_sibling) (view d x) → p ≡ link_of (λ v. v.row.parent) (view d x)
      → c ≡ link_of (λ v. v.first_child) (view d x) → beyond ≡ gap_key n p → under ≡ gap_key c x
      → left_ahead l (ahead d x)
      ≡ left_on l x (group l beyond.target beyond.code) (group l under.target under.code) ++ cond (goes l x) [] (left_on_attributes l (attributes_of d x))
  left_here x n p c beyond under h nz en ep ec eb eu =
      let s = node_step d ok x h (λ e. omega arith) in
      let v = s.view_is in
      let g : group l beyond.target beyond.code ≡ gap l s.at.parent s.at.behind =
      ap (λ (q : Key). group l q.target q.code) (eb ∙ ap (gap_key n) (ep ∙ ap (link_of (λ v. v.row.parent)) v))
      ∙ gap_found l s.at.parent s.at.behind n (en ∙ ap (link_of (λ v. v.next_sibling)) v) (above_first d ok s.at.behind (along s.at.trail)) in
      let k : group l under.target under.code ≡ gap l x s.at.children =
      ap (λ (q : Key). group l q.target q.code) eu
      ∙ gap_found l x s.at.children c (ec ∙ ap (link_of (λ v. v.first_child)) v) (above_first d ok s.at.children (below s.at.trail)) in
      ap (left_ahead l) s.ahead_is
      ∙ (ap (λ (i : ℕ). left_on l i (gap l s.at.parent s.at.behind) (gap l i s.at.children) ++ cond (goes l i) [] (left_on_attributes l s.at.attributes)) s.id
      ∙ (ap₂ (λ (u w : Forest). left_on l x u w ++ cond (goes l x) [] (left_on_attributes l s.at.attributes)) (sym g) (sym k)
      ∙ ap (λ (m : List Label). left_on l x (group l beyond.target beyond.code) (group l under.target under.code) ++ cond (goes l x) [] (left_on_attributes l m)) (sym s.attributes_are)))

  -- all that is ahead, in parts
  parts : (x : ℕ) (s : NodeStep d x)
      → over (reduced_row l) (ahead d x)
      ≡ left_ahead l (ahead d x) ++ (cond (cuts l x) [] (reduced_row l x s.at.children) ++ (reduced_row l s.at.parent s.at.behind ++ over (reduced_row l) s.at.rest))
  parts x s =
      let L : List Change = left_at l s.at.parent s.at.label s.at.attributes s.at.children s.at.behind in
      let K : List Change = cond (cuts l x) [] (reduced_row l x s.at.children) in
      let F : List Change = reduced_row l s.at.parent s.at.behind in
      let R : List Change = over (reduced_row l) s.at.rest in
      ap (over (reduced_row l)) s.ahead_is
      ∙ (ap (λ (i : ℕ). (L ++ (cond (cuts l i) [] (reduced_row l i s.at.children) ++ F)) ++ R) s.id
      ∙ (append_assoc L (K ++ F) R ∙ ap₂ (λ (a b : List Change). a ++ b) (sym (ap (left_ahead l) s.ahead_is)) (append_assoc K F R)))

  pub node_reduced : (x y : ℕ) → Walks d x → (x ≡ 0 → ⊥) → y ≡ cond (cuts l x) (behind_node d x) (after_node d x) → NodeReduced d l x y
  node_reduced x y h nz e = go (node_step d ok x h nz) (cuts l x) refl
    where
      go : (s : NodeStep d x) (b : Bool) → cuts l x ≡ b → NodeReduced d l x y
      go s true q =
          let w = goes_behind d ok x s y (e ∙ cond-true (cuts l x) (behind_node d x) (after_node d x) q) in
          record {
            walks = w.walks;
            all = parts x s
                ∙ ap (λ (m : List Change). left_ahead l (ahead d x) ++ m)
                (ap (λ (b : Bool). cond b [] (reduced_row l x s.at.children) ++ (reduced_row l s.at.parent s.at.behind ++ over (reduced_row l) s.at.rest)) q
                ∙ sym (goes_over d ok (reduced_row l) (λ p. refl) y _ w));
            less = omega (arith, ap size_ahead s.ahead_is, w.size_is);
          }
      go s false q =
          let w = goes_after d ok x s y (e ∙ cond-false (cuts l x) (behind_node d x) (after_node d x) q) in
          record {
            walks = w.walks;
            all = parts x s
                ∙ ap (λ (m : List Change). left_ahead l (ahead d x) ++ m)
                (ap (λ (b : Bool). cond b [] (reduced_row l x s.at.children) ++ (reduced_row l s.at.parent s.at.behind ++ over (reduced_row l) s.at.rest)) q
                ∙ sym (goes_over d ok (reduced_row l) (λ p. refl) y _ w));
            less = omega (arith, ap size_ahead s.ahead_is, w.size_is);
          }

  -- the walk begins with the whole document and ends with nothing
  pub begins : (x : ℕ) → x ≡ first_of d → Walks d x × (over (reduced_row l) (ahead d x) ≡ reduced_row l 0 d)
  begins x e = let w = goes_whole d ok x e in (w.walks, goes_over d ok (reduced_row l) (λ p. refl) x _ w ∙ append-nil (reduced_row l 0 d))

  pub ends : (x : ℕ) → x ≡ 0 → over (reduced_row l) (ahead d x) ≡ []
  ends x e = ap (λ (i : ℕ). over (reduced_row l) (ahead d i)) e ∙ ap (over (reduced_row l)) (zero_ahead d ok)
