-- What a step of the listing takes off the records that are left.
use Rattle.std.proofs.Common.{◌≡◌, ℕ, List, [], ◌∷◌, ◌++◌, Ok, sym, refl, ap, ◌∙◌, ap₂, append_assoc, append-nil, arith}
use Rattle.records.specs.declared.nodes.Node.{Node}
use Rattle.document.specs.Tree.{Label, Forest}
use Rattle.document.specs.Listing.{row, attribute_rows, rows, listing}
use Rattle.store.specs.Kept.{Kept}
use Rattle.store.specs.Views.{first_of, first_label, view, asked, record_says}
use Rattle.store.specs.Links.{link_of}
use Rattle.store.proofs.Along.{absent}
use Rattle.store.proofs.Shapes.{no_zero}
use Rattle.walk.specs.Ahead.{ahead, after_node, Walks, labels_at, over}
use Rattle.walk.specs.Left.{Begins, records_left}
use Rattle.walk.proofs.Trails.{Standing, Among, Spot, nowhere, in_row, on_node, spot, unseen_ahead, unseen_labels, standing_seen, standing_labels, attribute_seen, attribute_labels}
use Rattle.walk.proofs.Walking.{NodeStep, zero_labels, above_zero, node_step, goes_over, goes_after, goes_whole}

-- the record r comes first, and then what is left from b and y on
pub record Gives (d : Forest) (a x : ℕ) (r : Node) (b y : ℕ) : Type 0 where
  pub all : records_left d a x ≡ r ∷ records_left d b y
  pub begins : Begins d b
  pub walks : Walks d y

pub record Opens (d : Forest) (a x : ℕ) : Type 0 where
  pub all : records_left d a x ≡ listing d
  pub begins : Begins d a
  pub walks : Walks d x

-- the attributes m of the node p are left from b on
record From (d : Forest) (p : ℕ) (m : List Label) (b : ℕ) : Type 0 where
  labels : labels_at d b ≡ m
  listed : attribute_rows (link_of (λ v. v.row.parent) (view d b)) (labels_at d b) ≡ attribute_rows p m

module _ (d : Forest) (ok : Kept d) where
  from : (w : Standing d) (front m : List Label) → w.attributes ≡ front ++ m → (b : ℕ) → b ≡ first_label m → From d w.label.id m b
  from w front [] s b e = let l = ap (labels_at d) e ∙ zero_labels d ok in record { labels = l; listed = ap (attribute_rows (link_of (λ v. v.row.parent) (view d b))) l }
  from w front (c ∷ m) s b e =
      let n : Among c m w.attributes = record { front = front; split = s } in
      let l = ap (labels_at d) e ∙ attribute_labels d ok.distinct w c m n in
      let v = ap (view d) e ∙ attribute_seen d ok.distinct w c m n in
      record { labels = l; listed = ap₂ (λ o q. attribute_rows (link_of (λ v. v.row.parent) o) q) v l }

  -- an attribute comes next
  pub attribute_given : (a x : ℕ) (r : Node) (b : ℕ) → Begins d a → Walks d x → Ok r ≡ record_says d a → b ≡ link_of (λ v. v.next_attribute) (view d a) → Gives d a x r b x
  attribute_given a x r b h walks q e = go (spot d a)
    where
      go : Spot d a → Gives d a x r b x
      go (nowhere z) = let n = absent a 0 0 d z in let z : ◌≡◌ {A = ℕ} 0 1 = cc in absurd (omega arith)
      go (in_row w i) = absurd (above_zero d ok w (i ∙ sym h ∙ ap first_label (ap (labels_at d) (sym i) ∙ standing_labels d ok.distinct w)))
      go (on_node w) =
          let v = ap (view d) (sym w.id) ∙ attribute_seen d ok.distinct w.owner w.label w.others w.among in
          let l = ap (labels_at d) (sym w.id) ∙ attribute_labels d ok.distinct w.owner w.label w.others w.among in
          let n = e ∙ ap (link_of (λ v. v.next_attribute)) v in
          let f = from w.owner (w.among.front ++ (w.label ∷ [])) w.others (w.among.split ∙ sym (append_assoc w.among.front (w.label ∷ []) w.others)) b n in
          let i : r ≡ row w.owner.label.id w.label = cc in
          record {
            all = ap₂ (λ o m. attribute_rows (link_of (λ v. v.row.parent) o) m ++ over rows (ahead d x)) v l
                ∙ ap₂ (λ y ys. y ∷ (ys ++ over rows (ahead d x))) (sym i) (sym f.listed);
            begins = ap first_label f.labels ∙ sym n;
            walks = walks;
          }

  -- where no record has the identifier, nothing is left
  no_labels : (a : ℕ) → ((r : Node) → record_says d a ≡ Ok r → ⊥) → labels_at d a ≡ []
  no_labels a n = go (spot d a)
    where
      go : Spot d a → labels_at d a ≡ []
      go (nowhere z) = unseen_labels d a z
      go (in_row w i) = absurd (n _ (ap (record_says d) (sym i) ∙ ap (asked (λ v. v.row)) (standing_seen d ok.distinct w)))
      go (on_node w) = absurd (n _ (ap (record_says d) (sym w.id) ∙ ap (asked (λ v. v.row)) (attribute_seen d ok.distinct w.owner w.label w.others w.among)))

  no_rows : (x : ℕ) → ((r : Node) → record_says d x ≡ Ok r → ⊥) → ahead d x ≡ []
  no_rows x n = go (spot d x)
    where
      go : Spot d x → ahead d x ≡ []
      go (nowhere z) = unseen_ahead d x z
      go (in_row w i) = absurd (n _ (ap (record_says d) (sym i) ∙ ap (asked (λ v. v.row)) (standing_seen d ok.distinct w)))
      go (on_node w) = absurd (n _ (ap (record_says d) (sym w.id) ∙ ap (asked (λ v. v.row)) (attribute_seen d ok.distinct w.owner w.label w.others w.among)))

  pub nothing_left : (a x : ℕ) → ((r : Node) → record_says d a ≡ Ok r → ⊥) → ((r : Node) → record_says d x ≡ Ok r → ⊥) → records_left d a x ≡ []
  nothing_left a x n m = ap₂ (λ l s. attribute_rows (link_of (λ v. v.row.parent) (view d a)) l ++ over rows s) (no_labels a n) (no_rows x m)

  -- a node comes next
  pub node_given : (a x : ℕ) (r : Node) (b y : ℕ) → ((r : Node) → record_says d a ≡ Ok r → ⊥) → Walks d x → Ok r ≡ record_says d x
      → b ≡ link_of (λ v. v.first_attribute) (view d x) → y ≡ after_node d x → Gives d a x r b y
  node_given a x r b y none h q eb ey =
      let s : NodeStep d x = node_step d ok x h above in
      let w = goes_after d ok x s y ey in
      let A : List Node = attribute_rows s.at.label.id s.at.attributes in
      let K : List Node = rows x s.at.children in
      let F : List Node = rows s.at.parent s.at.behind in
      let R : List Node = over rows s.at.rest in
      let n : over rows (ahead d y) ≡ K ++ (F ++ R) = goes_over d ok rows (λ p. refl) y _ w in
      let e = eb ∙ ap (link_of (λ v. v.first_attribute)) s.view_is in
      let f = from s.at [] s.at.attributes refl b e in
      let v = s.view_is in
      let i : r ≡ row s.at.parent s.at.label = cc in
      record {
        all = ap (λ l. attribute_rows (link_of (λ v. v.row.parent) (view d a)) l ++ over rows (ahead d x)) (no_labels a none)
            ∙ ap (over rows) s.ahead_is
            ∙ ap (λ (j : ℕ). row s.at.parent s.at.label ∷ ((A ++ (rows j s.at.children ++ F)) ++ R)) s.id
            ∙ ap (λ (l : List Node). row s.at.parent s.at.label ∷ l) (append_assoc A (K ++ F) R ∙ ap (λ l. A ++ l) (append_assoc K F R ∙ sym n))
            ∙ ap₂ (λ z l. z ∷ (l ++ over rows (ahead d y))) (sym i) (sym f.listed);
        begins = ap first_label f.labels ∙ sym e;
        walks = w.walks;
      }
    where
      above : x ≡ 0 → ⊥
      above e = let n = ap (view d) e ∙ absent 0 0 0 d (no_zero d ok.shaped) in let z : ◌≡◌ {A = ℕ} 0 1 = cc in absurd (omega arith)

  -- the whole document is left
  pub opens : (x : ℕ) → x ≡ first_of d → Opens d 0 x
  unfolding listing
  opens x e =
      let w = goes_whole d ok x e in
      record {
        all = ap (λ l. attribute_rows (link_of (λ v. v.row.parent) (view d 0)) l ++ over rows (ahead d x)) (zero_labels d ok)
            ∙ goes_over d ok rows (λ p. refl) x _ w ∙ append-nil (rows 0 d);
        begins = ap first_label (zero_labels d ok);
        walks = w.walks;
      }
