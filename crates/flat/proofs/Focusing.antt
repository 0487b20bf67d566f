-- A node of a document, with the rows before it, its own, and those behind it.
use Rattle.std.proofs.Common.{◌≡◌, ℕ, zero, suc, ◌+◌, ◌<◌, ◌≤◌, false, eqb, ◌⊎◌, List, [], ◌∷◌, ◌++◌, length, Some, sym, refl, ap, ◌∙◌, subst, inl, inr, append_assoc, arith, length-append}
use Rattle.std.proofs.lemmas.List.{get_or-append-add}
use Rattle.std.proofs.lemmas.Bool.{eqb-true, both_ways}
use Rattle.records.specs.declared.nodes.Node.{Node}
use Rattle.document.specs.Tree.{Label, Forest, nil, node, one, count, Above, Attributes}
use Rattle.document.specs.Listing.{row, attribute_rows, rows}
use Rattle.document.specs.Table.{is_attribute}
use Rattle.document.proofs.Counting.{one_refl}
use Rattle.store.specs.Kept.{Shaped}
use Rattle.store.specs.Views.{View, view_in}
use Rattle.store.specs.Writes.{unchanged}
use Rattle.store.specs.Listed.{read_at, times}
use Rattle.store.proofs.Along.{Steps, along}
use Rattle.store.proofs.Planting.{read_none}
use Rattle.store.proofs.Shapes.{label_kind}
use Rattle.flat.specs.Means.{no_node}
use Rattle.flat.proofs.Tables.{nth}

-- the parent of the first row behind is p, or stands in front
abbrev pub Ends : ℕ → List Node → List Node → Type 0
Ends p front [] = Unit {0}
Ends p front (x ∷ back) = (x.parent ≡ p) ⊎ ((j : ℕ) × (j < length front) × ((nth front j).id ≡ x.parent))

pub record Focus (t p : ℕ) (d : Forest) : Type 0 where
  pub front : List Node
  pub q : ℕ
  pub r : Label
  pub as' : List Label
  pub k : Forest
  pub back : List Node
  pub is : r.id ≡ t
  pub split : rows p d ≡ front ++ (row q r ∷ (attribute_rows t as' ++ (rows t k ++ back)))
  pub reads : (h : List Label → Forest → ℕ) → read_at t h d ≡ h as' k
  pub attributes : Attributes as'
  pub above : Above 0 as'
  pub shaped : Shaped k
  pub ends : Ends p front back

ends_rows : (p : ℕ) (front : List Node) (f : Forest) → Ends p front (rows p f)
ends_rows p front nil = tt
ends_rows p front (node r as' k f) = inl refl

-- more rows in front
ends_behind : (p : ℕ) (more front back : List Node) → Ends p front back → Ends p (more ++ front) back
ends_behind p more front [] e = tt
ends_behind p more front (x ∷ back) (inl e) = inl e
ends_behind p more front (x ∷ back) (inr (j, l, e)) =
    inr (length more + j, omega (arith, length-append more front), ap (λ (y : Node). y.id) (get_or-append-add more front j no_node) ∙ e)

-- rows below q, behind the row of q
ends_below : (p : ℕ) (x : Node) (more front back : List Node) (f : Forest) → Ends x.id front back → Ends p (x ∷ (more ++ front)) (back ++ rows p f)
ends_below p x more front [] f e = ends_rows p (x ∷ (more ++ front)) f
ends_below p x more front (y ∷ back) f (inl e) = inr (0, omega arith, sym e)
ends_below p x more front (y ∷ back) f (inr e) = shift (ends_behind x.id more front (y ∷ back) (inr e))
  where
    shift : Ends x.id (more ++ front) (y ∷ back) → Ends p (x ∷ (more ++ front)) (y ∷ (back ++ rows p f))
    shift (inl w) = inr (0, omega arith, sym w)
    shift (inr (j, l, w)) = inr (suc j, omega arith, w)

module _ (t : ℕ) (v : View) (child : is_attribute v.row.kind ≡ false) where
  abbrev Claim : ℕ → ℕ → Forest → Forest → Type 0
  Claim p l d d' = Shaped d → Focus t p d

  steps : Steps t unchanged node v Claim
  steps = record {
    at_node = λ p l r as' k f e w z₁ z₂ z₃ s.
        let i : r.id ≡ t = eqb-true r.id t e in
        record {
          front = [];
          q = p;
          r = r;
          as' = as';
          k = k;
          back = rows p f;
          is = i;
          split = ap (λ (u : ℕ). row p r ∷ (attribute_rows u as' ++ (rows u k ++ rows p f))) i;
          reads = λ h. rw e (omega (arith, read_none t h k z₂, read_none t h f z₃));
          attributes = s.2;
          above = s.3;
          shaped = s.4;
          ends = ends_rows p [] f;
        };
    at_label = λ p l r as' k f e w z₁ z₂ z₃ s.
        absurd (both_ways (is_attribute v.row.kind) child (ap is_attribute (label_kind t r.id as' v s.2 w)));
    below = λ p l r as' k k' f e z₁ o z₃ ih s.
        let m = ih s.4 in
        let A = attribute_rows r.id as' in
        record {
          front = row p r ∷ (A ++ m.front);
          q = m.q;
          r = m.r;
          as' = m.as';
          k = m.k;
          back = m.back ++ rows p f;
          is = m.is;
          split = rw m.split (simp append_assoc);
          reads = λ h. rw e (omega (arith, read_none t h f z₃, m.reads h));
          attributes = m.attributes;
          above = m.above;
          shaped = m.shaped;
          ends = ends_below p (row p r) A m.front m.back f m.ends;
        };
    behind = λ p l r as' k f f' e z₁ z₂ o ih s.
        let m = ih s.5 in
        let A = attribute_rows r.id as' in
        let K = rows r.id k in
        record {
          front = (row p r ∷ (A ++ K)) ++ m.front;
          q = m.q;
          r = m.r;
          as' = m.as';
          k = m.k;
          back = m.back;
          is = m.is;
          split = rw m.split (simp append_assoc);
          reads = λ h. rw e (omega (arith, read_none t h k z₂, m.reads h));
          attributes = m.attributes;
          above = m.above;
          shaped = m.shaped;
          ends = ends_behind p (row p r ∷ (A ++ K)) m.front m.back m.ends;
        };
  }

  pub focus : (d : Forest) (p l : ℕ) → count t d ≤ 1 → view_in t p l d ≡ Some v → Shaped d → Focus t p d
  focus = along t unchanged node (λ as' z. refl) v Claim steps

-- ---- the parents of rows of trees below q are q, or among the rows

abbrev pub All : (Node → Type 0) → List Node → Type 0
All P [] = Unit {0}
All P (x ∷ xs) = P x × All P xs

pub all_at : (P : Node → Type 0) (xs : List Node) (k : ℕ) → All P xs → k < length xs → P (nth xs k)
all_at P [] k a h = absurd (omega arith)
all_at P (x ∷ xs) zero a h = a.0
all_at P (x ∷ xs) (suc k) a h = all_at P xs k a.1 (omega arith)

all-++ : (P : Node → Type 0) (xs ys : List Node) → All P xs → All P ys → All P (xs ++ ys)
all-++ P [] ys a b = b
all-++ P (x ∷ xs) ys a b = (a.0, all-++ P xs ys a.1 b)

all_so : (P Q : Node → Type 0) → ((x : Node) → P x → Q x) → (xs : List Node) → All P xs → All Q xs
all_so P Q f [] a = tt
all_so P Q f (x ∷ xs) a = (f x a.0, all_so P Q f xs a.1)

pub times-++ : (t : ℕ) (xs ys : List Node) → times t (xs ++ ys) ≡ times t xs + times t ys
times-++ t [] ys = omega arith
times-++ t (x ∷ xs) ys = omega (arith, times-++ t xs ys)

abbrev pub Within : ℕ → List Node → Node → Type 0
Within q xs x = (x.parent ≡ q) ⊎ (1 ≤ times x.parent xs)

labels_within : (q : ℕ) (xs : List Node) (as' : List Label) → 1 ≤ times q xs → (u : ℕ) → All (Within u xs) (attribute_rows q as')
labels_within q xs [] h u = tt
labels_within q xs (r ∷ l) h u = (inr h, labels_within q xs l h u)

pub inner : (q : ℕ) (f : Forest) → All (Within q (rows q f)) (rows q f)
inner q nil = tt
inner q (node r as' k f) = (
  inl refl,
  all-++ (Within q T) A (K ++ F) (labels_within r.id T as' head q)
      (all-++ (Within q T) K F (all_so (Within r.id K) (Within q T) in_children K (inner r.id k)) (all_so (Within q F) (Within q T) behind F (inner q f))),
)
  where
    A : List Node
    A = attribute_rows r.id as'

    K : List Node
    K = rows r.id k

    F : List Node
    F = rows q f

    T : List Node
    T = row q r ∷ (A ++ (K ++ F))

    more : (t : ℕ) → times t T ≡ one (eqb r.id t) + (times t A + (times t K + times t F))
    more t = omega (arith, times-++ t A (K ++ F), times-++ t K F)

    head : 1 ≤ times r.id T
    head = omega (arith, more r.id, one_refl r.id)

    in_children : (x : Node) → Within r.id K x → Within q T x
    in_children x (inl e) = inr (subst (λ (u : ℕ). 1 ≤ times u T) (sym e) head)
    in_children x (inr w) = inr (omega (arith, more x.parent))

    behind : (x : Node) → Within q F x → Within q T x
    behind x (inl e) = inl e
    behind x (inr w) = inr (omega (arith, more x.parent))
