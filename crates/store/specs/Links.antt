-- Which links a write changes: what is seen of every node afterwards, from what was seen before.
use Rattle.std.specs.Prelude.{◌≡◌, ℕ, false, cond, ◌&&◌, List, [], ◌∷◌, Some, None, Ok, Option, ◌==◌, ◌≢◌, nat_lt}
use Rattle.std.specs.Option.{option_map}
use Rattle.records.specs.declared.nodes.Node.{Node}
use Rattle.records.specs.declared.nodes.Kind.TheVariants.{Attribute}
use Rattle.document.specs.Tree.{Label, Forest}
use Rattle.document.specs.Table.{is_attribute}
use Rattle.store.specs.Listed.{read_at, renamed_row, revalued_row}
use Rattle.store.specs.Kept.{Kept}
use Rattle.store.specs.Views.{View, view}
use Rattle.store.specs.Says.{put_says, put_leaves, take_says, take_leaves, rename_says, rename_leaves, set_value_says, set_value_leaves}

-- where a link led to t it leads to what t led to
abbrev pub passed_on : ℕ → ℕ → ℕ → ℕ
passed_on t on x = cond (x == t) on x

-- a node once the node t, seen as w, is taken out
abbrev pub unlinked : ℕ → View → View → View
unlinked t w v =
    record {
      row = v.row;
      left = passed_on t w.left v.left;
      first_child = passed_on t w.next_sibling v.first_child;
      next_sibling = passed_on t w.next_sibling v.next_sibling;
      first_attribute = passed_on t w.next_attribute v.first_attribute;
      next_attribute = passed_on t w.next_attribute v.next_attribute;
    }

abbrev pub TakeUnlinks : Type 0
TakeUnlinks = (d : Forest) (t : ℕ) (w : View) → Kept d → view d t ≡ Some w → take_says d t ≡ Ok tt
    → (view (take_leaves d t) t ≡ None) × ((u : ℕ) → (u ≢ t) → view (take_leaves d t) u ≡ option_map (unlinked t w) (view d u))

-- The same by the nodes whose links change: the node u, seen as v, once the child seen as w is taken out
abbrev pub relinked_past_child : View → ℕ → View → View
relinked_past_child w u v =
    record {
      row = v.row;
      left = cond (u == w.next_sibling) w.left v.left;
      first_child = cond (u == w.row.parent && w.left == 0) w.next_sibling v.first_child;
      next_sibling = cond (u == w.left) w.next_sibling v.next_sibling;
      first_attribute = v.first_attribute;
      next_attribute = v.next_attribute;
    }

-- once the attribute seen as w is taken out, which stands behind the attribute prev or first where that is 0
abbrev pub relinked_past_attribute : View → ℕ → ℕ → View → View
relinked_past_attribute w prev u v =
    record {
      row = v.row;
      left = v.left;
      first_child = v.first_child;
      next_sibling = v.next_sibling;
      first_attribute = cond (u == w.row.parent && prev == 0) w.next_attribute v.first_attribute;
      next_attribute = cond (u == prev) w.next_attribute v.next_attribute;
    }

-- the last attribute with a smaller identifier than x, where m is the one before the list
abbrev pub label_before : ℕ → ℕ → List Label → ℕ
label_before m x [] = m
label_before m x (r ∷ l) = cond (nat_lt r.id x) (label_before r.id x l) m

-- the first attribute whose identifier is not smaller than x, 0 for none
abbrev pub label_from : ℕ → List Label → ℕ
label_from x [] = 0
label_from x (r ∷ l) = cond (nat_lt r.id x) (label_from x l) r.id

abbrev pub attribute_before : Forest → ℕ → ℕ → ℕ
attribute_before d p x = read_at p (λ as' k. label_before 0 x as') d

abbrev pub attribute_from : Forest → ℕ → ℕ → ℕ
attribute_from d p x = read_at p (λ as' k. label_from x as') d

abbrev pub relinked_past : Forest → ℕ → View → ℕ → View → View
relinked_past d t w u v =
    cond (is_attribute w.row.kind) (relinked_past_attribute w (attribute_before d w.row.parent t) u v) (relinked_past_child w u v)

-- a take changes the links of the neighbours and of the parent, and no other
abbrev pub TakeRelinks : Type 0
TakeRelinks = (d : Forest) (t : ℕ) (w : View) → Kept d → view d t ≡ Some w → take_says d t ≡ Ok tt
    → (view (take_leaves d t) t ≡ None) × ((u : ℕ) → (u ≢ t) → view (take_leaves d t) u ≡ option_map (relinked_past d t w u) (view d u))

-- ---- a node n put in: the node u, seen as v, once n is its first child or stands before it

abbrev pub linked_first : Node → ℕ → ℕ → View → View
linked_first n next u v =
    record {
      row = v.row;
      left = cond (u == next) n.id v.left;
      first_child = cond (u == n.parent) n.id v.first_child;
      next_sibling = v.next_sibling;
      first_attribute = v.first_attribute;
      next_attribute = v.next_attribute;
    }

-- once n stands behind it or before it
abbrev pub linked_behind : Node → ℕ → ℕ → ℕ → View → View
linked_behind n l next u v =
    record {
      row = v.row;
      left = cond (u == next) n.id v.left;
      first_child = v.first_child;
      next_sibling = cond (u == l) n.id v.next_sibling;
      first_attribute = v.first_attribute;
      next_attribute = v.next_attribute;
    }

-- a link of a node that may be absent
abbrev pub link_of : (View → ℕ) → Option View → ℕ
link_of f None = 0
link_of f (Some v) = f v

-- the child before which n comes to stand
abbrev pub next_child : Forest → Node → ℕ → ℕ
next_child d n l = cond (l == 0) (link_of (λ v. v.first_child) (view d n.parent)) (link_of (λ v. v.next_sibling) (view d l))

abbrev pub linked_child : Forest → Node → ℕ → ℕ → View → View
linked_child d n l u v = cond (l == 0) (linked_first n (next_child d n l) u v) (linked_behind n l (next_child d n l) u v)

abbrev pub new_child : Forest → Node → ℕ → View
new_child d n l =
    record { row = n; left = l; first_child = 0; next_sibling = next_child d n l; first_attribute = 0; next_attribute = 0 }

-- a put of a child changes the links of its neighbours and of its parent, and no other
abbrev pub PutLinksChild : Type 0
PutLinksChild = (room : ℕ) (d : Forest) (n : Node) (l : ℕ) → Kept d → put_says room d n l ≡ Ok tt → (n.parent ≢ 0) → is_attribute n.kind ≡ false
    → (view (put_leaves room d n l) n.id ≡ Some (new_child d n l))
    × ((u : ℕ) → (u ≢ n.id) → view (put_leaves room d n l) u ≡ option_map (linked_child d n l u) (view d u))

-- ---- an attribute put in

-- the last attribute before x, where m is the one before the list; the first attribute behind x
abbrev pub previous_label : ℕ → ℕ → List Label → ℕ
previous_label m x [] = m
previous_label m x (r ∷ l) = cond (nat_lt x r.id) m (previous_label r.id x l)

abbrev pub next_label : ℕ → List Label → ℕ
next_label x [] = 0
next_label x (r ∷ l) = cond (nat_lt x r.id) r.id (next_label x l)

-- the node u, seen as v, once n stands among the attributes of its parent, behind the attribute prev or first where that is 0
abbrev pub linked_attribute : Node → ℕ → ℕ → View → View
linked_attribute n prev u v =
    record {
      row = v.row;
      left = v.left;
      first_child = v.first_child;
      next_sibling = v.next_sibling;
      first_attribute = cond (u == n.parent && prev == 0) n.id v.first_attribute;
      next_attribute = cond (u == prev) n.id v.next_attribute;
    }

abbrev pub previous_attribute : Forest → Node → ℕ
previous_attribute d n = read_at n.parent (λ as' k. previous_label 0 n.id as') d

abbrev pub new_attribute : Forest → Node → View
new_attribute d n =
    record {
      row = n;
      left = 0;
      first_child = 0;
      next_sibling = 0;
      first_attribute = 0;
      next_attribute = read_at n.parent (λ as' k. next_label n.id as') d;
    }

-- a put of an attribute changes a link of the attribute before it or of its parent, and no other
abbrev pub PutLinksAttribute : Type 0
PutLinksAttribute = (room : ℕ) (d : Forest) (n : Node) (l : ℕ) → Kept d → put_says room d n l ≡ Ok tt → n.kind ≡ Attribute
    → (view (put_leaves room d n l) n.id ≡ Some (new_attribute d n))
    × ((u : ℕ) → (u ≢ n.id) → view (put_leaves room d n l) u ≡ option_map (linked_attribute n (previous_attribute d n) u) (view d u))

-- ---- another name or value

-- a node, seen as v, with its row changed
abbrev pub reshown : (Node → Node) → View → View
reshown change v =
    record {
      row = change v.row;
      left = v.left;
      first_child = v.first_child;
      next_sibling = v.next_sibling;
      first_attribute = v.first_attribute;
      next_attribute = v.next_attribute;
    }

abbrev pub RenameReshows : Type 0
RenameReshows = (d : Forest) (t m : ℕ) → rename_says d t m ≡ Ok tt → (u : ℕ) → view (rename_leaves d t m) u ≡ option_map (reshown (renamed_row t m)) (view d u)

abbrev pub SetValueReshows : Type 0
SetValueReshows = (d : Forest) (t v : ℕ) → set_value_says d t ≡ Ok tt → (u : ℕ) → view (set_value_leaves d t v) u ≡ option_map (reshown (revalued_row t v)) (view d u)
