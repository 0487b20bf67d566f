-- The nodes that changes bring, weighed by their identifiers: with weight 1 for one identifier they are counted, with weight 1 for each it is their number.
use Rattle.std.proofs.Common.{◌≡◌, ℕ, ◌+◌, ◌*◌, ◌≤◌, Bool, true, false, eqb, ltb, List, [], ◌∷◌, ◌++◌, Some, None, Option, refl, mul-le-mul_right, arith}
use Rattle.std.proofs.lemmas.Bool.Decides.{nat_tests}
use Rattle.records.specs.declared.operations.Code.{Code}
use Rattle.records.specs.declared.operations.Code.TheVariants.{InsertBefore, InsertAfter, InsertFirst, InsertInto, InsertLast, InsertAttributes, ReplaceNode, ReplaceContent}
use Rattle.document.specs.Tree.{Label, Forest, nil, node, one, count, count_labels, size, size_labels}
use Rattle.document.proofs.Counting.{eqb_sym}
use Rattle.changes.specs.Changes.{Change, count_nodes, size_nodes, ◌⊕◌, root_labels, insert_label, insert_labels, or_else, is_some, childless, changes_on, same_code, joined_nodes, nodes_given, first_of}
use Rattle.changes.specs.Marks.{NodeChanges, MarkedLabel, MarkedForest, no_marks, mark, marked, removed, ◌⊞◌, kept_labels, unmark_labels, mark_labels, node_changes}
use Rattle.changes.specs.Reduced.{insertion, deletion_of, replacement, new_value, new_name, changes_by_code, label_changes_in_order, changes_in_order, cleared_labels, cleared, unless_empty, left_on_node, left_on_labels, without_overridden, before_first, gathered_by_gap, reduced_marks}
use Rattle.changes.specs.Inverse.{deletion, unchanged_labels, unchanged, taken_out, insert_marked, labels_taken_out, insert_all_marked, labels_undone, removed_labels}

abbrev pub weigh_labels : (ℕ → ℕ) → List Label → ℕ
weigh_labels w [] = 0
weigh_labels w (r ∷ l) = w r.id + weigh_labels w l

abbrev pub weigh : (ℕ → ℕ) → Forest → ℕ
weigh w nil = 0
weigh w (node r as' k f) = w r.id + (weigh_labels w as' + (weigh w k + weigh w f))

abbrev pub weigh_nodes : (ℕ → ℕ) → List Change → ℕ
weigh_nodes w [] = 0
weigh_nodes w (o ∷ l) = weigh w o.nodes + weigh_nodes w l

-- counting, and the number of nodes
abbrev pub is_it : ℕ → ℕ → ℕ
is_it t i = one (eqb i t)

pub count_labels_weigh : (t : ℕ) (l : List Label) → count_labels t l ≡ weigh_labels (is_it t) l
count_labels_weigh t [] = refl
count_labels_weigh t (r ∷ l) = omega (arith, count_labels_weigh t l)

pub count_weigh : (t : ℕ) (f : Forest) → count t f ≡ weigh (is_it t) f
count_weigh t nil = refl
count_weigh t (node r as' k f) = omega (arith, count_labels_weigh t as', count_weigh t k, count_weigh t f)

pub count_nodes_weigh : (t : ℕ) (l : List Change) → count_nodes t l ≡ weigh_nodes (is_it t) l
count_nodes_weigh t [] = refl
count_nodes_weigh t (o ∷ l) = omega (arith, count_weigh t o.nodes, count_nodes_weigh t l)

abbrev pub each : ℕ → ℕ
each i = 1

pub size_labels_weigh : (l : List Label) → size_labels l ≡ weigh_labels each l
size_labels_weigh [] = refl
size_labels_weigh (r ∷ l) = omega (arith, size_labels_weigh l)

pub size_weigh : (f : Forest) → size f ≡ weigh each f
size_weigh nil = refl
size_weigh (node r as' k f) = omega (arith, size_labels_weigh as', size_weigh k, size_weigh f)

pub size_nodes_weigh : (l : List Change) → size_nodes l ≡ weigh_nodes each l
size_nodes_weigh [] = refl
size_nodes_weigh (o ∷ l) = omega (arith, size_weigh o.nodes, size_nodes_weigh l)

-- joined rows, and attributes put in
pub weigh-⊕ : (w : ℕ → ℕ) (f g : Forest) → weigh w (f ⊕ g) ≡ weigh w f + weigh w g
weigh-⊕ w nil g = omega arith
weigh-⊕ w (node r as' k f) g = omega (arith, weigh-⊕ w f g)

pub weigh_roots : (w : ℕ → ℕ) (f : Forest) → weigh_labels w (root_labels f) ≤ weigh w f
weigh_roots w nil = omega arith
weigh_roots w (node r as' k f) = omega (arith, weigh_roots w f)

pub weigh_labels-++ : (w : ℕ → ℕ) (f g : List Label) → weigh_labels w (f ++ g) ≡ weigh_labels w f + weigh_labels w g
weigh_labels-++ w [] g = omega arith
weigh_labels-++ w (r ∷ f) g = omega (arith, weigh_labels-++ w f g)

pub weigh_insert_label : (w : ℕ → ℕ) (x : Label) (l : List Label) → weigh_labels w (insert_label x l) ≡ w x.id + weigh_labels w l
weigh_insert_label w x [] = refl
weigh_insert_label w x (y ∷ l) = go (ltb x.id y.id) refl (weigh_insert_label w x l)
  where
    go : (b : Bool) → ltb x.id y.id ≡ b → weigh_labels w (insert_label x l) ≡ w x.id + weigh_labels w l
        → weigh_labels w (insert_label x (y ∷ l)) ≡ w x.id + weigh_labels w (y ∷ l)
    go true e h = rw e
    go false e h = rw (e, h) (omega arith)

pub weigh_insert_labels : (w : ℕ → ℕ) (xs l : List Label) → weigh_labels w (insert_labels xs l) ≡ weigh_labels w xs + weigh_labels w l
weigh_insert_labels w [] l = omega arith
weigh_insert_labels w (x ∷ xs) l = omega (arith, weigh_insert_label w x (insert_labels xs l), weigh_insert_labels w xs l)

-- the nodes that the changes on one node bring, those on attributes, and those in a marked row
abbrev pub brought_on_node : (ℕ → ℕ) → NodeChanges → ℕ
brought_on_node w a =
    weigh w a.before + (weigh w a.after + (weigh w a.first + (weigh w a.into + (weigh w a.last + (weigh w a.attributes
    + (weigh w (or_else a.replaced nil) + weigh w (or_else a.content nil)))))))

abbrev pub brought_by_labels : (ℕ → ℕ) → List MarkedLabel → ℕ
brought_by_labels w [] = 0
brought_by_labels w (m ∷ l) = brought_on_node w m.changes + brought_by_labels w l

abbrev pub brought : (ℕ → ℕ) → MarkedForest → ℕ
brought w no_marks = 0
brought w (marked r a as' k f) = brought_on_node w a + (brought_by_labels w as' + (brought w k + brought w f))

-- the changes of a marked row bring what the row brings
pub weigh_nodes-++ : (w : ℕ → ℕ) (l k : List Change) → weigh_nodes w (l ++ k) ≡ weigh_nodes w l + weigh_nodes w k
weigh_nodes-++ w [] k = omega arith
weigh_nodes-++ w (o ∷ l) k = omega (arith, weigh_nodes-++ w l k)

weigh_insertion : (w : ℕ → ℕ) (s : ℕ) (c : Code) (f : Forest) → weigh_nodes w (insertion s c f) ≡ weigh w f
weigh_insertion w s c nil = refl
weigh_insertion w s c (node r as' k f) = omega arith

weigh_deletion : (w : ℕ → ℕ) (s : ℕ) (b : Bool) → weigh_nodes w (deletion_of s b) ≡ 0
weigh_deletion w s false = refl
weigh_deletion w s true = refl

weigh_replacement : (w : ℕ → ℕ) (s : ℕ) (c : Code) (o : Option Forest) → weigh_nodes w (replacement s c o) ≡ weigh w (or_else o nil)
weigh_replacement w s c None = refl
weigh_replacement w s c (Some g) = omega arith

weigh_new_value : (w : ℕ → ℕ) (s : ℕ) (o : Option ℕ) → weigh_nodes w (new_value s o) ≡ 0
weigh_new_value w s None = refl
weigh_new_value w s (Some g) = refl

weigh_new_name : (w : ℕ → ℕ) (s : ℕ) (o : Option ℕ) → weigh_nodes w (new_name s o) ≡ 0
weigh_new_name w s None = refl
weigh_new_name w s (Some g) = refl

pub weigh_by_code : (w : ℕ → ℕ) (s : ℕ) (a : NodeChanges) → weigh_nodes w (changes_by_code s a) ≡ brought_on_node w a
weigh_by_code w s a = simp (weigh_nodes-++, weigh_insertion, weigh_deletion, weigh_replacement, weigh_new_value, weigh_new_name) (omega arith)

pub weigh_label_changes : (w : ℕ → ℕ) (l : List MarkedLabel) → weigh_nodes w (label_changes_in_order l) ≡ brought_by_labels w l
weigh_label_changes w [] = refl
weigh_label_changes w (m ∷ l) = rw (
  weigh_nodes-++ w (changes_by_code m.label.id m.changes) (label_changes_in_order l),
  weigh_by_code w m.label.id m.changes,
  weigh_label_changes w l,
)

pub weigh_in_order : (w : ℕ → ℕ) (m : MarkedForest) → weigh_nodes w (changes_in_order m) ≡ brought w m
weigh_in_order w no_marks = refl
weigh_in_order w (marked r a as' k f) =
    rw (
      weigh_nodes-++ w (changes_by_code r.id a) (label_changes_in_order as' ++ (changes_in_order k ++ changes_in_order f)),
      weigh_nodes-++ w (label_changes_in_order as') (changes_in_order k ++ changes_in_order f),
      weigh_nodes-++ w (changes_in_order k) (changes_in_order f),
      weigh_by_code w r.id a,
      weigh_label_changes w as',
      weigh_in_order w k,
      weigh_in_order w f,
    )

-- reduced marks bring no more
pub cleared_labels_bring : (w : ℕ → ℕ) (l : List MarkedLabel) → brought_by_labels w (cleared_labels l) ≡ 0
cleared_labels_bring w [] = refl
cleared_labels_bring w (m ∷ l) = omega (arith, cleared_labels_bring w l)

pub cleared_bring : (w : ℕ → ℕ) (m : MarkedForest) → brought w (cleared m) ≡ 0
cleared_bring w no_marks = refl
cleared_bring w (marked r a as' k f) = omega (arith, cleared_labels_bring w as', cleared_bring w k, cleared_bring w f)

weigh_unless_empty : (w : ℕ → ℕ) (o : Option Forest) → weigh w (or_else (unless_empty o) nil) ≡ weigh w (or_else o nil)
weigh_unless_empty w None = refl
weigh_unless_empty w (Some nil) = refl
weigh_unless_empty w (Some (node r as' k f)) = refl

left_on_node_brings : (w : ℕ → ℕ) (a : NodeChanges) → brought_on_node w (left_on_node a) ≤ brought_on_node w a
left_on_node_brings w a = go (removed a) (is_some a.content) refl refl
  where
    go : (b c : Bool) → removed a ≡ b → is_some a.content ≡ c → brought_on_node w (left_on_node a) ≤ brought_on_node w a
    go true c e q = rw (e, weigh_unless_empty w a.replaced) (omega arith)
    go false true e q = rw (e, q) (omega arith)
    go false false e q = rw (e, q) (omega arith)

left_on_labels_bring : (w : ℕ → ℕ) (l : List MarkedLabel) → brought_by_labels w (left_on_labels l) ≤ brought_by_labels w l
left_on_labels_bring w [] = omega arith
left_on_labels_bring w (m ∷ l) = omega (arith, left_on_node_brings w m.changes, left_on_labels_bring w l)

without_overridden_brings : (w : ℕ → ℕ) (m : MarkedForest) → brought w (without_overridden m) ≤ brought w m
without_overridden_brings w no_marks = omega arith
without_overridden_brings w (marked r a as' k f) =
    go (removed a) (is_some a.content) refl refl (without_overridden_brings w k) (without_overridden_brings w f) (left_on_node_brings w a)
  where
    go : (b c : Bool) → removed a ≡ b → is_some a.content ≡ c → brought w (without_overridden k) ≤ brought w k → brought w (without_overridden f) ≤ brought w f
        → brought_on_node w (left_on_node a) ≤ brought_on_node w a → brought w (without_overridden (marked r a as' k f)) ≤ brought w (marked r a as' k f)
    go true c e q hk hf ha = rw e (omega (arith, rw e at ha, cleared_labels_bring w as', cleared_bring w k))
    go false true e q hk hf ha = rw (e, q) (omega (arith, rw (e, q) at ha, left_on_labels_bring w as', cleared_bring w k))
    go false false e q hk hf ha = rw (e, q) (omega (arith, rw (e, q) at ha, left_on_labels_bring w as'))

gathered_brings : (w : ℕ → ℕ) (m : MarkedForest) (g : Forest) → weigh w (before_first m g) + brought w (gathered_by_gap m g) ≡ brought w m + weigh w g
gathered_brings w no_marks g = omega arith
gathered_brings w (marked r a as' k f) g =
    omega (
      arith,
      gathered_brings w k a.last,
      gathered_brings w f g,
      weigh-⊕ w a.after (before_first f g),
      weigh-⊕ w a.first (a.into ⊕ before_first k a.last),
      weigh-⊕ w a.into (before_first k a.last),
    )

pub reduced_brings : (w : ℕ → ℕ) (m : MarkedForest) → brought w (reduced_marks m) ≤ brought w m
reduced_brings w m = omega (arith, gathered_brings w (without_overridden m) nil, without_overridden_brings w m)

-- what the inverse marks bring
unchanged_labels_bring : (w : ℕ → ℕ) (l : List Label) → brought_by_labels w (unchanged_labels l) ≡ 0
unchanged_labels_bring w [] = refl
unchanged_labels_bring w (r ∷ l) = omega (arith, unchanged_labels_bring w l)

unchanged_brings : (w : ℕ → ℕ) (f : Forest) → brought w (unchanged f) ≡ 0
unchanged_brings w nil = refl
unchanged_brings w (node r as' k f) = omega (arith, unchanged_labels_bring w as', unchanged_brings w k, unchanged_brings w f)

pub taken_out_brings : (w : ℕ → ℕ) (f : Forest) → brought w (taken_out f) ≡ 0
taken_out_brings w nil = refl
taken_out_brings w (node r as' k f) = omega (arith, unchanged_labels_bring w as', unchanged_brings w k, taken_out_brings w f)

pub brought-⊞ : (w : ℕ → ℕ) (m n : MarkedForest) → brought w (m ⊞ n) ≡ brought w m + brought w n
brought-⊞ w no_marks n = omega arith
brought-⊞ w (marked r a as' k f) n = omega (arith, brought-⊞ w f n)

insert_marked_brings : (w : ℕ → ℕ) (x : MarkedLabel) (l : List MarkedLabel) → brought_by_labels w (insert_marked x l) ≡ brought_on_node w x.changes + brought_by_labels w l
insert_marked_brings w x [] = refl
insert_marked_brings w x (y ∷ l) = go (ltb x.label.id y.label.id) refl (insert_marked_brings w x l)
  where
    go : (b : Bool) → ltb x.label.id y.label.id ≡ b → brought_by_labels w (insert_marked x l) ≡ brought_on_node w x.changes + brought_by_labels w l
        → brought_by_labels w (insert_marked x (y ∷ l)) ≡ brought_on_node w x.changes + brought_by_labels w (y ∷ l)
    go true e h = rw e
    go false e h = rw (e, h) (omega arith)

pub labels_taken_out_bring : (w : ℕ → ℕ) (xs : List Label) (l : List MarkedLabel) → brought_by_labels w (insert_all_marked (labels_taken_out xs) l) ≡ brought_by_labels w l
labels_taken_out_bring w [] l = refl
labels_taken_out_bring w (x ∷ xs) l = omega (
  arith,
  insert_marked_brings w (record { label = x; changes = deletion }) (insert_all_marked (labels_taken_out xs) l),
  labels_taken_out_bring w xs l,
)

pub labels_undone_bring : (w : ℕ → ℕ) (l : List MarkedLabel) → brought_by_labels w (labels_undone l) ≡ 0
labels_undone_bring w [] = refl
labels_undone_bring w (m ∷ l) = go (removed m.changes) refl (labels_undone_bring w l)
  where
    go : (b : Bool) → removed m.changes ≡ b → brought_by_labels w (labels_undone l) ≡ 0 → brought_by_labels w (labels_undone (m ∷ l)) ≡ 0
    go true e h = rw e h
    go false e h = rw (e, h)

pub weigh_childless : (w : ℕ → ℕ) (l : List Label) → weigh w (childless l) ≡ weigh_labels w l
weigh_childless w [] = refl
weigh_childless w (r ∷ l) = omega (arith, weigh_childless w l)

-- attributes that stay, and those that go
pub kept_and_removed : (w : ℕ → ℕ) (l : List MarkedLabel) → weigh_labels w (kept_labels l) + weigh_labels w (removed_labels l) ≡ weigh_labels w (unmark_labels l)
kept_and_removed w [] = refl
kept_and_removed w (m ∷ l) = go (removed m.changes) refl (kept_and_removed w l)
  where
    go : (b : Bool) → removed m.changes ≡ b → weigh_labels w (kept_labels l) + weigh_labels w (removed_labels l) ≡ weigh_labels w (unmark_labels l)
        → weigh_labels w (kept_labels (m ∷ l)) + weigh_labels w (removed_labels (m ∷ l)) ≡ weigh_labels w (unmark_labels (m ∷ l))
    go true e h = rw e (omega arith)
    go false e h = rw e (omega arith)

-- THE MARKS OF A LIST bring no more than the list
abbrev pub total : (Change → ℕ) → List Change → ℕ
total g [] = 0
total g (o ∷ l) = g o + total g l

-- what the changes on the nodes of a document weigh together
abbrev pub spread_labels : (Change → ℕ) → List Change → List Label → ℕ
spread_labels g l [] = 0
spread_labels g l (r ∷ rs) = total g (changes_on r.id l) + spread_labels g l rs

abbrev pub spread : (Change → ℕ) → List Change → Forest → ℕ
spread g l nil = 0
spread g l (node r as' k f) = total g (changes_on r.id l) + (spread_labels g l as' + (spread g l k + spread g l f))

on_one : (g : Change → ℕ) (s : ℕ) (o : Change) (l : List Change) → total g (changes_on s (o ∷ l)) ≡ one (eqb s o.target) * g o + total g (changes_on s l)
on_one g s o l = go (eqb o.target s) refl
  where
    go : (b : Bool) → eqb o.target s ≡ b → total g (changes_on s (o ∷ l)) ≡ one (eqb s o.target) * g o + total g (changes_on s l)
    go true e = rw (eqb_sym s o.target, e) (omega arith)
    go false e = rw (eqb_sym s o.target, e) (omega arith)

spread_labels_none : (g : Change → ℕ) (rs : List Label) → spread_labels g [] rs ≡ 0
spread_labels_none g [] = refl
spread_labels_none g (r ∷ rs) = omega (arith, spread_labels_none g rs)

spread_none : (g : Change → ℕ) (d : Forest) → spread g [] d ≡ 0
spread_none g nil = refl
spread_none g (node r as' k f) = omega (arith, spread_labels_none g as', spread_none g k, spread_none g f)

spread_labels_more : (g : Change → ℕ) (o : Change) (l : List Change) (rs : List Label) → spread_labels g (o ∷ l) rs ≡ count_labels o.target rs * g o + spread_labels g l rs
spread_labels_more g o l [] = omega arith
spread_labels_more g o l (r ∷ rs) = omega (arith, on_one g r.id o l, spread_labels_more g o l rs)

spread_more : (g : Change → ℕ) (o : Change) (l : List Change) (d : Forest) → spread g (o ∷ l) d ≡ count o.target d * g o + spread g l d
spread_more g o l nil = omega arith
spread_more g o l (node r as' k f) = omega (arith, on_one g r.id o l, spread_labels_more g o l as', spread_more g o l k, spread_more g o l f)

pub spread_all : (g : Change → ℕ) (l : List Change) (d : Forest) → ((s : ℕ) → count s d ≤ 1) → spread g l d ≤ total g l
spread_all g [] d h = omega (arith, spread_none g d)
spread_all g (o ∷ l) d h = omega (arith, spread_more g o l d, spread_all g l d h, mul-le-mul_right (g o) (h o.target))

-- each change is of one code
codes : (x : Code) → one (same_code x InsertBefore) + (one (same_code x InsertAfter) + (one (same_code x InsertFirst) + (one (same_code x InsertInto)
    + (one (same_code x InsertLast) + (one (same_code x InsertAttributes) + (one (same_code x ReplaceNode) + one (same_code x ReplaceContent))))))) ≤ 1
codes x = grind (arith, nat_tests)

joined_one : (w : ℕ → ℕ) (c : Code) (o : Change) (l : List Change)
    → weigh w (joined_nodes c (o ∷ l)) ≡ one (same_code o.code c) * weigh w o.nodes + weigh w (joined_nodes c l)
joined_one w c o l = go (same_code o.code c) refl
  where
    go : (b : Bool) → same_code o.code c ≡ b → weigh w (joined_nodes c (o ∷ l)) ≡ one (same_code o.code c) * weigh w o.nodes + weigh w (joined_nodes c l)
    go true e = rw (e, weigh-⊕ w o.nodes (joined_nodes c l)) (omega arith)
    go false e = rw e (omega arith)

first_one : (w : ℕ → ℕ) (c : Code) (o : Change) (l : List Change)
    → weigh w (or_else (nodes_given (first_of c (o ∷ l))) nil) ≤ one (same_code o.code c) * weigh w o.nodes + weigh w (or_else (nodes_given (first_of c l)) nil)
first_one w c o l = go (same_code o.code c) refl
  where
    go : (b : Bool) → same_code o.code c ≡ b
        → weigh w (or_else (nodes_given (first_of c (o ∷ l))) nil) ≤ one (same_code o.code c) * weigh w o.nodes + weigh w (or_else (nodes_given (first_of c l)) nil)
    go true e = rw e (omega arith)
    go false e = rw e (omega arith)

abbrev pub own : (ℕ → ℕ) → Change → ℕ
own w o = weigh w o.nodes

node_brings : (w : ℕ → ℕ) (l : List Change) → brought_on_node w (node_changes l) ≤ total (own w) l
node_brings w [] = omega arith
node_brings w (o ∷ l) =
    omega (
      arith,
      node_brings w l,
      joined_one w InsertBefore o l,
      joined_one w InsertAfter o l,
      joined_one w InsertFirst o l,
      joined_one w InsertInto o l,
      joined_one w InsertLast o l,
      joined_one w InsertAttributes o l,
      first_one w ReplaceNode o l,
      first_one w ReplaceContent o l,
      mul-le-mul_right (weigh w o.nodes) (codes o.code),
    )

labels_bring : (w : ℕ → ℕ) (l : List Change) (rs : List Label) → brought_by_labels w (mark_labels l rs) ≤ spread_labels (own w) l rs
labels_bring w l [] = omega arith
labels_bring w l (r ∷ rs) = omega (arith, node_brings w (changes_on r.id l), labels_bring w l rs)

marks_bring : (w : ℕ → ℕ) (l : List Change) (d : Forest) → brought w (mark l d) ≤ spread (own w) l d
marks_bring w l nil = omega arith
marks_bring w l (node r as' k f) = omega (arith, node_brings w (changes_on r.id l), labels_bring w l as', marks_bring w l k, marks_bring w l f)

total_weigh : (w : ℕ → ℕ) (l : List Change) → total (own w) l ≡ weigh_nodes w l
total_weigh w [] = refl
total_weigh w (o ∷ l) = omega (arith, total_weigh w l)

pub mark_brings : (w : ℕ → ℕ) (l : List Change) (d : Forest) → ((s : ℕ) → count s d ≤ 1) → brought w (mark l d) ≤ weigh_nodes w l
mark_brings w l d h = omega (arith, marks_bring w l d, spread_all (own w) l d h, total_weigh w l)
