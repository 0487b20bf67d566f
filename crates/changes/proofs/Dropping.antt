-- To drop the overridden changes from a list is to drop them from the marks.
use Rattle.std.proofs.Common.{◌≡◌, ℕ, ◌≤◌, Bool, true, false, cond, not, ◌&&◌, ◌||◌, eqb, ltb, List, [], ◌∷◌, Some, None, Option, sym, refl, ap, ◌∙◌, true≢false, arith}
use Rattle.std.proofs.lemmas.Bool.{eqb-true, lt-ltb}
use Rattle.records.specs.Formed.{code_of, code_number}
use Rattle.records.specs.declared.operations.Code.{Code}
use Rattle.records.specs.declared.operations.Code.TheVariants.{InsertBefore, InsertAfter, InsertFirst, InsertInto, InsertLast, InsertAttributes, Delete, ReplaceNode, ReplaceValue, ReplaceContent, Rename}
use Rattle.document.specs.Tree.{Forest, node, nil, count, count_labels, Label}
use Rattle.document.proofs.Counting.{one_refl}
use Rattle.changes.specs.Changes.{same_code, Change, is_some, changes_on, first_of, joined_nodes, nodes_given, value_given, name_given}
use Rattle.changes.specs.Marks.{node_changes, NodeChanges, removed, no_changes, mark_labels, mark}
use Rattle.changes.specs.Reduced.{left_on_node, unless_empty, cleared_labels, cleared, left_on_labels, without_overridden}
use Rattle.changes.specs.Overriding.{overridden, overridden_on_target, overridden_from_above, has_change, left_behind, deleted_if_by_nothing, by_nothing, not_overridden, labels_by_nothing, empty_replacements_deleted}

and_f : (x : Bool) → (x && false) ≡ false
and_f true = refl
and_f false = refl

and_t : (x : Bool) → (x && true) ≡ x
and_t true = refl
and_t false = refl

or_f : (x : Bool) → (x || false) ≡ x
or_f true = refl
or_f false = refl

-- the codes of changes, compared
pub code_back : (c : Code) → code_of (code_number c) ≡ Some c
code_back InsertBefore = refl
code_back InsertAfter = refl
code_back InsertFirst = refl
code_back InsertInto = refl
code_back InsertLast = refl
code_back InsertAttributes = refl
code_back Delete = refl
code_back ReplaceNode = refl
code_back ReplaceValue = refl
code_back ReplaceContent = refl
code_back Rename = refl

pub same_code_true : (a b : Code) → same_code a b ≡ true → a ≡ b
same_code_true a b h =
    let e : Some a ≡ Some b = sym (code_back a) ∙ ap code_of (eqb-true (code_number a) (code_number b) h) ∙ code_back b in cc

-- overridden by what is on the same node
abbrev by_target : Bool → Bool → Bool → Bool → Code → Bool
by_target del rep con seen c = overridden_on_target c del rep con seen

abbrev left_here : Bool → Bool → Bool → Bool → Bool → List Change → List Change
left_here c del rep con seen [] = []
left_here c del rep con seen (o ∷ r) =
    cond (c || by_target del rep con seen o.code) (left_here c del rep con (same_code o.code Delete || seen) r) (o ∷ left_here c del rep con (same_code o.code Delete || seen) r)

is_first : (b : Bool) (o : Change) (x : Option Change) → is_some (cond b (Some o) x) ≡ (b || is_some x)
is_first true o x = refl
is_first false o x = refl

on_other : (s : ℕ) (b : Bool) (o : Change) (x : List Change) → eqb o.target s ≡ false → changes_on s (cond b x (o ∷ x)) ≡ changes_on s x
on_other s true o x q = refl
on_other s false o x q = rw q

on_same : (s : ℕ) (b : Bool) (o : Change) (x : List Change) → eqb o.target s ≡ true → changes_on s (cond b x (o ∷ x)) ≡ cond b (changes_on s x) (o ∷ changes_on s x)
on_same s true o x q = refl
on_same s false o x q = rw q

module _ (d : Forest) (l : List Change) (s : ℕ) where
  abbrev here : Bool → List Change → List Change
  here seen x = left_here (overridden_from_above l s d) (has_change Delete s l) (has_change ReplaceNode s l) (has_change ReplaceContent s l) seen x

  on_left : (e r : List Change) → changes_on s (left_behind d l e r) ≡ here (has_change Delete s e) (changes_on s r)
  on_left e [] = refl
  on_left e (o ∷ r) = go (eqb o.target s) refl (on_left (o ∷ e) r)
    where
      rest : List Change
      rest = left_behind d l (o ∷ e) r

      left : List Change
      left = here (same_code o.code Delete || has_change Delete s e) (changes_on s r)

      by_all : ℕ → Bool
      by_all t = overridden_from_above l t d
          || by_target (has_change Delete t l) (has_change ReplaceNode t l) (has_change ReplaceContent t l) (has_change Delete t e) o.code

      go : (b : Bool) → eqb o.target s ≡ b → changes_on s rest ≡ here (has_change Delete s (o ∷ e)) (changes_on s r)
          → changes_on s (left_behind d l e (o ∷ r)) ≡ here (has_change Delete s e) (changes_on s (o ∷ r))
      go false q h = rw q (on_other s (overridden d l e o) o rest q ∙ h ∙ rw q)
      go true q h = rw q (on_same s (overridden d l e o) o rest q
          ∙ ap (λ z. cond (overridden d l e o) z (o ∷ z)) (h ∙ ap (λ z. here z (changes_on s r)) (rw q (is_first (same_code o.code Delete) o (first_of Delete (changes_on s e)))))
          ∙ ap (λ b. cond b left (o ∷ left)) (ap by_all (eqb-true o.target s q)))

-- overridden from above: nothing is left
left_none : (del rep con seen : Bool) (x : List Change) → left_here true del rep con seen x ≡ []
left_none del rep con seen [] = refl
left_none del rep con seen (o ∷ x) = left_none del rep con (same_code o.code Delete || seen) x

-- not so: by code
module _ (del rep con : Bool) where
  unless_deletion : (c : Code) (u v : Bool) → same_code c Delete ≡ false → by_target del rep con u c ≡ by_target del rep con v c
  unless_deletion InsertBefore u v e = refl
  unless_deletion InsertAfter u v e = refl
  unless_deletion InsertFirst u v e = refl
  unless_deletion InsertInto u v e = refl
  unless_deletion InsertLast u v e = refl
  unless_deletion InsertAttributes u v e = refl
  unless_deletion Delete u v e = absurd (true≢false e)
  unless_deletion ReplaceNode u v e = refl
  unless_deletion ReplaceValue u v e = refl
  unless_deletion ReplaceContent u v e = refl
  unless_deletion Rename u v e = refl

  joined_skip : (c : Code) (b : Bool) (o : Change) (x : List Change) → same_code o.code c ≡ false → joined_nodes c (cond b x (o ∷ x)) ≡ joined_nodes c x
  joined_skip c true o x q = refl
  joined_skip c false o x q = rw q

  first_skip : (c : Code) (b : Bool) (o : Change) (x : List Change) → same_code o.code c ≡ false → first_of c (cond b x (o ∷ x)) ≡ first_of c x
  first_skip c true o x q = refl
  first_skip c false o x q = rw q

  same_target_code : (c : Code) (seen : Bool) (o : Change) → same_code o.code c ≡ true → same_code c Delete ≡ false
      → by_target del rep con seen o.code ≡ by_target del rep con false c
  same_target_code c seen o q e = ap (λ t. by_target del rep con seen t) (same_code_true o.code c q) ∙ unless_deletion c seen false e

  joined_left : (c : Code) (seen : Bool) (x : List Change) → same_code c Delete ≡ false
      → joined_nodes c (left_here false del rep con seen x) ≡ cond (by_target del rep con false c) nil (joined_nodes c x)
  joined_left c seen [] e = go (by_target del rep con false c)
    where
      go : (b : Bool) → ◌≡◌ {A = Forest} nil (cond b nil nil)
      go true = refl
      go false = refl
  joined_left c seen (o ∷ x) e = go (same_code o.code c) (by_target del rep con false c) refl refl (joined_left c (same_code o.code Delete || seen) x e)
    where
      rest : List Change
      rest = left_here false del rep con (same_code o.code Delete || seen) x

      go : (b v : Bool) → same_code o.code c ≡ b → by_target del rep con false c ≡ v → joined_nodes c rest ≡ cond (by_target del rep con false c) nil (joined_nodes c x)
          → joined_nodes c (cond (by_target del rep con seen o.code) rest (o ∷ rest)) ≡ cond (by_target del rep con false c) nil (joined_nodes c (o ∷ x))
      go false v q w h = rw q (joined_skip c (by_target del rep con seen o.code) o rest q ∙ h)
      go true true q w h =
          ap (λ b. joined_nodes c (cond b rest (o ∷ rest))) (same_target_code c seen o q e ∙ w)
          ∙ h ∙ ap (λ b. cond b nil (joined_nodes c x)) w ∙ sym (ap (λ b. cond b nil (joined_nodes c (o ∷ x))) w)
      go true false q w h = ap (λ b. joined_nodes c (cond b rest (o ∷ rest))) (same_target_code c seen o q e ∙ w) ∙ rw (q, h) (rw w)

  first_left : (c : Code) (seen : Bool) (x : List Change) → same_code c Delete ≡ false
      → first_of c (left_here false del rep con seen x) ≡ cond (by_target del rep con false c) None (first_of c x)
  first_left c seen [] e = go (by_target del rep con false c)
    where
      go : (b : Bool) → ◌≡◌ {A = Option Change} None (cond b None None)
      go true = refl
      go false = refl
  first_left c seen (o ∷ x) e = go (same_code o.code c) (by_target del rep con false c) refl refl (first_left c (same_code o.code Delete || seen) x e)
    where
      rest : List Change
      rest = left_here false del rep con (same_code o.code Delete || seen) x

      go : (b v : Bool) → same_code o.code c ≡ b → by_target del rep con false c ≡ v → first_of c rest ≡ cond (by_target del rep con false c) None (first_of c x)
          → first_of c (cond (by_target del rep con seen o.code) rest (o ∷ rest)) ≡ cond (by_target del rep con false c) None (first_of c (o ∷ x))
      go false v q w h = rw q (first_skip c (by_target del rep con seen o.code) o rest q ∙ h)
      go true true q w h =
          ap (λ b. first_of c (cond b rest (o ∷ rest))) (same_target_code c seen o q e ∙ w)
          ∙ h ∙ ap (λ b. cond b None (first_of c x)) w ∙ sym (ap (λ b. cond b None (first_of c (o ∷ x))) w)
      go true false q w h = ap (λ b. first_of c (cond b rest (o ∷ rest))) (same_target_code c seen o q e ∙ w) ∙ rw q (rw w)

  deletion_left : (seen : Bool) (x : List Change) → is_some (first_of Delete (left_here false del rep con seen x)) ≡ (not (rep || seen) && is_some (first_of Delete x))
  deletion_left seen [] = sym (and_f (not (rep || seen)))
  deletion_left seen (o ∷ x) = go (same_code o.code Delete) (rep || seen) refl refl (deletion_left (same_code o.code Delete || seen) x)
    where
      rest : List Change
      rest = left_here false del rep con (same_code o.code Delete || seen) x

      or_t : (u : Bool) → (u || true) ≡ true
      or_t true = refl
      or_t false = refl

      own : same_code o.code Delete ≡ true → by_target del rep con seen o.code ≡ (rep || seen)
      own q = ap (λ t. by_target del rep con seen t) (same_code_true o.code Delete q)

      go : (b v : Bool) → same_code o.code Delete ≡ b → (rep || seen) ≡ v
          → is_some (first_of Delete rest) ≡ (not (rep || (same_code o.code Delete || seen)) && is_some (first_of Delete x))
          → is_some (first_of Delete (cond (by_target del rep con seen o.code) rest (o ∷ rest))) ≡ (not (rep || seen) && is_some (first_of Delete (o ∷ x)))
      go false v q w h = ap is_some (first_skip Delete (by_target del rep con seen o.code) o rest q) ∙ h ∙ rw q
      go true true q w h = ap (λ b. is_some (first_of Delete (cond b rest (o ∷ rest)))) (own q ∙ w) ∙ h ∙ rw (q, or_t rep, w)
      go true false q w h = ap (λ b. is_some (first_of Delete (cond b rest (o ∷ rest)))) (own q ∙ w) ∙ rw (q, w)

-- what is left on a node that is not overridden from above
node_changes_left : (x : List Change)
    → deleted_if_by_nothing (node_changes (left_here false (is_some (first_of Delete x)) (is_some (first_of ReplaceNode x)) (is_some (first_of ReplaceContent x)) false x))
    ≡ left_on_node (node_changes x)
node_changes_left x = same ∙ go (first_of Delete x) (first_of ReplaceNode x) (first_of ReplaceContent x) refl refl refl
  where
    y : List Change
    y = left_here false (is_some (first_of Delete x)) (is_some (first_of ReplaceNode x)) (is_some (first_of ReplaceContent x)) false x

    a : Bool
    a = is_some (first_of Delete x)

    b : Bool
    b = is_some (first_of ReplaceNode x)

    c : Bool
    c = is_some (first_of ReplaceContent x)

    z : NodeChanges
    z = record {
      before = joined_nodes InsertBefore x;
      after = joined_nodes InsertAfter x;
      first = cond (by_target a b c false InsertFirst) nil (joined_nodes InsertFirst x);
      into = cond (by_target a b c false InsertInto) nil (joined_nodes InsertInto x);
      last = cond (by_target a b c false InsertLast) nil (joined_nodes InsertLast x);
      attributes = cond (by_target a b c false InsertAttributes) nil (joined_nodes InsertAttributes x);
      deleted = (not (b || false) && a) || by_nothing (nodes_given (first_of ReplaceNode x));
      replaced = unless_empty (nodes_given (first_of ReplaceNode x));
      revalued = value_given (cond (by_target a b c false ReplaceValue) None (first_of ReplaceValue x));
      content = nodes_given (cond (by_target a b c false ReplaceContent) None (first_of ReplaceContent x));
      renamed = name_given (cond (by_target a b c false Rename) None (first_of Rename x));
    }

    same : deleted_if_by_nothing (node_changes y) ≡ z
    same =
        rw (
          joined_left a b c InsertBefore false x refl,
          joined_left a b c InsertAfter false x refl,
          joined_left a b c InsertFirst false x refl,
          joined_left a b c InsertInto false x refl,
          joined_left a b c InsertLast false x refl,
          joined_left a b c InsertAttributes false x refl,
          deletion_left a b c false x,
          first_left a b c ReplaceNode false x refl,
          first_left a b c ReplaceValue false x refl,
          first_left a b c ReplaceContent false x refl,
          first_left a b c Rename false x refl,
        )

    by_none : (f : Forest) → by_nothing (Some f) ≡ not (is_some (unless_empty (Some f)))
    by_none nil = refl
    by_none (node r as' k f) = refl

    go : (o_deleted o_replaced o_content : Option Change) → first_of Delete x ≡ o_deleted → first_of ReplaceNode x ≡ o_replaced → first_of ReplaceContent x ≡ o_content
        → z ≡ left_on_node (node_changes x)
    go (Some p) (Some o) o_content e_deleted e_replaced e_content = rw (e_deleted, e_replaced) (rw (by_none o.nodes))
    go (Some p) None o_content e_deleted e_replaced e_content = rw (e_deleted, e_replaced)
    go None (Some o) o_content e_deleted e_replaced e_content = rw (e_deleted, e_replaced) (rw (by_none o.nodes))
    go None None (Some o) e_deleted e_replaced e_content = rw (e_deleted, e_replaced, e_content)
    go None None None e_deleted e_replaced e_content = rw (e_deleted, e_replaced, e_content)

-- overridden from above, by place in the document
not_above_none : (l : List Change) (t : ℕ) (f : Forest) → count t f ≡ 0 → overridden_from_above l t f ≡ false
not_above_none l t nil z = refl
not_above_none l t (node r as' k f) z = go (omega arith) (omega arith) (not_above_none l t k (omega arith)) (not_above_none l t f (omega arith))
  where
    go : count_labels t as' ≡ 0 → count t k ≡ 0 → overridden_from_above l t k ≡ false → overridden_from_above l t f ≡ false → overridden_from_above l t (node r as' k f) ≡ false
    go a b u v = rw (a, b, u, v, and_f (has_change Delete r.id l || has_change ReplaceNode r.id l), and_f (has_change ReplaceContent r.id l))

module _ (l : List Change) (r : Label) (as' : List Label) (k f : Forest) (d : (t : ℕ) → count t (node r as' k f) ≤ 1) where
  not_above_itself : overridden_from_above l r.id (node r as' k f) ≡ false
  not_above_itself = let u = one_refl r.id in
      let v = d r.id in go (omega arith) (omega arith) (not_above_none l r.id k (omega arith)) (not_above_none l r.id f (omega arith))
    where
      go : count_labels r.id as' ≡ 0 → count r.id k ≡ 0 → overridden_from_above l r.id k ≡ false → overridden_from_above l r.id f ≡ false
          → overridden_from_above l r.id (node r as' k f) ≡ false
      go a b u v = rw (a, b, u, v, and_f (has_change Delete r.id l || has_change ReplaceNode r.id l), and_f (has_change ReplaceContent r.id l))

  above_attributes : (t : ℕ) → 1 ≤ count_labels t as' → overridden_from_above l t (node r as' k f) ≡ (has_change Delete r.id l || has_change ReplaceNode r.id l)
  above_attributes t p = let v = d t in go (lt-ltb 0 (count_labels t as') p) (omega arith) (not_above_none l t k (omega arith)) (not_above_none l t f (omega arith))
    where
      go : ltb 0 (count_labels t as') ≡ true → count t k ≡ 0 → overridden_from_above l t k ≡ false → overridden_from_above l t f ≡ false
          → overridden_from_above l t (node r as' k f) ≡ (has_change Delete r.id l || has_change ReplaceNode r.id l)
      go a b u v = rw (
        a,
        b,
        u,
        v,
        and_t (has_change Delete r.id l || has_change ReplaceNode r.id l),
        and_f (has_change ReplaceContent r.id l),
      ) (or_f (has_change Delete r.id l || has_change ReplaceNode r.id l))

  above_children : (t : ℕ) → 1 ≤ count t k
      → overridden_from_above l t (node r as' k f)
      ≡ ((has_change Delete r.id l || has_change ReplaceNode r.id l) || (has_change ReplaceContent r.id l || overridden_from_above l t k))
  above_children t p = let v = d t in go (lt-ltb 0 (count t k) p) (omega arith) (not_above_none l t f (omega arith))
    where
      go : ltb 0 (count t k) ≡ true → count_labels t as' ≡ 0 → overridden_from_above l t f ≡ false
          → overridden_from_above l t (node r as' k f)
          ≡ ((has_change Delete r.id l || has_change ReplaceNode r.id l) || (has_change ReplaceContent r.id l || overridden_from_above l t k))
      go a b v = rw (
        b,
        a,
        v,
        and_t (has_change Delete r.id l || has_change ReplaceNode r.id l),
        and_t (has_change ReplaceContent r.id l),
        or_f (overridden_from_above l t k),
      )

  above_behind : (t : ℕ) → 1 ≤ count t f → overridden_from_above l t (node r as' k f) ≡ overridden_from_above l t f
  above_behind t p = let v = d t in go (omega arith) (omega arith) (not_above_none l t k (omega arith))
    where
      go : count_labels t as' ≡ 0 → count t k ≡ 0 → overridden_from_above l t k ≡ false → overridden_from_above l t (node r as' k f) ≡ overridden_from_above l t f
      go a b u = rw (a, b, u, and_f (has_change Delete r.id l || has_change ReplaceNode r.id l), and_f (has_change ReplaceContent r.id l))

is_nodes : (o : Option Change) → is_some (nodes_given o) ≡ is_some o
is_nodes None = refl
is_nodes (Some o) = refl

or_swap : (x y : Bool) → (x || y) ≡ (y || x)
or_swap true true = refl
or_swap true false = refl
or_swap false true = refl
or_swap false false = refl

or_or : (x y z : Bool) → (x || (y || z)) ≡ ((x || y) || z)
or_or true y z = refl
or_or false y z = refl

removed_has : (l : List Change) (t : ℕ) → removed (node_changes (changes_on t l)) ≡ (has_change Delete t l || has_change ReplaceNode t l)
removed_has l t = ap (λ x. x || has_change Delete t l) (is_nodes (first_of ReplaceNode (changes_on t l))) ∙ or_swap (has_change ReplaceNode t l) (has_change Delete t l)

-- the marks of one node, by whether all on it is overridden from above
node_left : (d : Forest) (l : List Change) (t : ℕ) (b : Bool) → overridden_from_above l t d ≡ b
    → deleted_if_by_nothing (node_changes (changes_on t (not_overridden d l))) ≡ cond b no_changes (left_on_node (node_changes (changes_on t l)))
node_left d l t b e = ap (λ x. deleted_if_by_nothing (node_changes x)) (on_left d l t [] l
    ∙ ap (λ c. left_here c (has_change Delete t l) (has_change ReplaceNode t l) (has_change ReplaceContent t l) false (changes_on t l)) e) ∙ go b
  where
    go : (c : Bool)
        → deleted_if_by_nothing (node_changes (left_here c (has_change Delete t l) (has_change ReplaceNode t l) (has_change ReplaceContent t l) false (changes_on t l)))
        ≡ cond c no_changes (left_on_node (node_changes (changes_on t l)))
    go true =
        ap (λ x. deleted_if_by_nothing (node_changes x)) (left_none (has_change Delete t l) (has_change ReplaceNode t l) (has_change ReplaceContent t l) false (changes_on t l))
    go false = node_changes_left (changes_on t l)

labels_left : (d : Forest) (l : List Change) (b : Bool) (rs : List Label) → ((t : ℕ) → 1 ≤ count_labels t rs → overridden_from_above l t d ≡ b)
    → labels_by_nothing (mark_labels (not_overridden d l) rs) ≡ cond b (cleared_labels (mark_labels l rs)) (left_on_labels (mark_labels l rs))
labels_left d l true [] h = refl
labels_left d l false [] h = refl
labels_left d l true (r ∷ rs) h = let u = one_refl r.id in rw (node_left d l r.id true (h r.id (omega arith)), labels_left d l true rs (λ t p. h t (omega arith)))
labels_left d l false (r ∷ rs) h = let u = one_refl r.id in rw (node_left d l r.id false (h r.id (omega arith)), labels_left d l false rs (λ t p. h t (omega arith)))

all_left : (d : Forest) (l : List Change) (f : Forest) (b : Bool) → ((t : ℕ) → count t f ≤ 1)
    → ((t : ℕ) → 1 ≤ count t f → overridden_from_above l t d ≡ (b || overridden_from_above l t f))
    → empty_replacements_deleted (mark (not_overridden d l) f) ≡ cond b (cleared (mark l f)) (without_overridden (mark l f))
all_left d l nil true c h = refl
all_left d l nil false c h = refl
all_left d l (node r as' k f) b c h =
    go b refl
    (node_left d l r.id b own)
    (labels_left d l (b || (has_change Delete r.id l || has_change ReplaceNode r.id l)) as' (λ t p. h t (omega arith)
    ∙ ap (λ x. b || x) (above_attributes l r as' k f c t p)))
    (all_left d l k (b || ((has_change Delete r.id l || has_change ReplaceNode r.id l) || has_change ReplaceContent r.id l)) (λ t. omega (arith, c t))
    (λ t p. h t (omega arith)
    ∙ ap (λ x. b || x) (above_children l r as' k f c t p
    ∙ or_or (has_change Delete r.id l || has_change ReplaceNode r.id l) (has_change ReplaceContent r.id l) (overridden_from_above l t k))
    ∙ or_or b ((has_change Delete r.id l || has_change ReplaceNode r.id l) || has_change ReplaceContent r.id l) (overridden_from_above l t k)))
    (all_left d l f b (λ t. omega (arith, c t)) (λ t p. h t (omega arith) ∙ ap (λ x. b || x) (above_behind l r as' k f c t p)))
  where
    own : overridden_from_above l r.id d ≡ b
    own = let u = one_refl r.id in h r.id (omega arith) ∙ ap (λ x. b || x) (not_above_itself l r as' k f c) ∙ or_f b

    go : (v : Bool) → b ≡ v
        → deleted_if_by_nothing (node_changes (changes_on r.id (not_overridden d l))) ≡ cond b no_changes (left_on_node (node_changes (changes_on r.id l)))
        → labels_by_nothing (mark_labels (not_overridden d l) as')
        ≡ cond (b || (has_change Delete r.id l || has_change ReplaceNode r.id l)) (cleared_labels (mark_labels l as')) (left_on_labels (mark_labels l as'))
        → empty_replacements_deleted (mark (not_overridden d l) k)
        ≡ cond (b || ((has_change Delete r.id l || has_change ReplaceNode r.id l) || has_change ReplaceContent r.id l)) (cleared (mark l k)) (without_overridden (mark l k))
        → empty_replacements_deleted (mark (not_overridden d l) f) ≡ cond b (cleared (mark l f)) (without_overridden (mark l f))
        → empty_replacements_deleted (mark (not_overridden d l) (node r as' k f)) ≡ cond b (cleared (mark l (node r as' k f))) (without_overridden (mark l (node r as' k f)))
    go true e ha hr hk hf = rw (ha, hr, hk, hf) (rw e)
    go false e ha hr hk hf = rw (ha, hr, hk, hf) (rw (e, removed_has l r.id, is_nodes (first_of ReplaceContent (changes_on r.id l))))

-- to drop the overridden changes from the list is to drop them from the marks
pub dropped_same : (d : Forest) (l : List Change) → ((t : ℕ) → count t d ≤ 1) → empty_replacements_deleted (mark (not_overridden d l) d) ≡ without_overridden (mark l d)
dropped_same d l c = all_left d l d false c (λ t p. refl)
