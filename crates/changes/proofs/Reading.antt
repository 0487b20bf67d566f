-- A marked document is read back from its list.
use Rattle.std.proofs.Common.{◌≡◌, ℕ, ◌≤◌, Bool, true, false, cond, eqb, List, [], ◌∷◌, ◌++◌, Some, None, Option, sym, refl, ◌∙◌, append-nil, arith}
use Rattle.std.proofs.lemmas.Bool.{eq-eqb}
use Rattle.records.specs.declared.operations.Code.{Code}
use Rattle.records.specs.declared.operations.Code.TheVariants.{Delete, ReplaceValue, Rename, ReplaceNode, ReplaceContent, InsertBefore, InsertAfter, InsertFirst, InsertInto, InsertLast, InsertAttributes}
use Rattle.document.specs.Tree.{node, Forest, nil, Label, count_labels, count}
use Rattle.document.proofs.Counting.{one_zero, one_refl}
use Rattle.changes.specs.Changes.{joined_nodes, Change, ◌⊕◌, same_code, first_of, changes_on, is_some, nodes_given, value_given, name_given}
use Rattle.changes.specs.Marks.{node_changes, NodeChanges, MarkedLabel, MarkedForest, no_marks, mark, marked, mark_labels, unmark, unmark_labels}
use Rattle.changes.specs.Reduced.{insertion, deletion_of, replacement, new_value, new_name, changes_by_code, label_changes_in_order, changes_in_order}
use Rattle.changes.proofs.Rows.{⊕-assoc, ⊕-nil}

-- what joined lists give
pub joined_nodes-++ : (c : Code) (l k : List Change) → joined_nodes c (l ++ k) ≡ joined_nodes c l ⊕ joined_nodes c k
joined_nodes-++ c [] k = refl
joined_nodes-++ c (o ∷ l) k = go (same_code o.code c) refl (joined_nodes-++ c l k)
  where
    go : (b : Bool) → same_code o.code c ≡ b → joined_nodes c (l ++ k) ≡ joined_nodes c l ⊕ joined_nodes c k
        → joined_nodes c ((o ∷ l) ++ k) ≡ joined_nodes c (o ∷ l) ⊕ joined_nodes c k
    go true e h = rw (e, h, ⊕-assoc o.nodes (joined_nodes c l) (joined_nodes c k))
    go false e h = rw (e, h)

abbrev pub alt : Option Change → Option Change → Option Change
alt None y = y
alt (Some x) y = Some x

pub first_of-++ : (c : Code) (l k : List Change) → first_of c (l ++ k) ≡ alt (first_of c l) (first_of c k)
first_of-++ c [] k = refl
first_of-++ c (o ∷ l) k = go (same_code o.code c) refl (first_of-++ c l k)
  where
    go : (b : Bool) → same_code o.code c ≡ b → first_of c (l ++ k) ≡ alt (first_of c l) (first_of c k) → first_of c ((o ∷ l) ++ k) ≡ alt (first_of c (o ∷ l)) (first_of c k)
    go true e h = rw e
    go false e h = rw (e, h)

pub changes_on-++ : (t : ℕ) (l k : List Change) → changes_on t (l ++ k) ≡ changes_on t l ++ changes_on t k
changes_on-++ t [] k = refl
changes_on-++ t (o ∷ l) k = go (eqb o.target t) refl (changes_on-++ t l k)
  where
    go : (b : Bool) → eqb o.target t ≡ b → changes_on t (l ++ k) ≡ changes_on t l ++ changes_on t k → changes_on t ((o ∷ l) ++ k) ≡ changes_on t (o ∷ l) ++ changes_on t k
    go true e h = rw (e, h)
    go false e h = rw (e, h)

-- what the changes of one kind on one node give
cond_same : {A : Type 0} (b : Bool) (x : A) → cond b x x ≡ x
cond_same true x = refl
cond_same false x = refl

joined_insertion : (c : Code) (t : ℕ) (d : Code) (f : Forest) → joined_nodes c (insertion t d f) ≡ cond (same_code d c) f nil
joined_insertion c t d nil = sym (cond_same (same_code d c) nil)
joined_insertion c t d (node r as' k f) = rw (⊕-nil f)

joined_deletion : (c : Code) (t : ℕ) (b : Bool) → joined_nodes c (deletion_of t b) ≡ nil
joined_deletion c t false = refl
joined_deletion c t true = cond_same (same_code Delete c) nil

joined_replacement : (c : Code) (t : ℕ) (d : Code) (o : Option Forest) → same_code d c ≡ false → joined_nodes c (replacement t d o) ≡ nil
joined_replacement c t d None e = refl
joined_replacement c t d (Some g) e = rw e

joined_new_value : (c : Code) (t : ℕ) (o : Option ℕ) → joined_nodes c (new_value t o) ≡ nil
joined_new_value c t None = refl
joined_new_value c t (Some v) = cond_same (same_code ReplaceValue c) nil

joined_new_name : (c : Code) (t : ℕ) (o : Option ℕ) → joined_nodes c (new_name t o) ≡ nil
joined_new_name c t None = refl
joined_new_name c t (Some v) = cond_same (same_code Rename c) nil

first_insertion : (c : Code) (t : ℕ) (d : Code) (f : Forest) → same_code d c ≡ false → first_of c (insertion t d f) ≡ None
first_insertion c t d nil e = refl
first_insertion c t d (node r as' k f) e = rw e

first_replacement : (c : Code) (t : ℕ) (d : Code) (o : Option Forest) → same_code d c ≡ false → first_of c (replacement t d o) ≡ None
first_replacement c t d None e = refl
first_replacement c t d (Some g) e = rw e

first_deletion : (c : Code) (t : ℕ) (b : Bool) → same_code Delete c ≡ false → first_of c (deletion_of t b) ≡ None
first_deletion c t false e = refl
first_deletion c t true e = rw e

first_new_value : (c : Code) (t : ℕ) (o : Option ℕ) → same_code ReplaceValue c ≡ false → first_of c (new_value t o) ≡ None
first_new_value c t None e = refl
first_new_value c t (Some v) e = rw e

first_new_name : (c : Code) (t : ℕ) (o : Option ℕ) → same_code Rename c ≡ false → first_of c (new_name t o) ≡ None
first_new_name c t None e = refl
first_new_name c t (Some v) e = rw e

alt_none : (o : Option Change) → alt o None ≡ o
alt_none None = refl
alt_none (Some x) = refl

the_deletion : (t : ℕ) (b : Bool) → is_some (first_of Delete (deletion_of t b)) ≡ b
the_deletion t false = refl
the_deletion t true = refl

the_replacement : (t : ℕ) (o : Option Forest) → nodes_given (first_of ReplaceNode (replacement t ReplaceNode o)) ≡ o
the_replacement t None = refl
the_replacement t (Some g) = refl

the_content : (t : ℕ) (o : Option Forest) → nodes_given (first_of ReplaceContent (replacement t ReplaceContent o)) ≡ o
the_content t None = refl
the_content t (Some g) = refl

the_value : (t : ℕ) (o : Option ℕ) → value_given (first_of ReplaceValue (new_value t o)) ≡ o
the_value t None = refl
the_value t (Some g) = refl

the_name : (t : ℕ) (o : Option ℕ) → name_given (first_of Rename (new_name t o)) ≡ o
the_name t None = refl
the_name t (Some g) = refl

ruleset Pieces = (joined_nodes-++, joined_insertion, joined_deletion, joined_replacement, joined_new_value, joined_new_name, ⊕-nil)

ruleset Firsts = (first_of-++, first_insertion, first_replacement, first_deletion, first_new_value, first_new_name, alt_none)

-- the changes on one node are read back from its list
pub node_changes_back : (t : ℕ) (a : NodeChanges) → node_changes (changes_by_code t a) ≡ a
node_changes_back t a = λ i. record {
  before = p_before i;
  after = p_after i;
  first = p_first i;
  into = p_into i;
  last = p_last i;
  attributes = p_attributes i;
  deleted = p_deleted i;
  replaced = p_replaced i;
  revalued = p_revalued i;
  content = p_content i;
  renamed = p_renamed i;
}
  where
    p_before : joined_nodes InsertBefore (changes_by_code t a) ≡ a.before
    p_before = simp Pieces

    p_after : joined_nodes InsertAfter (changes_by_code t a) ≡ a.after
    p_after = simp Pieces

    p_first : joined_nodes InsertFirst (changes_by_code t a) ≡ a.first
    p_first = simp Pieces

    p_into : joined_nodes InsertInto (changes_by_code t a) ≡ a.into
    p_into = simp Pieces

    p_last : joined_nodes InsertLast (changes_by_code t a) ≡ a.last
    p_last = simp Pieces

    p_attributes : joined_nodes InsertAttributes (changes_by_code t a) ≡ a.attributes
    p_attributes = simp Pieces

    p_deleted : is_some (first_of Delete (changes_by_code t a)) ≡ a.deleted
    p_deleted = simp (Firsts, the_deletion)

    p_replaced : nodes_given (first_of ReplaceNode (changes_by_code t a)) ≡ a.replaced
    p_replaced = simp (Firsts, the_replacement)

    p_revalued : value_given (first_of ReplaceValue (changes_by_code t a)) ≡ a.revalued
    p_revalued = simp (Firsts, the_value)

    p_content : nodes_given (first_of ReplaceContent (changes_by_code t a)) ≡ a.content
    p_content = simp (Firsts, the_content)

    p_renamed : name_given (first_of Rename (changes_by_code t a)) ≡ a.renamed
    p_renamed = simp (Firsts, the_name)

-- the changes of one node are on it
on_insertion : (s t : ℕ) (d : Code) (f : Forest) → changes_on s (insertion t d f) ≡ cond (eqb t s) (insertion t d f) []
on_insertion s t d nil = sym (cond_same {A = List Change} (eqb t s) [])
on_insertion s t d (node r as' k f) = refl

on_deletion : (s t : ℕ) (b : Bool) → changes_on s (deletion_of t b) ≡ cond (eqb t s) (deletion_of t b) []
on_deletion s t false = sym (cond_same {A = List Change} (eqb t s) [])
on_deletion s t true = refl

on_replacement : (s t : ℕ) (d : Code) (o : Option Forest) → changes_on s (replacement t d o) ≡ cond (eqb t s) (replacement t d o) []
on_replacement s t d None = sym (cond_same {A = List Change} (eqb t s) [])
on_replacement s t d (Some g) = refl

on_new_value : (s t : ℕ) (o : Option ℕ) → changes_on s (new_value t o) ≡ cond (eqb t s) (new_value t o) []
on_new_value s t None = sym (cond_same {A = List Change} (eqb t s) [])
on_new_value s t (Some v) = refl

on_new_name : (s t : ℕ) (o : Option ℕ) → changes_on s (new_name t o) ≡ cond (eqb t s) (new_name t o) []
on_new_name s t None = sym (cond_same {A = List Change} (eqb t s) [])
on_new_name s t (Some v) = refl

pub on_changes_by_code : (s t : ℕ) (a : NodeChanges) → changes_on s (changes_by_code t a) ≡ cond (eqb t s) (changes_by_code t a) []
on_changes_by_code s t a = go (eqb t s) refl
  where
    go : (b : Bool) → eqb t s ≡ b → changes_on s (changes_by_code t a) ≡ cond b (changes_by_code t a) []
    go true e = simp (changes_on-++, on_insertion, on_deletion, on_replacement, on_new_value, on_new_name, e)
    go false e = simp (changes_on-++, on_insertion, on_deletion, on_replacement, on_new_value, on_new_name, e)

-- a list that has just the changes of a marked document on the nodes of that document
abbrev AgreeLabels : List Change → List MarkedLabel → Type 0
AgreeLabels l [] = Unit {0}
AgreeLabels l (m ∷ ms) = (changes_on m.label.id l ≡ changes_by_code m.label.id m.changes) × AgreeLabels l ms

abbrev Agree : List Change → MarkedForest → Type 0
Agree l no_marks = Unit {0}
Agree l (marked r a as' k f) = (changes_on r.id l ≡ changes_by_code r.id a) × AgreeLabels l as' × Agree l k × Agree l f

agree_labels : (l : List Change) (ms : List MarkedLabel) → AgreeLabels l ms → mark_labels l (unmark_labels ms) ≡ ms
agree_labels l [] h = refl
agree_labels l (m ∷ ms) h = rw (h.0, node_changes_back m.label.id m.changes, agree_labels l ms h.1)

agree_marks : (l : List Change) (m : MarkedForest) → Agree l m → mark l (unmark m) ≡ m
agree_marks l no_marks h = refl
agree_marks l (marked r a as' k f) h = rw (h.0, node_changes_back r.id a, agree_labels l as' h.1, agree_marks l k h.2, agree_marks l f h.3)

-- nothing is on a node that is not there
pub off_labels : (t : ℕ) (ms : List MarkedLabel) → count_labels t (unmark_labels ms) ≡ 0 → changes_on t (label_changes_in_order ms) ≡ []
off_labels t [] e = refl
off_labels t (m ∷ ms) e = rw (
  changes_on-++ t (changes_by_code m.label.id m.changes) (label_changes_in_order ms),
  on_changes_by_code t m.label.id m.changes,
  one_zero (eqb m.label.id t) (omega arith),
  off_labels t ms (omega arith),
)

pub off : (t : ℕ) (m : MarkedForest) → count t (unmark m) ≡ 0 → changes_on t (changes_in_order m) ≡ []
off t no_marks e = refl
off t (marked r a as' k f) e =
    rw (
      changes_on-++ t (changes_by_code r.id a) (label_changes_in_order as' ++ (changes_in_order k ++ changes_in_order f)),
      changes_on-++ t (label_changes_in_order as') (changes_in_order k ++ changes_in_order f),
      changes_on-++ t (changes_in_order k) (changes_in_order f),
      on_changes_by_code t r.id a,
      one_zero (eqb r.id t) (omega arith),
      off_labels t as' (omega arith),
      off t k (omega arith),
      off t f (omega arith),
    )

pub agree_own_labels : (l : List Change) (ms : List MarkedLabel) → ((t : ℕ) → count_labels t (unmark_labels ms) ≤ 1)
    → ((t : ℕ) → 1 ≤ count_labels t (unmark_labels ms) → changes_on t l ≡ changes_on t (label_changes_in_order ms)) → AgreeLabels l ms
agree_own_labels l [] d h = tt
agree_own_labels l (m ∷ ms) d h = (own, agree_own_labels l ms (λ t. omega (arith, d t)) rest)
  where
    own : changes_on m.label.id l ≡ changes_by_code m.label.id m.changes
    own =
        let u = one_refl m.label.id in
        let v = d m.label.id in
        h m.label.id (omega arith)
        ∙ rw (
          changes_on-++ m.label.id (changes_by_code m.label.id m.changes) (label_changes_in_order ms),
          on_changes_by_code m.label.id m.label.id m.changes,
          eq-eqb m.label.id m.label.id refl,
          off_labels m.label.id ms (omega arith),
        ) (append-nil (changes_by_code m.label.id m.changes))

    rest : (t : ℕ) → 1 ≤ count_labels t (unmark_labels ms) → changes_on t l ≡ changes_on t (label_changes_in_order ms)
    rest t p =
        let v = d t in
        h t (omega arith) ∙ rw (
          changes_on-++ t (changes_by_code m.label.id m.changes) (label_changes_in_order ms),
          on_changes_by_code t m.label.id m.changes,
          one_zero (eqb m.label.id t) (omega arith),
        )

on_node : (t : ℕ) (r : Label) (a : NodeChanges) (as' : List MarkedLabel) (k f : MarkedForest)
    → changes_on t (changes_in_order (marked r a as' k f))
    ≡ cond (eqb r.id t) (changes_by_code r.id a) [] ++ (changes_on t (label_changes_in_order as') ++ (changes_on t (changes_in_order k) ++ changes_on t (changes_in_order f)))
on_node t r a as' k f =
    rw (
      changes_on-++ t (changes_by_code r.id a) (label_changes_in_order as' ++ (changes_in_order k ++ changes_in_order f)),
      changes_on-++ t (label_changes_in_order as') (changes_in_order k ++ changes_in_order f),
      changes_on-++ t (changes_in_order k) (changes_in_order f),
      on_changes_by_code t r.id a,
    )

pub agree_own : (l : List Change) (m : MarkedForest) → ((t : ℕ) → count t (unmark m) ≤ 1)
    → ((t : ℕ) → 1 ≤ count t (unmark m) → changes_on t l ≡ changes_on t (changes_in_order m)) → Agree l m
agree_own l no_marks d h = tt
agree_own l (marked r a as' k f) d h =
    (own, agree_own_labels l as' (λ t. omega (arith, d t)) among, agree_own l k (λ t. omega (arith, d t)) below, agree_own l f (λ t. omega (arith, d t)) behind)
  where
    own : changes_on r.id l ≡ changes_by_code r.id a
    own =
        let u = one_refl r.id in
        let v = d r.id in
        h r.id (omega arith) ∙ on_node r.id r a as' k f
        ∙ rw (
          eq-eqb r.id r.id refl,
          off_labels r.id as' (omega arith),
          off r.id k (omega arith),
          off r.id f (omega arith),
        ) (append-nil (changes_by_code r.id a))

    among : (t : ℕ) → 1 ≤ count_labels t (unmark_labels as') → changes_on t l ≡ changes_on t (label_changes_in_order as')
    among t p =
        let v = d t in
        h t (omega arith) ∙ on_node t r a as' k f
        ∙ rw (one_zero (eqb r.id t) (omega arith), off t k (omega arith), off t f (omega arith)) (append-nil (changes_on t (label_changes_in_order as')))

    below : (t : ℕ) → 1 ≤ count t (unmark k) → changes_on t l ≡ changes_on t (changes_in_order k)
    below t p =
        let v = d t in
        h t (omega arith) ∙ on_node t r a as' k f
        ∙ rw (one_zero (eqb r.id t) (omega arith), off_labels t as' (omega arith), off t f (omega arith)) (append-nil (changes_on t (changes_in_order k)))

    behind : (t : ℕ) → 1 ≤ count t (unmark f) → changes_on t l ≡ changes_on t (changes_in_order f)
    behind t p =
        let v = d t in
        h t (omega arith) ∙ on_node t r a as' k f
        ∙ rw (one_zero (eqb r.id t) (omega arith), off_labels t as' (omega arith), off t k (omega arith))

-- the marks of a marked document come back from its list
pub marks_back : (m : MarkedForest) → ((t : ℕ) → count t (unmark m) ≤ 1) → mark (changes_in_order m) (unmark m) ≡ m
marks_back m d = agree_marks (changes_in_order m) m (agree_own (changes_in_order m) m d (λ t p. refl))
