-- Attribute names: what the test on names says beside each element.
use Rattle.std.proofs.Common.{◌≡◌, ℕ, ◌+◌, ◌≤◌, Bool, true, false, cond, ◌&&◌, eqb, List, [], ◌∷◌, ◌++◌, Some, None, Option, sym, refl, ap, ◌∙◌, ap₂, true≢false, arith}
use Rattle.std.proofs.lemmas.Bool.{eq-eqb, or_parts, and_parts, eqb-true, or_from}
use Rattle.records.specs.declared.nodes.Kind.TheVariants.{Attribute}
use Rattle.records.specs.declared.operations.Code.{Code}
use Rattle.records.specs.declared.operations.Code.TheVariants.{InsertAttributes, ReplaceNode, Rename}
use Rattle.document.specs.Tree.{one, Label, count, count_names, nil, Forest, node, Attributes, count_labels, Sound, WellFormed}
use Rattle.document.specs.Table.{seen}
use Rattle.document.proofs.Counting.{one_refl}
use Rattle.document.proofs.Tested.{passed_not}
use Rattle.document.proofs.Repeats.{count_before, same_key, not_seen, one_same}
use Rattle.changes.specs.Changes.{root_labels, or_else, ◌⊕◌, Change, joined_nodes, same_code, nodes_given, first_of, name_given, changes_on}
use Rattle.changes.specs.Marks.{MarkedLabel, MarkedForest, no_marks, mark, marked, unmark_labels, mark_labels}
use Rattle.changes.specs.Reduced.{unless_empty, without_overridden, gathered_by_gap}
use Rattle.changes.specs.Overriding.{left_behind, overridden, labels_by_nothing, empty_replacements_deleted, not_overridden}
use Rattle.changes.specs.Tests.{names_on, names_of, clash, first_clash, Found, find, names_by_code, names_if_attribute, find_label, names_in}
use Rattle.changes.proofs.Reducing.{empty_or_else}
use Rattle.changes.proofs.Weighing.{total, spread_labels, spread, spread_all}
use Rattle.changes.proofs.Dropping.{same_code_true, dropped_same}
use Rattle.changes.proofs.Fitting.{Each}
use Rattle.changes.proofs.Leading.{unmark_mark_labels}
use Rattle.changes.proofs.Finding.{find_label_itself, find_label_behind, find_below, find_behind, find_itself, find_attribute}

-- the new name, where there is one
abbrev pub name_is : ℕ → Option ℕ → ℕ
name_is n None = 0
name_is n (Some m) = one (eqb m n)

-- how often the changes on attributes give a name
abbrev pub names_by_labels : ℕ → List MarkedLabel → ℕ
names_by_labels n [] = 0
names_by_labels n (m ∷ l) = count_names n (root_labels (or_else m.changes.replaced nil)) + (name_is n m.changes.renamed + names_by_labels n l)

-- no element has a name twice, its own attributes and those that it is given together
abbrev pub Named : MarkedForest → Type 0
Named no_marks = Unit {0}
Named (marked r a as' k f) =
    ((n : ℕ) → count_names n (unmark_labels as') + (count_names n (root_labels a.attributes) + names_by_labels n as') ≤ 1) × Named k × Named f

-- keys, counted
pub count_before-++ : (k : ℕ × ℕ) (xs ys : List (ℕ × ℕ)) → count_before k (xs ++ ys) ≡ count_before k xs + count_before k ys
count_before-++ k [] ys = omega arith
count_before-++ k (x ∷ xs) ys = omega (arith, count_before-++ k xs ys)

pub count_names-++ : (n : ℕ) (xs ys : List Label) → count_names n (xs ++ ys) ≡ count_names n xs + count_names n ys
count_names-++ n [] ys = omega arith
count_names-++ n (x ∷ xs) ys = omega (arith, count_names-++ n xs ys)

pub root_labels-⊕ : (f g : Forest) → root_labels (f ⊕ g) ≡ root_labels f ++ root_labels g
root_labels-⊕ nil g = refl
root_labels-⊕ (node r as' k f) g = ap (λ x. r ∷ x) (root_labels-⊕ f g)

pub count_names_on : (p n : ℕ) (l : List Label) → count_before (p, n) (names_on p l) ≡ count_names n l
count_names_on p n [] = refl
count_names_on p n (r ∷ l) = rw (eq-eqb p p refl, count_names_on p n l)

-- how often a change gives a name
abbrev pub gives : Forest → ℕ × ℕ → Change → ℕ
gives d k o = count_before k (names_of d o)

-- THE TEST: no name clashes
not_clash : (k : ℕ × ℕ) (ks had : List (ℕ × ℕ)) → clash ks had ≡ false → count_before k had ≤ 1 → count_before k had + count_before k ks ≤ 1
not_clash k [] had h b = omega arith
not_clash k (j ∷ ks) had h b =
    let u = or_parts (seen j had) (clash ks (j ∷ had)) h in
    omega (arith, not_clash k ks (j ∷ had) u.1 (once (same_key j k) refl u.0))
  where
    count_seen : (i : ℕ × ℕ) (js : List (ℕ × ℕ)) → seen i js ≡ false → count_before i js ≡ 0
    count_seen i [] e = refl
    count_seen i (x ∷ js) e =
        let w = or_parts (eqb x.0 i.0 && eqb x.1 i.1) (seen i js) e in rw w.0 (omega (arith, count_seen i js w.1))

    once : (c : Bool) → same_key j k ≡ c → seen j had ≡ false → count_before k (j ∷ had) ≤ 1
    once true e s =
        let q = and_parts (eqb j.0 k.0) (eqb j.1 k.1) e in
        let i : j ≡ k = ap₂ (λ (a b : ℕ). (a, b)) (eqb-true j.0 k.0 q.0) (eqb-true j.1 k.1 q.1) in
        let z : count_before k had ≡ 0 = rw i at (count_seen j had s) in
        rw e (omega arith)
    once false e s = rw e (omega arith)

pub names_passed : (d : Forest) (l e : List Change) (had : List (ℕ × ℕ)) (n : ℕ) (r : List Change) → first_clash d l e had n r ≡ None
    → ((k : ℕ × ℕ) → count_before k had ≤ 1) → (k : ℕ × ℕ) → count_before k had + total (gives d k) (left_behind d l e r) ≤ 1
names_passed d l e had n [] h b k = omega (arith, b k)
names_passed d l e had n (o ∷ r) h b k = go (overridden d l e o) refl (names_passed d l (o ∷ e) had (n + 1) r) (names_passed d l (o ∷ e) (names_of d o ++ had) (n + 1) r)
  where
    go : (c : Bool) → overridden d l e o ≡ c
        → (first_clash d l (o ∷ e) had (n + 1) r ≡ None → ((k : ℕ × ℕ) → count_before k had ≤ 1) → (k : ℕ × ℕ)
        → count_before k had + total (gives d k) (left_behind d l (o ∷ e) r) ≤ 1)
        → (first_clash d l (o ∷ e) (names_of d o ++ had) (n + 1) r ≡ None → ((k : ℕ × ℕ) → count_before k (names_of d o ++ had) ≤ 1)
        → (k : ℕ × ℕ) → count_before k (names_of d o ++ had) + total (gives d k) (left_behind d l (o ∷ e) r) ≤ 1)
        → count_before k had + total (gives d k) (left_behind d l e (o ∷ r)) ≤ 1
    go true q skip keep = rw q (skip (rw q at h) b k)
    go false q skip keep =
        let u = passed_not (clash (names_of d o) had) (first_clash d l (o ∷ e) (names_of d o ++ had) (n + 1) r) n (rw q at h) in
        rw q (omega (
          arith,
          count_before-++ k (names_of d o) had,
          keep u.1 (λ j. omega (arith, count_before-++ j (names_of d o) had, not_clash j (names_of d o) had u.0 (b j))) k,
        ))

no_clash : (ks had : List (ℕ × ℕ)) → ((k : ℕ × ℕ) → count_before k had + count_before k ks ≤ 1) → clash ks had ≡ false
no_clash [] had h = refl
no_clash (j ∷ ks) had h =
    or_from (seen j had) (clash ks (j ∷ had)) (not_seen j had (omega (arith, h j, one_same j))) (no_clash ks (j ∷ had) (λ k. omega (arith, h k)))

pub passed_names : (d : Forest) (l e : List Change) (had : List (ℕ × ℕ)) (n : ℕ) (r : List Change)
    → ((k : ℕ × ℕ) → count_before k had + total (gives d k) r ≤ 1) → first_clash d l e had n r ≡ None
passed_names d l e had n [] h = refl
passed_names d l e had n (o ∷ r) h =
    go (overridden d l e o) (passed_names d l (o ∷ e) had (n + 1) r (λ k. omega (arith, h k)))
    (passed_names d l (o ∷ e) (names_of d o ++ had) (n + 1) r (λ k. omega (arith, h k, count_before-++ k (names_of d o) had)))
  where
    free : clash (names_of d o) had ≡ false
    free = no_clash (names_of d o) had (λ k. omega (arith, h k))

    go : (c : Bool) → first_clash d l (o ∷ e) had (n + 1) r ≡ None → first_clash d l (o ∷ e) (names_of d o ++ had) (n + 1) r ≡ None
        → cond c (first_clash d l (o ∷ e) had (n + 1) r) (cond (clash (names_of d o) had) (Some n) (first_clash d l (o ∷ e) (names_of d o ++ had) (n + 1) r)) ≡ None
    go true p q = p
    go false p q = rw free q

-- FROM THE LIST TO THE MARKS
module _ (d : Forest) (p n t : ℕ) (x : Found) (e : find t d ≡ Some x) (own : x.element ≡ p) where
  -- the names that a change on this node gives, by its code
  given_by : (o : Change) (c : Code) → o.target ≡ t → o.code ≡ c → gives d (p, n) o ≡ count_before (p, n) (names_by_code c x o)
  given_by o c q w = rw (q, e, w)

  attributes_given : (l : List Change) → Each (λ o. o.target ≡ t) l → count_names n (root_labels (joined_nodes InsertAttributes l)) ≤ total (gives d (p, n)) l
  attributes_given [] h = omega arith
  attributes_given (o ∷ l) h = go (same_code o.code InsertAttributes) refl (attributes_given l h.1)
    where
      go : (b : Bool) → same_code o.code InsertAttributes ≡ b → count_names n (root_labels (joined_nodes InsertAttributes l)) ≤ total (gives d (p, n)) l
          → count_names n (root_labels (joined_nodes InsertAttributes (o ∷ l))) ≤ total (gives d (p, n)) (o ∷ l)
      go true q k =
          let u = given_by o InsertAttributes h.0 (same_code_true o.code InsertAttributes q) in
          let v : count_before (p, n) (names_on x.element (root_labels o.nodes)) ≡ count_names n (root_labels o.nodes) =
          rw own (count_names_on p n (root_labels o.nodes)) in
          rw (
            q,
            root_labels-⊕ o.nodes (joined_nodes InsertAttributes l),
            count_names-++ n (root_labels o.nodes) (root_labels (joined_nodes InsertAttributes l)),
          ) (omega arith)
      go false q k = rw q (omega arith)

  module _ (κ : x.kind ≡ Attribute) where
    label_given : (l : List Change) → Each (λ o. o.target ≡ t) l
        → count_names n (root_labels (or_else (nodes_given (first_of ReplaceNode l)) nil)) + name_is n (name_given (first_of Rename l)) ≤ total (gives d (p, n)) l
    label_given [] h = omega arith
    label_given (o ∷ l) h = go (same_code o.code ReplaceNode) (same_code o.code Rename) refl refl (label_given l h.1)
      where
        go : (b c : Bool) → same_code o.code ReplaceNode ≡ b → same_code o.code Rename ≡ c
            → count_names n (root_labels (or_else (nodes_given (first_of ReplaceNode l)) nil)) + name_is n (name_given (first_of Rename l)) ≤ total (gives d (p, n)) l
            → count_names n (root_labels (or_else (nodes_given (first_of ReplaceNode (o ∷ l))) nil)) + name_is n (name_given (first_of Rename (o ∷ l)))
            ≤ total (gives d (p, n)) (o ∷ l)
        go true true q w k = absurd (true≢false (rw (same_code_true o.code ReplaceNode q) at (sym w)))
        go true false q w k =
            let u = given_by o ReplaceNode h.0 (same_code_true o.code ReplaceNode q) in
            let v : count_before (p, n) (names_if_attribute x.kind (names_on x.element (root_labels o.nodes))) ≡ count_names n (root_labels o.nodes)
            = rw (κ, own) (count_names_on p n (root_labels o.nodes)) in
            rw (q, w) (omega arith)
        go false true q w k =
            let u = given_by o Rename h.0 (same_code_true o.code Rename w) in
            let v : count_before (p, n) (names_if_attribute x.kind ((x.element, o.name) ∷ [])) ≡ one (eqb o.name n) + 0 = rw (κ, own, eq-eqb p p refl) in
            rw (q, w) (omega arith)
        go false false q w k = rw (q, w) (omega arith)

on_targets : (t : ℕ) (l : List Change) → Each (λ o. o.target ≡ t) (changes_on t l)
on_targets t [] = tt
on_targets t (o ∷ l) = go (eqb o.target t) refl (on_targets t l)
  where
    go : (b : Bool) → eqb o.target t ≡ b → Each (λ o. o.target ≡ t) (changes_on t l) → Each (λ o. o.target ≡ t) (changes_on t (o ∷ l))
    go true e k = rw e (eqb-true o.target t e, k)
    go false e k = rw e k

module _ (d : Forest) (l : List Change) where
  labels_given : (p n : ℕ) (rs : List Label) → Attributes rs → ((t : ℕ) → count_labels t rs ≤ 1) → ((t : ℕ) → 1 ≤ count_labels t rs → find t d ≡ find_label p t rs)
      → names_by_labels n (mark_labels l rs) ≤ spread_labels (gives d (p, n)) l rs
  labels_given p n [] a c g = omega arith
  labels_given p n (r ∷ rs) a c g =
      omega (
        arith,
        label_given d p n r.id (record { kind = r.kind; element = p }) (g r.id (omega (arith, one_refl r.id)) ∙ find_label_itself p r rs) refl a.0
            (changes_on r.id l) (on_targets r.id l),
        labels_given p n rs a.2 (λ t. omega (arith, c t)) (λ t q. g t (omega arith) ∙ find_label_behind p t r rs (c t) q),
      )

  pub marks_named : (f : Forest) → Sound f → ((t : ℕ) → count t f ≤ 1) → ((t : ℕ) → 1 ≤ count t f → find t d ≡ find t f)
      → ((k : ℕ × ℕ) → count_before k (names_in f) + spread (gives d k) l f ≤ 1) → Named (mark l f)
  marks_named nil s c g h = tt
  marks_named (node r as' k f) s c g h = (
    here,
    marks_named k s.3 (λ t. omega (arith, c t)) (λ t q. g t (omega arith) ∙ find_below r as' k f t (c t) q) (λ j. omega (arith, h j, both j)),
    marks_named f s.4 (λ t. omega (arith, c t)) (λ t q. g t (omega arith) ∙ find_behind r as' k f t (c t) q) (λ j. omega (arith, h j, both j)),
  )
    where
      both : (j : ℕ × ℕ) → count_before j (names_in (node r as' k f)) ≡ count_before j (names_on r.id as') + (count_before j (names_in k) + count_before j (names_in f))
      both j = omega (arith, count_before-++ j (names_on r.id as') (names_in k ++ names_in f), count_before-++ j (names_in k) (names_in f))

      here : (n : ℕ)
          → count_names n (unmark_labels (mark_labels l as')) + (count_names n (root_labels (joined_nodes InsertAttributes (changes_on r.id l))) + names_by_labels n (mark_labels l as')) ≤ 1
      here n =
          rw (unmark_mark_labels l as')
          (omega (
            arith,
            h (r.id, n),
            both (r.id, n),
            count_names_on r.id n as',
            attributes_given d r.id n r.id (record { kind = r.kind; element = r.id }) (g r.id (omega (arith, one_refl r.id)) ∙ find_itself r as' k f) refl
                (changes_on r.id l) (on_targets r.id l),
            labels_given r.id n as' s.2.0 (λ t. omega (arith, c t)) (λ t q. g t (omega arith) ∙ find_attribute r as' k f t (c t) q),
          ))

-- an empty replacement gives no name
unless_empty_roots : (o : Option Forest) → root_labels (or_else (unless_empty o) nil) ≡ root_labels (or_else o nil)
unless_empty_roots o = ap root_labels (empty_or_else o)

by_nothing_labels : (n : ℕ) (l : List MarkedLabel) → names_by_labels n (labels_by_nothing l) ≡ names_by_labels n l
by_nothing_labels n [] = refl
by_nothing_labels n (m ∷ l) = rw (unless_empty_roots m.changes.replaced, by_nothing_labels n l)

by_nothing_unmark : (l : List MarkedLabel) → unmark_labels (labels_by_nothing l) ≡ unmark_labels l
by_nothing_unmark [] = refl
by_nothing_unmark (m ∷ l) = ap (λ x. m.label ∷ x) (by_nothing_unmark l)

by_nothing_named : (m : MarkedForest) → Named m → Named (empty_replacements_deleted m)
by_nothing_named no_marks h = tt
by_nothing_named (marked r a as' k f) h = ((λ n. rw (by_nothing_unmark as', by_nothing_labels n as') (h.0 n)), by_nothing_named k h.1, by_nothing_named f h.2)

-- a sound document has no name twice on an element
sound_names : (k : ℕ × ℕ) (f : Forest) → Sound f → count_before k (names_in f) ≤ count k.0 f
sound_names k nil s = omega arith
sound_names k (node r as' l f) s =
    omega (
      arith,
      count_before-++ k (names_on r.id as') (names_in l ++ names_in f),
      count_before-++ k (names_in l) (names_in f),
      own (eqb r.id k.0) refl,
      sound_names k l s.3,
      sound_names k f s.4,
    )
  where
    other : (ls : List Label) → eqb r.id k.0 ≡ false → count_before k (names_on r.id ls) ≡ 0
    other [] e = refl
    other (x ∷ ls) e = rw (e, other ls e)

    own : (b : Bool) → eqb r.id k.0 ≡ b → count_before k (names_on r.id as') ≤ one (eqb r.id k.0)
    own true e =
        let i = eqb-true r.id k.0 e in
        let u : count_before k (names_on r.id as') ≡ count_names k.1 as' = rw i (count_names_on k.0 k.1 as') in
        rw e (omega (arith, s.2.2 k.1))
    own false e = omega (arith, other as' e)

-- what is left of a list that passes gives no name twice
pub left_named : (d : Forest) (l : List Change) → WellFormed d → first_clash d l [] (names_in d) 0 l ≡ None → Named (without_overridden (mark l d))
left_named d l w h =
    rw (dropped_same d l w.distinct) at
    (by_nothing_named (mark (not_overridden d l) d) (marks_named d (not_overridden d l) d w.sound w.distinct (λ t q. refl)
    (λ k. omega (
      arith,
      spread_all (gives d k) (not_overridden d l) d w.distinct,
      names_passed d l [] (names_in d) 0 l h (λ j. omega (arith, sound_names j d w.sound, w.distinct j.0)) k,
    ))))

-- gathering moves no attribute
pub gathered_named : (m : MarkedForest) (g : Forest) → Named m → Named (gathered_by_gap m g)
gathered_named no_marks g h = tt
gathered_named (marked r a as' k f) g h = (h.0, gathered_named k a.last h.1, gathered_named f g h.2)
