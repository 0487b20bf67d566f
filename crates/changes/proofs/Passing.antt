-- What a list that suits a document makes sure of, beside each node.
use Rattle.std.proofs.Common.{◌≡◌, ℕ, ◌+◌, ◌≤◌, Bool, true, false, not, ◌||◌, eqb, List, [], ◌∷◌, Some, None, Option, sym, refl, ap, ◌∙◌, true≢false, arith}
use Rattle.std.proofs.lemmas.Bool.{and_parts, eqb-true, ltb-true, eq-eqb}
use Rattle.records.specs.declared.operations.Code.{Code}
use Rattle.records.specs.declared.operations.Code.TheVariants.{InsertBefore, InsertAfter, Delete, ReplaceNode}
use Rattle.document.specs.Tree.{Forest, node, Sound, Label, Attributes, count, count_labels, nil, WellFormed}
use Rattle.document.proofs.Counting.{one_refl}
use Rattle.document.proofs.Tested.{some_none}
use Rattle.changes.specs.Changes.{Change, changes_on, joined_nodes, first_of}
use Rattle.changes.specs.Marks.{node_changes, mark, mark_labels, NodeChanges}
use Rattle.changes.specs.Overriding.{stands_in}
use Rattle.faults.specs.declared.ListFault.{ListFault}
use Rattle.faults.specs.declared.ListFault.TheVariants.{NodesUnsuited, TargetAbsent, TargetUnsuited, SecondOfCode, NameTaken, NoRoom}
use Rattle.changes.specs.Tests.{refused, first_refused, nodes_unsuited, target_absent, target_unsuited, second_of_code, first_clash, names_in, room_lacks, change_test, FormedChange, SoundRoots, nodes_suit, target_suits, SoundChanges, Suits, Found, find, kind_found, kind_suits, spares_root, root_is, find_label}
use Rattle.changes.proofs.Inverting.{Tidy}
use Rattle.changes.proofs.Fitting.{Each, each_map, each_both, ChangeFits, Fit, Fitting, fitting_node, each_on, FitLabels, joined_fits, nil-⊕, none_given, first_fits}
use Rattle.changes.proofs.Keeping.{reduced_fit}
use Rattle.changes.proofs.Leading.{TidyChanges, Ready, unmark_mark, RootSpared}
use Rattle.changes.proofs.Finding.{find_label_itself, find_label_behind, find_itself, find_attribute, find_below, find_behind}

pub refused_none : (f : ℕ → ListFault) (o : Option ℕ) (later : Option ListFault) → refused f o later ≡ None → (o ≡ None) × (later ≡ None)
refused_none f None later h = (refl, h)
refused_none f (Some p) later h = absurd (some_none (f p) h)

-- the tests on changes, one by one
pub record Passed (room : ℕ) (d : Forest) (l : List Change) : Type 0 where
  pub nodes : first_refused nodes_unsuited [] 0 l ≡ None
  pub present : first_refused (target_absent d) [] 0 l ≡ None
  pub targets : first_refused (target_unsuited d) [] 0 l ≡ None
  pub once : first_refused second_of_code [] 0 l ≡ None
  pub names : first_clash d l [] (names_in d) 0 l ≡ None
  pub room_fits : room_lacks room d l ≡ None

pub passed_all : (room : ℕ) (d : Forest) (l : List Change) → change_test room d l ≡ None → Passed room d l
unfolding change_test
passed_all room d l h =
    let a = refused_none NodesUnsuited (first_refused nodes_unsuited [] 0 l) _ h in
    let b = refused_none TargetAbsent (first_refused (target_absent d) [] 0 l) _ a.1 in
    let c = refused_none TargetUnsuited (first_refused (target_unsuited d) [] 0 l) _ b.1 in
    let e = refused_none SecondOfCode (first_refused second_of_code [] 0 l) _ c.1 in
    let f = refused_none NameTaken (first_clash d l [] (names_in d) 0 l) _ e.1 in
    let g = refused_none (λ p. NoRoom) (room_lacks room d l) None f.1 in
    record { nodes = a.0; present = b.0; targets = c.0; once = e.0; names = f.0; room_fits = g.0 }

pub all_passed : (room : ℕ) (d : Forest) (l : List Change) → Passed room d l → change_test room d l ≡ None
unfolding change_test
all_passed room d l p = rw (p.nodes, p.present, p.targets, p.once, p.names, p.room_fits)

-- a test that looks at each change alone
pub each_passed : (q : Change → Bool) (e : List Change) (n : ℕ) (l : List Change) → first_refused (λ e o. not (q o)) e n l ≡ None → Each (λ o. q o ≡ true) l
each_passed q e n [] h = tt
each_passed q e n (o ∷ l) h = go (q o) refl (each_passed q (o ∷ e) (n + 1) l)
  where
    go : (b : Bool) → q o ≡ b → (first_refused (λ e o. not (q o)) (o ∷ e) (n + 1) l ≡ None → Each (λ o. q o ≡ true) l) → Each (λ o. q o ≡ true) (o ∷ l)
    go true w k = (w, k (rw w at h))
    go false w k = absurd (some_none n (rw w at h))

pub passed_each : (q : Change → Bool) (e : List Change) (n : ℕ) (l : List Change) → Each (λ o. q o ≡ true) l → first_refused (λ e o. not (q o)) e n l ≡ None
passed_each q e n [] h = refl
passed_each q e n (o ∷ l) h = rw h.0 (passed_each q (o ∷ e) (n + 1) l h.1)

-- a change that passes the tests on its nodes and its target
pub record ChangePasses (d : Forest) (o : Change) : Type 0 where
  pub formed : FormedChange o
  pub sound : SoundRoots o.nodes
  pub nodes_fit : nodes_suit o.code o.nodes ≡ true
  pub target_fits : target_suits d o ≡ true

sound_each : (l : List Change) → SoundChanges l → Each (λ o. FormedChange o × SoundRoots o.nodes) l
sound_each [] h = tt
sound_each (o ∷ l) h = ((h.0, h.1), sound_each l h.2)

pub each_sound : (l : List Change) → Each (λ o. FormedChange o × SoundRoots o.nodes) l → SoundChanges l
each_sound [] h = tt
each_sound (o ∷ l) h = (h.0.0, h.0.1, each_sound l h.1)

pub all_pass : (room : ℕ) (d : Forest) (l : List Change) → Suits room d l → Each (ChangePasses d) l
all_pass room d l s =
    let p = passed_all room d l s.passes in
    each_map (λ o h. record { formed = h.0.0; sound = h.0.1; nodes_fit = h.1.0; target_fits = h.1.1 }) l
    (each_both (λ o. FormedChange o × SoundRoots o.nodes) (λ o. (nodes_suit o.code o.nodes ≡ true) × (target_suits d o ≡ true)) l (sound_each l s.sound)
    (each_both (λ o. nodes_suit o.code o.nodes ≡ true) (λ o. target_suits d o ≡ true) l
    (each_passed (λ o. nodes_suit o.code o.nodes) [] 0 l p.nodes) (each_passed (λ o. target_suits d o) [] 0 l p.targets)))

-- on a node that is found
found_fits : (d : Forest) (o : Change) (t : ℕ) (x : Found) → find t d ≡ Some x → ChangePasses d o → o.target ≡ t → ChangeFits x.kind o
found_fits d o t x e p q =
    let u = and_parts (kind_found (find o.target d) (λ κ. kind_suits o.code κ o.nodes)) (spares_root o.code || not (root_is o.target d)) p.target_fits in
    record { formed = p.formed; sound = p.sound; nodes_fit = p.nodes_fit; kind_fits = rw (q, e) at u.0 }

found_fitting : (d : Forest) (l : List Change) (t : ℕ) (x : Found) → Each (ChangePasses d) l → find t d ≡ Some x → Fitting x.kind (node_changes (changes_on t l))
found_fitting d l t x h e =
    fitting_node x.kind (changes_on t l) (each_map (λ o w. found_fits d o t x e w.0 w.1) (changes_on t l) (each_on (ChangePasses d) t l h))

module _ (d : Forest) (l : List Change) (h : Each (ChangePasses d) l) where
  fit_labels : (p : ℕ) (rs : List Label) → Attributes rs → ((t : ℕ) → count_labels t rs ≤ 1) → ((t : ℕ) → 1 ≤ count_labels t rs → find t d ≡ find_label p t rs)
      → FitLabels (mark_labels l rs)
  fit_labels p [] a c g = tt
  fit_labels p (r ∷ rs) a c g = (
    rw a.0 at (found_fitting d l r.id (record { kind = r.kind; element = p }) h (g r.id (omega (arith, one_refl r.id)) ∙ find_label_itself p r rs)),
    fit_labels p rs a.2 (λ t. omega (arith, c t)) (λ t q. g t (omega arith) ∙ find_label_behind p t r rs (c t) q),
  )

  pub fit_marks : (f : Forest) → Sound f → ((t : ℕ) → count t f ≤ 1) → ((t : ℕ) → 1 ≤ count t f → find t d ≡ find t f) → Fit (mark l f)
  fit_marks nil s c g = tt
  fit_marks (node r as' k f) s c g = (
    found_fitting d l r.id (record { kind = r.kind; element = r.id }) h (g r.id (omega (arith, one_refl r.id)) ∙ find_itself r as' k f),
    fit_labels r.id as' s.2.0 (λ t. omega (arith, c t)) (λ t q. g t (omega arith) ∙ find_attribute r as' k f t (c t) q),
    fit_marks k s.3 (λ t. omega (arith, c t)) (λ t q. g t (omega arith) ∙ find_below r as' k f t (c t) q),
    fit_marks f s.4 (λ t. omega (arith, c t)) (λ t q. g t (omega arith) ∙ find_behind r as' k f t (c t) q),
  )

-- a target that is absent has no changes
pub absent_unchanged : (d : Forest) (l : List Change) → Each (λ o. stands_in o.target d ≡ true) l → (t : ℕ) → count t d ≡ 0 → changes_on t l ≡ []
absent_unchanged d [] h t z = refl
absent_unchanged d (o ∷ l) h t z = go (eqb o.target t) refl (absent_unchanged d l h.1 t z)
  where
    go : (b : Bool) → eqb o.target t ≡ b → changes_on t l ≡ [] → changes_on t (o ∷ l) ≡ []
    go false q r = rw q r
    go true q r =
        let e = eqb-true o.target t q in
        absurd (omega (arith, ltb-true 0 (count o.target d) h.0, ap (λ u. count u d) e))

-- the root stays, with nothing beside it
abbrev pub RootStays : NodeChanges → Type 0
RootStays a = (a.before ≡ nil) × (a.after ≡ nil) × (a.deleted ≡ false) × (a.replaced ≡ None)

root_spares : (r : Label) (as' : List Label) (k f : Forest) (o : Change) (c : Code) → ChangePasses (node r as' k f) o × (o.target ≡ r.id) → o.code ≡ c → spares_root c ≡ true
root_spares r as' k f o c p e = go (spares_root c) refl
  where
    d : Forest
    d = node r as' k f

    u : (spares_root o.code || not (root_is o.target d)) ≡ true
    u = (and_parts (kind_found (find o.target d) (λ κ. kind_suits o.code κ o.nodes)) (spares_root o.code || not (root_is o.target d)) p.0.target_fits).1

    go : (b : Bool) → spares_root c ≡ b → spares_root c ≡ true
    go true q = q
    go false q = absurd (true≢false (sym (rw (e, q, p.1, eq-eqb r.id r.id refl) at u)))

pub root_stays : (r : Label) (as' : List Label) (k f : Forest) (l : List Change) → Each (ChangePasses (node r as' k f)) l
    → (joined_nodes InsertBefore (changes_on r.id l) ≡ nil) × (joined_nodes InsertAfter (changes_on r.id l) ≡ nil)
    × (first_of Delete (changes_on r.id l) ≡ None) × (first_of ReplaceNode (changes_on r.id l) ≡ None)
root_stays r as' k f l h = (
  joined_fits Q (λ g. g ≡ nil) refl nil-⊕ InsertBefore (λ o p e. absurd (true≢false (sym (root_spares r as' k f o InsertBefore p e)))) on' all,
  joined_fits Q (λ g. g ≡ nil) refl nil-⊕ InsertAfter (λ o p e. absurd (true≢false (sym (root_spares r as' k f o InsertAfter p e)))) on' all,
  none_given (first_of Delete on') (first_fits Q (λ o. ⊥) Delete (λ o p e. true≢false (sym (root_spares r as' k f o Delete p e))) on' all),
  none_given (first_of ReplaceNode on') (first_fits Q (λ o. ⊥) ReplaceNode (λ o p e. true≢false (sym (root_spares r as' k f o ReplaceNode p e))) on' all),
)
  where
    Q : Change → Type 0
    Q o = ChangePasses (node r as' k f) o × (o.target ≡ r.id)

    on' : List Change
    on' = changes_on r.id l

    all : Each Q on'
    all = each_on (ChangePasses (node r as' k f)) r.id l h

-- attributes ascend
pub tidy_sound : (f : Forest) → Sound f → Tidy f
tidy_sound nil s = tt
tidy_sound (node r as' k f) s = (s.2.1, tidy_sound k s.3, tidy_sound f s.4)

tidy_roots : (f : Forest) → SoundRoots f → Tidy f
tidy_roots nil s = tt
tidy_roots (node r as' k f) s = (s.2.1, tidy_sound k s.3, tidy_roots f s.4)

tidy_changes : (l : List Change) → SoundChanges l → TidyChanges l
tidy_changes [] h = tt
tidy_changes (o ∷ l) h = (tidy_roots o.nodes h.1, tidy_changes l h.2)

pub suits_ready : (room : ℕ) (d : Forest) (l : List Change) → WellFormed d → Suits room d l → Ready d l
suits_ready room d l w s = record {
  distinct = s.distinct;
  present = absent_unchanged d l (each_passed (λ o. stands_in o.target d) [] 0 l (passed_all room d l s.passes).present);
  tidy = tidy_sound d w.sound;
  neat = tidy_changes l s.sound;
  spared = spared d (all_pass room d l s);
  fits = reduced_fit (mark l d) (rw (unmark_mark l d) w.sound) (fit_marks d l (all_pass room d l s) d w.sound w.distinct (λ t q. refl));
}
  where
    spared : (e : Forest) → Each (ChangePasses e) l → RootSpared l e
    spared nil h = tt
    spared (node r as' k f) h = let u = root_stays r as' k f l h in (u.0, u.2, u.3)
