-- What the tests make sure of beside each node: trees and targets as the codes want them.
use Rattle.std.proofs.Common.{◌≡◌, ℕ, Bool, true, false, cond, not, ◌&&◌, eqb, ltb, List, [], ◌∷◌, ◌++◌, Some, None, Option, sym, refl, true≢false}
use Rattle.std.proofs.lemmas.Bool.{and_parts, eqb-true}
use Rattle.records.specs.Formed.{fields_suit_code}
use Rattle.records.specs.declared.nodes.Kind.{Kind}
use Rattle.records.specs.declared.nodes.Kind.TheVariants.{Attribute, Element, Text}
use Rattle.records.specs.declared.operations.Code.{Code}
use Rattle.records.specs.declared.operations.Code.TheVariants.{Rename, InsertBefore, InsertAfter, InsertFirst, InsertInto, InsertLast, InsertAttributes, ReplaceNode, ReplaceValue, ReplaceContent}
use Rattle.document.specs.Tree.{Forest, nil, node, Formed, Sound, Label, Holds}
use Rattle.document.specs.Table.{is_attribute}
use Rattle.changes.specs.Changes.{Change, ◌⊕◌, changes_on, joined_nodes, same_code, first_of, nodes_given, value_given, name_given}
use Rattle.changes.specs.Marks.{NodeChanges, MarkedLabel, MarkedForest, no_marks, marked, node_changes}
use Rattle.changes.specs.Tests.{one_text_or_none, RootHolds, SoundRoots, no_attribute_roots, attribute_roots, FormedChange, nodes_suit, kind_suits, is_element, is_text, is_empty}
use Rattle.changes.proofs.Dropping.{same_code_true}

-- a row of attributes
abbrev pub AttributeRow : Forest → Type 0
AttributeRow nil = Unit {0}
AttributeRow (node r as' k f) = (r.kind ≡ Attribute) × Formed r × (as' ≡ []) × (k ≡ nil) × AttributeRow f

-- what may be inserted beside a node, into it, among its attributes and in its stead, by its kind
abbrev pub Beside : Kind → Forest → Type 0
Beside Element f = Sound f
Beside Attribute f = f ≡ nil
Beside Text f = Sound f

abbrev pub Inside : Kind → Forest → Type 0
Inside Element f = Sound f
Inside Attribute f = f ≡ nil
Inside Text f = f ≡ nil

abbrev pub Among : Kind → Forest → Type 0
Among Element f = AttributeRow f
Among Attribute f = f ≡ nil
Among Text f = f ≡ nil

abbrev pub Instead : Kind → Forest → Type 0
Instead Element f = Sound f
Instead Attribute f = AttributeRow f
Instead Text f = Sound f

abbrev pub Given : {A : Type 0} → (A → Type 0) → Option A → Type 0
Given P None = Unit {0}
Given P (Some x) = P x

abbrev pub Content : Kind → Option Forest → Type 0
Content Element o = Given (λ f. Sound f × (one_text_or_none f ≡ true)) o
Content Attribute o = o ≡ None
Content Text o = o ≡ None

abbrev pub Revalued : Kind → Option ℕ → Type 0
Revalued Element o = o ≡ None
Revalued Attribute o = Unit {0}
Revalued Text o = Unit {0}

abbrev pub Renamed : Kind → Option ℕ → Type 0
Renamed Element o = Given (λ n. ltb 0 n ≡ true) o
Renamed Attribute o = Given (λ n. ltb 0 n ≡ true) o
Renamed Text o = o ≡ None

pub record Fitting (κ : Kind) (a : NodeChanges) : Type 0 where
  pub before : Beside κ a.before
  pub after : Beside κ a.after
  pub first : Inside κ a.first
  pub into : Inside κ a.into
  pub last : Inside κ a.last
  pub attributes : Among κ a.attributes
  pub replaced : Given (Instead κ) a.replaced
  pub revalued : Revalued κ a.revalued
  pub content : Content κ a.content
  pub renamed : Renamed κ a.renamed

abbrev pub FitLabels : List MarkedLabel → Type 0
FitLabels [] = Unit {0}
FitLabels (m ∷ l) = Fitting Attribute m.changes × FitLabels l

abbrev pub Fit : MarkedForest → Type 0
Fit no_marks = Unit {0}
Fit (marked r a as' k f) = Fitting r.kind a × FitLabels as' × Fit k × Fit f

-- rows of trees, joined
pub sound-⊕ : (f g : Forest) → Sound f → Sound g → Sound (f ⊕ g)
sound-⊕ nil g p q = q
sound-⊕ (node r as' k f) g p q = (p.0, p.1, p.2, p.3, sound-⊕ f g p.4 q)

pub attribute_row-⊕ : (f g : Forest) → AttributeRow f → AttributeRow g → AttributeRow (f ⊕ g)
attribute_row-⊕ nil g p q = q
attribute_row-⊕ (node r as' k f) g p q = (p.0, p.1, p.2, p.3, attribute_row-⊕ f g p.4 q)

pub nil-⊕ : (f g : Forest) → f ≡ nil → g ≡ nil → f ⊕ g ≡ nil
nil-⊕ f g p q = rw (p, q)

pub beside_nil : (κ : Kind) → Beside κ nil
beside_nil Element = tt
beside_nil Attribute = refl
beside_nil Text = tt

pub beside-⊕ : (κ : Kind) (f g : Forest) → Beside κ f → Beside κ g → Beside κ (f ⊕ g)
beside-⊕ Element f g p q = sound-⊕ f g p q
beside-⊕ Attribute f g p q = nil-⊕ f g p q
beside-⊕ Text f g p q = sound-⊕ f g p q

pub inside_nil : (κ : Kind) → Inside κ nil
inside_nil Element = tt
inside_nil Attribute = refl
inside_nil Text = refl

pub inside-⊕ : (κ : Kind) (f g : Forest) → Inside κ f → Inside κ g → Inside κ (f ⊕ g)
inside-⊕ Element f g p q = sound-⊕ f g p q
inside-⊕ Attribute f g p q = nil-⊕ f g p q
inside-⊕ Text f g p q = nil-⊕ f g p q

pub among_nil : (κ : Kind) → Among κ nil
among_nil Element = tt
among_nil Attribute = refl
among_nil Text = refl

among-⊕ : (κ : Kind) (f g : Forest) → Among κ f → Among κ g → Among κ (f ⊕ g)
among-⊕ Element f g p q = attribute_row-⊕ f g p q
among-⊕ Attribute f g p q = nil-⊕ f g p q
among-⊕ Text f g p q = nil-⊕ f g p q

pub content_none : (κ : Kind) → Content κ None
content_none Element = tt
content_none Attribute = refl
content_none Text = refl

pub revalued_none : (κ : Kind) → Revalued κ None
revalued_none Element = refl
revalued_none Attribute = tt
revalued_none Text = tt

pub renamed_none : (κ : Kind) → Renamed κ None
renamed_none Element = tt
renamed_none Attribute = tt
renamed_none Text = refl

-- roots without attributes are sound, and roots that are all attributes are a row of them
holds_root : (κ : Kind) (as' : List Label) (k : Forest) → not (is_attribute κ) ≡ true → RootHolds κ as' k → Holds κ as' k
holds_root Element as' k e h = tt
holds_root Attribute as' k e h = absurd (true≢false (sym e))
holds_root Text as' k e h = h

pub sound_roots : (f : Forest) → SoundRoots f → no_attribute_roots f ≡ true → Sound f
sound_roots nil s e = tt
sound_roots (node r as' k f) s e =
    let u = and_parts (not (is_attribute r.kind)) (no_attribute_roots f) e in
    (s.0, holds_root r.kind as' k u.0 s.1, s.2, s.3, sound_roots f s.4 u.1)

attribute_holds : (κ : Kind) (as' : List Label) (k : Forest) → is_attribute κ ≡ true → RootHolds κ as' k → (κ ≡ Attribute) × (as' ≡ []) × (k ≡ nil)
attribute_holds Element as' k e h = absurd (true≢false (sym e))
attribute_holds Attribute as' k e h = (refl, h.0, h.1)
attribute_holds Text as' k e h = absurd (true≢false (sym e))

pub attribute_row_roots : (f : Forest) → SoundRoots f → attribute_roots f ≡ true → AttributeRow f
attribute_row_roots nil s e = tt
attribute_row_roots (node r as' k f) s e =
    let u = and_parts (is_attribute r.kind) (attribute_roots f) e in
    let v = attribute_holds r.kind as' k u.0 s.1 in
    (v.0, s.0, v.1, v.2, attribute_row_roots f s.4 u.1)

-- ONE CHANGE that passes the tests, on a target of a kind
pub record ChangeFits (κ : Kind) (o : Change) : Type 0 where
  pub formed : FormedChange o
  pub sound : SoundRoots o.nodes
  pub nodes_fit : nodes_suit o.code o.nodes ≡ true
  pub kind_fits : kind_suits o.code κ o.nodes ≡ true

abbrev pub Each : (Change → Type 0) → List Change → Type 0
Each P [] = Unit {0}
Each P (o ∷ l) = P o × Each P l

pub each_map : {P Q : Change → Type 0} → ((o : Change) → P o → Q o) → (l : List Change) → Each P l → Each Q l
each_map q [] h = tt
each_map q (o ∷ l) h = (q o h.0, each_map q l h.1)

pub each_both : (P Q : Change → Type 0) (l : List Change) → Each P l → Each Q l → Each (λ o. P o × Q o) l
each_both P Q [] h k = tt
each_both P Q (o ∷ l) h k = ((h.0, k.0), each_both P Q l h.1 k.1)

pub each-++ : (P : Change → Type 0) (l k : List Change) → Each P l → Each P k → Each P (l ++ k)
each-++ P [] k h g = g
each-++ P (o ∷ l) k h g = (h.0, each-++ P l k h.1 g)

pub each_on : (P : Change → Type 0) (t : ℕ) (l : List Change) → Each P l → Each (λ o. P o × (o.target ≡ t)) (changes_on t l)
each_on P t [] h = tt
each_on P t (o ∷ l) h = go (eqb o.target t) refl (each_on P t l h.1)
  where
    go : (b : Bool) → eqb o.target t ≡ b → Each (λ o. P o × (o.target ≡ t)) (changes_on t l) → Each (λ o. P o × (o.target ≡ t)) (changes_on t (o ∷ l))
    go true e k = rw e ((h.0, eqb-true o.target t e), k)
    go false e k = rw e k

-- the joined nodes and the first change of a code have what all changes of the code have
pub joined_fits : (Q : Change → Type 0) (P : Forest → Type 0) → P nil → ((f g : Forest) → P f → P g → P (f ⊕ g)) → (c : Code)
    → ((o : Change) → Q o → o.code ≡ c → P o.nodes) → (l : List Change) → Each Q l → P (joined_nodes c l)
joined_fits Q P z j c q [] h = z
joined_fits Q P z j c q (o ∷ l) h = go (same_code o.code c) refl (joined_fits Q P z j c q l h.1)
  where
    go : (b : Bool) → same_code o.code c ≡ b → P (joined_nodes c l) → P (joined_nodes c (o ∷ l))
    go true e k = rw e (j o.nodes (joined_nodes c l) (q o h.0 (same_code_true o.code c e)) k)
    go false e k = rw e k

pub first_fits : (Q P : Change → Type 0) (c : Code) → ((o : Change) → Q o → o.code ≡ c → P o) → (l : List Change) → Each Q l → Given P (first_of c l)
first_fits Q P c q [] h = tt
first_fits Q P c q (o ∷ l) h = go (same_code o.code c) refl (first_fits Q P c q l h.1)
  where
    go : (b : Bool) → same_code o.code c ≡ b → Given P (first_of c l) → Given P (first_of c (o ∷ l))
    go true e k = rw e (q o h.0 (same_code_true o.code c e))
    go false e k = rw e k

nodes_fit_given : (P : Forest → Type 0) (o : Option Change) → Given (λ x. P x.nodes) o → Given P (nodes_given o)
nodes_fit_given P None h = tt
nodes_fit_given P (Some x) h = h

pub none_given : {A : Type 0} (o : Option A) → Given (λ x. ⊥) o → o ≡ None
none_given None h = refl
none_given (Some x) h = absurd h

-- by the kind of the target
beside_if : (μ : Kind) (f : Forest) → not (is_attribute μ) ≡ true → Sound f → Beside μ f
beside_if Element f e s = s
beside_if Attribute f e s = absurd (true≢false (sym e))
beside_if Text f e s = s

inside_if : (μ : Kind) (f : Forest) → is_element μ ≡ true → Sound f → Inside μ f
inside_if Element f e s = s
inside_if Attribute f e s = absurd (true≢false (sym e))
inside_if Text f e s = absurd (true≢false (sym e))

among_if : (μ : Kind) (f : Forest) → is_element μ ≡ true → AttributeRow f → Among μ f
among_if Element f e s = s
among_if Attribute f e s = absurd (true≢false (sym e))
among_if Text f e s = absurd (true≢false (sym e))

instead_if : (μ : Kind) (f : Forest) → SoundRoots f → cond (is_attribute μ) (attribute_roots f) (no_attribute_roots f) ≡ true → Instead μ f
instead_if Element f s e = sound_roots f s e
instead_if Attribute f s e = attribute_row_roots f s e
instead_if Text f s e = sound_roots f s e

text_sound : (f : Forest) → SoundRoots f → one_text_or_none f ≡ true → Sound f
text_sound nil s e = tt
text_sound (node r as' k nil) s e = (s.0, holds r.kind e s.1, s.2, s.3, tt)
  where
    holds : (μ : Kind) → is_text μ ≡ true → RootHolds μ as' k → Holds μ as' k
    holds Element q w = tt
    holds Attribute q w = absurd (true≢false (sym q))
    holds Text q w = w
text_sound (node r as' k (node s' bs k' f)) s e = absurd (true≢false (sym e))

content_if : (μ : Kind) (o : Option Change) → Given (λ (x : Change). (is_element μ ≡ true) × Sound x.nodes × (one_text_or_none x.nodes ≡ true)) o
    → Content μ (nodes_given o)
content_if Element None q = tt
content_if Element (Some x) q = (q.1, q.2)
content_if Attribute None q = refl
content_if Attribute (Some x) q = absurd (true≢false (sym q.0))
content_if Text None q = refl
content_if Text (Some x) q = absurd (true≢false (sym q.0))

revalued_if : (μ : Kind) (o : Option Change) → Given (λ (x : Change). not (is_element μ) ≡ true) o → Revalued μ (value_given o)
revalued_if Element None q = refl
revalued_if Element (Some x) q = absurd (true≢false (sym q))
revalued_if Attribute o q = tt
revalued_if Text o q = tt

renamed_if : (μ : Kind) (o : Option Change) → Given (λ (x : Change). (not (is_text μ) ≡ true) × (ltb 0 x.name ≡ true)) o → Renamed μ (name_given o)
renamed_if Element None q = tt
renamed_if Element (Some x) q = q.1
renamed_if Attribute None q = tt
renamed_if Attribute (Some x) q = q.1
renamed_if Text None q = refl
renamed_if Text (Some x) q = absurd (true≢false (sym q.0))

module _ (κ : Kind) (l : List Change) (h : Each (ChangeFits κ) l) where
  -- what the tests say of a change with a known code
  told : (o : Change) (c : Code) → ChangeFits κ o → o.code ≡ c
      → (nodes_suit c o.nodes ≡ true) × (kind_suits c κ o.nodes ≡ true) × (fields_suit_code c o.name o.value ≡ true)
  told o c f e =
      (rw e at f.nodes_fit, rw e at f.kind_fits, rw e at (and_parts (ltb 0 o.target) (fields_suit_code o.code o.name o.value) f.formed).1)

  children : (o : Change) → ChangeFits κ o → (not (is_empty o.nodes) && no_attribute_roots o.nodes) ≡ true → Sound o.nodes
  children o f e = sound_roots o.nodes f.sound (and_parts (not (is_empty o.nodes)) (no_attribute_roots o.nodes) e).1

  beside_code : (c : Code) → ((o : Change) → ChangeFits κ o → o.code ≡ c → (not (is_attribute κ) ≡ true)
      × ((not (is_empty o.nodes) && no_attribute_roots o.nodes) ≡ true))
      → Beside κ (joined_nodes c l)
  beside_code c q = joined_fits (ChangeFits κ) (Beside κ) (beside_nil κ) (beside-⊕ κ) c (λ o f e. let u = q o f e in beside_if κ o.nodes u.0 (children o f u.1)) l h

  inside_code : (c : Code) → ((o : Change) → ChangeFits κ o → o.code ≡ c → (is_element κ ≡ true) × ((not (is_empty o.nodes) && no_attribute_roots o.nodes) ≡ true))
      → Inside κ (joined_nodes c l)
  inside_code c q = joined_fits (ChangeFits κ) (Inside κ) (inside_nil κ) (inside-⊕ κ) c (λ o f e. let u = q o f e in inside_if κ o.nodes u.0 (children o f u.1)) l h

  pub fitting_node : Fitting κ (node_changes l)
  fitting_node = record {
    before = beside_code InsertBefore (λ o f e. let u = told o InsertBefore f e in (u.1, u.0));
    after = beside_code InsertAfter (λ o f e. let u = told o InsertAfter f e in (u.1, u.0));
    first = inside_code InsertFirst (λ o f e. let u = told o InsertFirst f e in (u.1, u.0));
    into = inside_code InsertInto (λ o f e. let u = told o InsertInto f e in (u.1, u.0));
    last = inside_code InsertLast (λ o f e. let u = told o InsertLast f e in (u.1, u.0));
    attributes = joined_fits (ChangeFits κ) (Among κ) (among_nil κ) (among-⊕ κ) InsertAttributes
        (λ o f e. let u = told o InsertAttributes f e in
        among_if κ o.nodes u.1 (attribute_row_roots o.nodes f.sound (and_parts (not (is_empty o.nodes)) (attribute_roots o.nodes) u.0).1)) l h;
    replaced = nodes_fit_given (Instead κ) (first_of ReplaceNode l)
        (first_fits (ChangeFits κ) (λ x. Instead κ x.nodes) ReplaceNode (λ o f e. instead_if κ o.nodes f.sound (told o ReplaceNode f e).1) l h);
    revalued = revalued_if κ (first_of ReplaceValue l) (first_fits (ChangeFits κ) (λ x. not (is_element κ) ≡ true) ReplaceValue (λ o f e. (told o ReplaceValue f e).1) l h);
    content =
        content_if κ (first_of ReplaceContent l) (first_fits (ChangeFits κ) (λ x. (is_element κ ≡ true) × Sound x.nodes × (one_text_or_none x.nodes
        ≡ true)) ReplaceContent
        (λ o f e. let u = told o ReplaceContent f e in (u.1, text_sound o.nodes f.sound u.0, u.0)) l h);
    renamed = renamed_if κ (first_of Rename l) (first_fits (ChangeFits κ) (λ x. (not (is_text κ) ≡ true) × (ltb 0 x.name ≡ true)) Rename
        (λ o f e. let u = told o Rename f e in (u.1, (and_parts (ltb 0 o.name) (eqb o.value 0) u.2).0)) l h);
  }
