-- When a change list suits a document. Tests run one after the other, each over the whole list, and tell the first change at fault.
use Rattle.std.specs.Prelude.{◌≡◌, ℕ, ◌+◌, ◌≤◌, Bool, true, false, cond, not, ◌&&◌, ◌||◌, List, [], ◌∷◌, ◌++◌, Some, None, Option, ◌==◌, nat_lt}
use Rattle.records.specs.Formed.{fields_suit_code}
use Rattle.records.specs.declared.nodes.Kind.{Kind}
use Rattle.records.specs.declared.nodes.Kind.TheVariants.{Element, Attribute, Text}
use Rattle.records.specs.declared.operations.Code.{Code}
use Rattle.records.specs.declared.operations.Code.TheVariants.{InsertBefore, InsertAfter, InsertFirst, InsertInto, InsertLast, InsertAttributes, Delete, ReplaceNode, ReplaceValue, ReplaceContent, Rename}
use Rattle.faults.specs.declared.ListFault.{ListFault}
use Rattle.faults.specs.declared.ListFault.TheVariants.{NodesUnsuited, TargetAbsent, TargetUnsuited, SecondOfCode, NameTaken, NoRoom}
use Rattle.document.specs.Tree.{Label, Forest, nil, node, count, size, count_names, Above, Formed, Attributes, Sound}
use Rattle.document.specs.Table.{seen, is_attribute}
use Rattle.changes.specs.Changes.{Change, root_labels, changes_on, first_of, is_some, count_nodes, size_nodes}
use Rattle.changes.specs.Reduced.{reduced}
use Rattle.changes.specs.Overriding.{stands_in, overridden}

-- the place of the first change that a test refuses; the test is shown the changes before it, the latest first
abbrev pub first_refused : (List Change → Change → Bool) → List Change → ℕ → List Change → Option ℕ
first_refused p e n [] = None
first_refused p e n (o ∷ l) = cond (p e o) (Some n) (first_refused p (o ∷ e) (n + 1) l)

-- TEST 10: number and roots of the nodes, by code
abbrev pub is_empty : Forest → Bool
is_empty nil = true
is_empty (node r as' k f) = false

abbrev pub attribute_roots : Forest → Bool
attribute_roots nil = true
attribute_roots (node r as' k f) = is_attribute r.kind && attribute_roots f

abbrev pub no_attribute_roots : Forest → Bool
no_attribute_roots nil = true
no_attribute_roots (node r as' k f) = not (is_attribute r.kind) && no_attribute_roots f

abbrev pub is_text : Kind → Bool
is_text Element = false
is_text Attribute = false
is_text Text = true

abbrev pub one_text_or_none : Forest → Bool
one_text_or_none nil = true
one_text_or_none (node r as' k nil) = is_text r.kind
one_text_or_none (node r as' k (node s bs l f)) = false

abbrev pub nodes_suit : Code → Forest → Bool
nodes_suit InsertBefore f = not (is_empty f) && no_attribute_roots f
nodes_suit InsertAfter f = not (is_empty f) && no_attribute_roots f
nodes_suit InsertFirst f = not (is_empty f) && no_attribute_roots f
nodes_suit InsertInto f = not (is_empty f) && no_attribute_roots f
nodes_suit InsertLast f = not (is_empty f) && no_attribute_roots f
nodes_suit InsertAttributes f = not (is_empty f) && attribute_roots f
nodes_suit Delete f = is_empty f
nodes_suit ReplaceNode f = attribute_roots f || no_attribute_roots f
nodes_suit ReplaceValue f = is_empty f
nodes_suit ReplaceContent f = one_text_or_none f
nodes_suit Rename f = is_empty f

abbrev pub nodes_unsuited : List Change → Change → Bool
nodes_unsuited e o = not (nodes_suit o.code o.nodes)

-- TEST 11: the target is absent
abbrev pub target_absent : Forest → List Change → Change → Bool
target_absent d e o = not (stands_in o.target d)

-- TEST 12: the target is unsuited to the code, and to the roots where a node is replaced
-- a node of the document, and the element on whose attribute names its own counts: its parent if it is an attribute
pub record Found : Type 0 where
  pub kind : Kind
  pub element : ℕ

abbrev pub or_found : Option Found → Option Found → Option Found
or_found None y = y
or_found (Some x) y = Some x

abbrev pub find_label : ℕ → ℕ → List Label → Option Found
find_label p t [] = None
find_label p t (r ∷ l) = cond (r.id == t) (Some (record { kind = r.kind; element = p })) (find_label p t l)

abbrev pub find : ℕ → Forest → Option Found
find t nil = None
find t (node r as' k f) =
    cond (r.id == t) (Some (record { kind = r.kind; element = r.id })) (or_found (find_label r.id t as') (or_found (find t k) (find t f)))

abbrev pub is_element : Kind → Bool
is_element Element = true
is_element Attribute = false
is_element Text = false

abbrev pub kind_suits : Code → Kind → Forest → Bool
kind_suits InsertBefore κ f = not (is_attribute κ)
kind_suits InsertAfter κ f = not (is_attribute κ)
kind_suits InsertFirst κ f = is_element κ
kind_suits InsertInto κ f = is_element κ
kind_suits InsertLast κ f = is_element κ
kind_suits InsertAttributes κ f = is_element κ
kind_suits Delete κ f = true
kind_suits ReplaceNode κ f = cond (is_attribute κ) (attribute_roots f) (no_attribute_roots f)
kind_suits ReplaceValue κ f = not (is_element κ)
kind_suits ReplaceContent κ f = is_element κ
kind_suits Rename κ f = not (is_text κ)

-- the root has no neighbours, and stays
abbrev pub spares_root : Code → Bool
spares_root InsertBefore = false
spares_root InsertAfter = false
spares_root InsertFirst = true
spares_root InsertInto = true
spares_root InsertLast = true
spares_root InsertAttributes = true
spares_root Delete = false
spares_root ReplaceNode = false
spares_root ReplaceValue = true
spares_root ReplaceContent = true
spares_root Rename = true

abbrev pub root_is : ℕ → Forest → Bool
root_is t nil = false
root_is t (node r as' k f) = r.id == t

abbrev pub kind_found : Option Found → (Kind → Bool) → Bool
kind_found None p = false
kind_found (Some x) p = p x.kind

abbrev pub target_suits : Forest → Change → Bool
target_suits d o = kind_found (find o.target d) (λ κ. kind_suits o.code κ o.nodes) && (spares_root o.code || not (root_is o.target d))

abbrev pub target_unsuited : Forest → List Change → Change → Bool
target_unsuited d e o = not (target_suits d o)

-- TEST 13: a second replacement, new value, new content or renaming of a target
abbrev pub only_once : Code → Bool
only_once InsertBefore = false
only_once InsertAfter = false
only_once InsertFirst = false
only_once InsertInto = false
only_once InsertLast = false
only_once InsertAttributes = false
only_once Delete = false
only_once ReplaceNode = true
only_once ReplaceValue = true
only_once ReplaceContent = true
only_once Rename = true

abbrev pub second_of_code : List Change → Change → Bool
second_of_code e o = only_once o.code && is_some (first_of o.code (changes_on o.target e))

-- TEST 14: a change that is not overridden gives an element an attribute name that it has in the document, or got from an earlier one or this one
-- names as pairs of the element and the name
abbrev pub names_on : ℕ → List Label → List (ℕ × ℕ)
names_on p [] = []
names_on p (r ∷ l) = (p, r.name) ∷ names_on p l

abbrev pub names_in : Forest → List (ℕ × ℕ)
names_in nil = []
names_in (node r as' k f) = names_on r.id as' ++ (names_in k ++ names_in f)

-- the names that a change gives, where its target is an element or an attribute of it
abbrev pub names_if_attribute : Kind → List (ℕ × ℕ) → List (ℕ × ℕ)
names_if_attribute Element ns = []
names_if_attribute Attribute ns = ns
names_if_attribute Text ns = []

abbrev pub names_by_code : Code → Found → Change → List (ℕ × ℕ)
names_by_code InsertBefore x o = []
names_by_code InsertAfter x o = []
names_by_code InsertFirst x o = []
names_by_code InsertInto x o = []
names_by_code InsertLast x o = []
names_by_code InsertAttributes x o = names_on x.element (root_labels o.nodes)
names_by_code Delete x o = []
names_by_code ReplaceNode x o = names_if_attribute x.kind (names_on x.element (root_labels o.nodes))
names_by_code ReplaceValue x o = []
names_by_code ReplaceContent x o = []
names_by_code Rename x o = names_if_attribute x.kind ((x.element, o.name) ∷ [])

abbrev pub names_found : Option Found → Change → List (ℕ × ℕ)
names_found None o = []
names_found (Some x) o = names_by_code o.code x o

abbrev pub names_of : Forest → Change → List (ℕ × ℕ)
names_of d o = names_found (find o.target d) o

abbrev pub clash : List (ℕ × ℕ) → List (ℕ × ℕ) → Bool
clash [] had = false
clash (k ∷ ks) had = seen k had || clash ks (k ∷ had)

-- had: the names so far; e: the changes so far
abbrev pub first_clash : Forest → List Change → List Change → List (ℕ × ℕ) → ℕ → List Change → Option ℕ
first_clash d l e had n [] = None
first_clash d l e had n (o ∷ r) =
    cond (overridden d l e o) (first_clash d l (o ∷ e) had (n + 1) r)
    (cond (clash (names_of d o) had) (Some n) (first_clash d l (o ∷ e) (names_of d o ++ had) (n + 1) r))

-- TEST 15: the document and the nodes of the reduced list need more than the room
abbrev pub room_lacks : ℕ → Forest → List Change → Option ℕ
room_lacks room d l = cond (nat_lt room (size d + size_nodes (reduced d l))) (Some 0) None

-- the refusal of a test where it names a place, else what the later tests say
abbrev pub refused : (ℕ → ListFault) → Option ℕ → Option ListFault → Option ListFault
refused fault None later = later
refused fault (Some p) later = Some (fault p)

-- the tests on changes with their trees: 10 to 15
unfoldable pub change_test : ℕ → Forest → List Change → Option ListFault
change_test room d l =
    refused NodesUnsuited (first_refused nodes_unsuited [] 0 l)
    (refused TargetAbsent (first_refused (target_absent d) [] 0 l)
    (refused TargetUnsuited (first_refused (target_unsuited d) [] 0 l)
    (refused SecondOfCode (first_refused second_of_code [] 0 l)
    (refused NameTaken (first_clash d l [] (names_in d) 0 l)
    (refused (λ p. NoRoom) (room_lacks room d l) None)))))

-- What the tests 3, 8 and 9 on tables say of a list with its trees.
-- 3: the target is above 0, name and value suit the code
abbrev pub FormedChange : Change → Type 0
FormedChange o = (nat_lt 0 o.target && fields_suit_code o.code o.name o.value) ≡ true

-- 3 and 9: the roots may be attributes, and then have nothing below them; all else is as in a document
abbrev pub RootHolds : Kind → List Label → Forest → Type 0
RootHolds Element as' k = Unit {0}
RootHolds Attribute as' k = (as' ≡ []) × (k ≡ nil)
RootHolds Text as' k = (as' ≡ []) × (k ≡ nil)

abbrev pub SoundRoots : Forest → Type 0
SoundRoots nil = Unit {0}
SoundRoots (node r as' k f) =
    Formed r × RootHolds r.kind as' k × (Attributes as' × Above 0 as' × ((t : ℕ) → count_names t as' ≤ 1)) × Sound k × SoundRoots f

abbrev pub SoundChanges : List Change → Type 0
SoundChanges [] = Unit {0}
SoundChanges (o ∷ l) = FormedChange o × SoundRoots o.nodes × SoundChanges l

-- a list suits a document when it passes every test
pub record Suits (room : ℕ) (d : Forest) (l : List Change) : Type 0 where
  pub sound : SoundChanges l
  -- 8: an identifier stands once, in the document and the list together
  pub distinct : (t : ℕ) → count t d + count_nodes t l ≤ 1
  pub passes : change_test room d l ≡ None
