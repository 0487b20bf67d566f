-- The tests on a node table, each over the whole table, and the document that a table lists.
use Rattle.std.specs.Prelude.{ℕ, ◌+◌, Bool, true, false, cond, ◌&&◌, ◌||◌, List, [], ◌∷◌, length, Some, None, Ok, Err, Option, Result, ◌==◌, nat_lt}
use Rattle.records.specs.Formed.{formed_node}
use Rattle.records.specs.declared.nodes.Kind.{Kind}
use Rattle.records.specs.declared.nodes.Kind.TheVariants.{Element, Attribute, Text}
use Rattle.records.specs.declared.nodes.Node.{Node}
use Rattle.faults.specs.declared.DocumentFault.{DocumentFault}
use Rattle.faults.specs.declared.DocumentFault.TheVariants.{Misformed, IdentifierTwice, OutOfOrder, NameTwice, NoRoom}
use Rattle.document.specs.Tree.{Label, Forest, nil, node}
use Rattle.document.specs.Listing.{label}

-- the place of the first misformed node; n is the place of the first of the list
abbrev pub misformed_from : ℕ → List Node → Option ℕ
misformed_from n [] = None
misformed_from n (x ∷ xs) = cond (formed_node x) (misformed_from (n + 1) xs) (Some n)

-- Keys are pairs. The place of the first node whose key stands before it; a node without a key is passed over.
abbrev pub seen : ℕ × ℕ → List (ℕ × ℕ) → Bool
seen k [] = false
seen k (j ∷ js) = (j.0 == k.0 && j.1 == k.1) || seen k js

abbrev pub repeat_at : Option (ℕ × ℕ) → List (ℕ × ℕ) → ℕ → (List (ℕ × ℕ) → Option ℕ) → Option ℕ
repeat_at None before n rest = rest before
repeat_at (Some k) before n rest = cond (seen k before) (Some n) (rest (k ∷ before))

abbrev pub repeat_from : (Node → Option (ℕ × ℕ)) → List (ℕ × ℕ) → ℕ → List Node → Option ℕ
repeat_from key before n [] = None
repeat_from key before n (x ∷ xs) = repeat_at (key x) before n (λ b. repeat_from key b (n + 1) xs)

abbrev pub identifier_key : Node → Option (ℕ × ℕ)
identifier_key x = Some (x.id, 0)

-- only attributes have a name that counts, and only beside those of their element
abbrev pub key_of_kind : Kind → ℕ × ℕ → Option (ℕ × ℕ)
key_of_kind Element k = None
key_of_kind Attribute k = Some k
key_of_kind Text k = None

abbrev pub name_key : Node → Option (ℕ × ℕ)
name_key x = key_of_kind x.kind (x.parent, x.name)

-- The elements that are open, innermost first: what stays open where a node below p comes
abbrev pub closed_to : ℕ → List ℕ → List ℕ
closed_to p [] = []
closed_to p (e ∷ open') = cond (e == p) (e ∷ open') (closed_to p open')

abbrev pub innermost : ℕ → List ℕ → Bool
innermost p [] = false
innermost p (e ∷ open') = e == p

abbrev pub opened : Kind → ℕ → List ℕ → List ℕ
opened Element t open' = t ∷ open'
opened Attribute t open' = open'
opened Text t open' = open'

-- which attributes the innermost element still takes: those above a number, or none
abbrev pub takes_above : Kind → Option ℕ
takes_above Element = Some 0
takes_above Attribute = None
takes_above Text = None

abbrev pub taken : Option ℕ → ℕ → Bool
taken None t = false
taken (Some a) t = nat_lt a t

-- an attribute of an element; one without a parent is a root
abbrev pub is_attribute : Kind → Bool
is_attribute Element = false
is_attribute Attribute = true
is_attribute Text = false

abbrev pub attached : Node → Bool
attached x = is_attribute x.kind && nat_lt 0 x.parent

-- The place of the first node out of document order: an attribute stands right behind its element, or behind an attribute
-- of it with a smaller identifier; any other node has an open element for its parent.
abbrev pub order_from : List ℕ → Option ℕ → ℕ → List Node → Option ℕ
order_from open' above n [] = None
order_from open' above n (x ∷ xs) =
    cond (attached x)
    (cond (innermost x.parent open' && taken above x.id) (order_from open' (Some x.id) (n + 1) xs) (Some n))
    (cond (innermost x.parent (closed_to x.parent open'))
    (order_from (opened x.kind x.id (closed_to x.parent open')) (takes_above x.kind) (n + 1) xs) (Some n))

-- a document begins with its root, an element, and has no second root: 0 is never open
abbrev pub is_root : Kind → ℕ → Bool
is_root Element p = p == 0
is_root Attribute p = false
is_root Text p = false

abbrev pub out_of_order : List Node → Option ℕ
out_of_order [] = Some 0
out_of_order (x ∷ xs) = cond (is_root x.kind x.parent) (order_from (x.id ∷ []) (Some 0) 1 xs) (Some 0)

abbrev pub over_room : ℕ → List Node → Option ℕ
over_room room xs = cond (nat_lt room (length xs)) (Some room) None

-- a test's fault where it finds a place, else what the later tests say
abbrev pub at_fault : Option ℕ → (ℕ → DocumentFault) → Result (Unit {0}) DocumentFault → Result (Unit {0}) DocumentFault
at_fault None fault later = later
at_fault (Some n) fault later = Err (fault n)

unfoldable pub table_test : ℕ → List Node → Result (Unit {0}) DocumentFault
table_test room xs =
    at_fault (misformed_from 0 xs) Misformed
    (at_fault (repeat_from identifier_key [] 0 xs) IdentifierTwice
    (at_fault (out_of_order xs) OutOfOrder
    (at_fault (repeat_from name_key [] 0 xs) NameTwice
    (at_fault (over_room room xs) NoRoom (Ok tt)))))

-- The trees of a table, read from its end: what is gathered so far for parents still to come
pub record Group : Type 0 where
  pub parent : ℕ
  pub attributes : List Label
  pub children : Forest

abbrev pub attributes_for : ℕ → List Group → List Label
attributes_for t [] = []
attributes_for t (g ∷ gs) = cond (g.parent == t) g.attributes []

abbrev pub children_for : ℕ → List Group → Forest
children_for t [] = nil
children_for t (g ∷ gs) = cond (g.parent == t) g.children nil

abbrev pub without : ℕ → List Group → List Group
without t [] = []
without t (g ∷ gs) = cond (g.parent == t) gs (g ∷ gs)

abbrev pub with_attribute : ℕ → Label → List Group → List Group
with_attribute p r gs = record { parent = p; attributes = r ∷ attributes_for p gs; children = children_for p gs } ∷ without p gs

abbrev pub with_tree : ℕ → Label → List Label → Forest → List Group → List Group
with_tree p r as' k gs = record { parent = p; attributes = attributes_for p gs; children = node r as' k (children_for p gs) } ∷ without p gs

abbrev pub gather : Node → List Group → List Group
gather x gs =
    cond (attached x) (with_attribute x.parent (label x) gs)
    (with_tree x.parent (label x) (attributes_for x.id gs) (children_for x.id gs) (without x.id gs))

abbrev pub groups : List Node → List Group
groups [] = []
groups (x ∷ xs) = gather x (groups xs)

-- the document of a table that passes the tests
unfoldable pub document_of : List Node → Forest
document_of xs = children_for 0 (groups xs)

-- How deep each node stands, by the elements open before it
abbrev pub depth_from : List ℕ → List Node → List ℕ
depth_from open' [] = []
depth_from open' (x ∷ xs) =
    cond (attached x) (length open' ∷ depth_from open' xs)
    (length (closed_to x.parent open') ∷ depth_from (opened x.kind x.id (closed_to x.parent open')) xs)
