-- A change list as two tables: the operations with their counts, and the nodes of all of them, one after another.
use Rattle.std.specs.Prelude.{ℕ, ◌+◌, Bool, true, false, cond, not, ◌&&◌, ◌||◌, List, [], ◌∷◌, ◌++◌, length, take, drop, Some, None, Option, ◌==◌, nat_le, nat_lt}
use Rattle.records.specs.Formed.{formed_node, formed_operation}
use Rattle.records.specs.declared.nodes.Kind.{Kind}
use Rattle.records.specs.declared.nodes.Kind.TheVariants.{Element, Attribute, Text}
use Rattle.records.specs.declared.nodes.Node.{Node}
use Rattle.records.specs.declared.operations.Operation.{Operation}
use Rattle.document.specs.Tree.{Forest, nil, one, count}
use Rattle.document.specs.Listing.{rows}
use Rattle.document.specs.Table.{out_of_order, repeat_from, name_key, document_of}
use Rattle.changes.specs.Changes.{Change, ◌⊕◌, is_some}
use Rattle.faults.specs.declared.ListFault.{ListFault}
use Rattle.faults.specs.declared.ListFault.TheVariants.{Structure, Misformed, IdentifierTaken, NoTrees}
use Rattle.changes.specs.Tests.{refused, change_test}

-- FROM CHANGES TO TABLES
abbrev pub operation_rows : List Change → List Operation
operation_rows [] = []
operation_rows (o ∷ l) = record { target = o.target; code = o.code; count = length (rows 0 o.nodes); name = o.name; value = o.value } ∷ operation_rows l

abbrev pub node_rows : List Change → List Node
node_rows [] = []
node_rows (o ∷ l) = rows 0 o.nodes ++ node_rows l

-- FROM TABLES TO CHANGES
-- The nodes of an operation, parted at the roots (parent 0): the rows before the first root, and one part for each root
abbrev pub parts : List Node → List Node × List (List Node)
parts [] = ([], [])
parts (x ∷ xs) = cond (x.parent == 0) ([], (x ∷ (parts xs).0) ∷ (parts xs).1) (x ∷ (parts xs).0, (parts xs).1)

-- the trees of the parts, one behind the other
abbrev pub trees_of_parts : List (List Node) → Forest
trees_of_parts [] = nil
trees_of_parts (p ∷ ps) = document_of p ⊕ trees_of_parts ps

abbrev pub trees_of : List Node → Forest
trees_of xs = trees_of_parts (parts xs).1

abbrev pub changes_of : List Operation → List Node → List Change
changes_of [] xs = []
changes_of (o ∷ l) xs =
    record { target = o.target; code = o.code; nodes = trees_of (take o.count xs); name = o.name; value = o.value }
    ∷ changes_of l (drop o.count xs)

-- THE TESTS ON TABLES
-- TEST 2: the first operation whose count passes the end of the nodes, or where nodes are left over the number of operations
abbrev pub miscounted_from : ℕ → List Operation → List Node → Option ℕ
miscounted_from n [] [] = None
miscounted_from n [] (x ∷ xs) = Some n
miscounted_from n (o ∷ l) xs = cond (nat_le o.count (length xs)) (miscounted_from (n + 1) l (drop o.count xs)) (Some n)

-- the place of the first operation that a test refuses; the test is shown the nodes before, and its own
abbrev pub first_operation : (List Node → Operation → List Node → Bool) → List Node → ℕ → List Operation → List Node → Option ℕ
first_operation p e n [] xs = None
first_operation p e n (o ∷ l) xs =
    cond (p e o (take o.count xs)) (Some n) (first_operation p (take o.count xs ++ e) (n + 1) l (drop o.count xs))

-- TEST 3: the operation or one of its nodes is misformed
abbrev pub all_formed : List Node → Bool
all_formed [] = true
all_formed (x ∷ xs) = formed_node x && all_formed xs

abbrev pub misformed : List Node → Operation → List Node → Bool
misformed e o xs = not (formed_operation o && all_formed xs)

-- TEST 8: the identifier of a node is in the document or stands earlier in the list
abbrev pub count_ids : ℕ → List Node → ℕ
count_ids t [] = 0
count_ids t (x ∷ xs) = one (x.id == t) + count_ids t xs

abbrev pub taken_identifier : Forest → List Node → List Node → Bool
taken_identifier d e [] = false
taken_identifier d e (x ∷ xs) = nat_lt 0 (count x.id d + count_ids x.id e) || taken_identifier d (x ∷ e) xs

abbrev pub identifier_taken : Forest → List Node → Operation → List Node → Bool
identifier_taken d e o xs = taken_identifier d e xs

-- TEST 9: no row of trees, each in document order, or an attribute name twice inside
abbrev pub part_in_order : Kind → List Node → List Node → Bool
part_in_order Element p below = not (is_some (out_of_order p)) && not (is_some (repeat_from name_key [] 0 p))
part_in_order Attribute p below = length below == 0
part_in_order Text p below = length below == 0

abbrev pub part_is_tree : List Node → Bool
part_is_tree [] = false
part_is_tree (x ∷ xs) = part_in_order x.kind (x ∷ xs) xs

abbrev pub parts_are_trees : List (List Node) → Bool
parts_are_trees [] = true
parts_are_trees (p ∷ ps) = part_is_tree p && parts_are_trees ps

abbrev pub no_row_of_trees : List Node → Operation → List Node → Bool
no_row_of_trees e o xs = not (length (parts xs).0 == 0 && parts_are_trees (parts xs).1)

-- all tests on a list on a document, in their order
unfoldable pub list_test : ℕ → Forest → List Operation → List Node → Option ListFault
list_test room d ops nodes =
    refused Structure (miscounted_from 0 ops nodes)
    (refused Misformed (first_operation misformed [] 0 ops nodes)
    (refused IdentifierTaken (first_operation (identifier_taken d) [] 0 ops nodes)
    (refused NoTrees (first_operation no_row_of_trees [] 0 ops nodes)
    (change_test room d (changes_of ops nodes)))))
