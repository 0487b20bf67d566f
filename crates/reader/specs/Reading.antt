-- What reading a file answers.
use Rattle.std.specs.Prelude.{ℕ, ◌+◌, ◌-◌, ◌/◌, ◌%◌, Bool, cond, ◌&&◌, ◌||◌, List, [], ◌∷◌, length, is_some, Some, None, Ok, Err, Option, Result, ◌==◌, nat_lt}
use Rattle.codec.specs.declared.spelling.Record.{Record}
use Rattle.records.specs.declared.nodes.Node.{Node}
use Rattle.records.specs.declared.operations.Operation.{Operation}
use Rattle.records.specs.Formed.{kind_of}
use Rattle.codec.specs.Fields.{node_of, operation_of}
use Rattle.faults.specs.declared.FileFault.{FileFault}
use Rattle.faults.specs.declared.FileFault.TheVariants.{Length, Structure, Misformed, TableShort}
use Rattle.reader.specs.Bytes.{records, over}

-- Records are read in their order. `due` is how many nodes are due before the next operation:
-- an operation makes as many due as it counts, a node is one of them.
abbrev pub due_after : ℕ → Record → ℕ
due_after due r = cond (due == 0) r.link (due - 1)

-- an operation is due, and a node stands there or more nodes are counted than records follow
abbrev pub ill_built : ℕ → Record → ℕ → Bool
ill_built due r follow = due == 0 && (is_some (kind_of r.tag) || nat_lt follow r.link)

-- the place of the first record at which the structure fails; n is the place of the first of the list
abbrev pub structure_from : ℕ → ℕ → List Record → Option ℕ
structure_from due n [] = None
structure_from due n (r ∷ rs) = cond (ill_built due r (length rs)) (Some n) (structure_from (due_after due r) (n + 1) rs)

-- the record is what is due, and well formed
abbrev pub spells : ℕ → Record → Bool
spells due r = cond (due == 0) (is_some (operation_of r)) (is_some (node_of r))

-- the place of the first misformed record
abbrev pub misformed_from : ℕ → ℕ → List Record → Option ℕ
misformed_from due n [] = None
misformed_from due n (r ∷ rs) = cond (spells due r) (misformed_from (due_after due r) (n + 1) rs) (Some n)

abbrev pub and_some : {X : Type 0} → Option X → List X → List X
and_some None xs = xs
and_some (Some x) xs = x ∷ xs

-- the operations, and the nodes, of well-formed records
abbrev pub operations_in : ℕ → List Record → List Operation
operations_in due [] = []
operations_in due (r ∷ rs) = cond (due == 0) (and_some (operation_of r) (operations_in (due_after due r) rs)) (operations_in (due_after due r) rs)

abbrev pub nodes_in : ℕ → List Record → List Node
nodes_in due [] = []
nodes_in due (r ∷ rs) = cond (due == 0) (nodes_in (due_after due r) rs) (and_some (node_of r) (nodes_in (due_after due r) rs))

-- a test's fault where it finds a place, else what comes after
abbrev pub at_fault : {X : Type 0} → Option ℕ → (ℕ → FileFault) → Result X FileFault → Result X FileFault
at_fault None fault later = later
at_fault (Some n) fault later = Err (fault n)

abbrev pub then : {X Y : Type 0} → Result X FileFault → (X → Result Y FileFault) → Result Y FileFault
then (Ok x) later = later x
then (Err e) later = Err e

abbrev pub if_whole : {X : Type 0} → List ℕ → Result X FileFault → Result X FileFault
if_whole bs later = cond (length bs % 16 == 0) later (Err (Length (length bs / 16)))

-- A document file: every record is a node.
abbrev pub document_nodes : List ℕ → List Node
document_nodes bs = nodes_in (length bs / 16) (records bs)

-- the number of nodes, or the fault, that the tests find
abbrev pub document_tested : List ℕ → Result ℕ FileFault
document_tested bs = if_whole bs (at_fault (misformed_from (length bs / 16) 0 (records bs)) Misformed (Ok (length bs / 16)))

-- room: how long the table is
abbrev pub document_read : ℕ → List ℕ → Result ℕ FileFault
document_read room bs = then (document_tested bs) (λ n. cond (nat_lt room n) (Err TableShort) (Ok n))

-- A list file: operations, each followed by its nodes.
abbrev pub list_operations : List ℕ → List Operation
list_operations bs = operations_in 0 (records bs)

abbrev pub list_nodes : List ℕ → List Node
list_nodes bs = nodes_in 0 (records bs)

-- the number of operations and of nodes, or the fault
abbrev pub list_tested : List ℕ → Result (ℕ × ℕ) FileFault
list_tested bs =
    if_whole bs (at_fault (structure_from 0 0 (records bs)) Structure
    (at_fault (misformed_from 0 0 (records bs)) Misformed
    (Ok (length (list_operations bs), length bs / 16 - length (list_operations bs)))))

abbrev pub list_read : ℕ → ℕ → List ℕ → Result (ℕ × ℕ) FileFault
list_read operation_room node_room bs =
    then (list_tested bs) (λ n. cond (nat_lt operation_room n.0 || nat_lt node_room n.1) (Err TableShort) (Ok n))

-- what a table holds after a reading: the records read over its front, or what it held
abbrev pub table_after : {X Y : Type 0} → Result Y FileFault → List X → List X → List X
table_after (Ok y) xs table = over xs table
table_after (Err e) xs table = table
