-- The records of tables, in the order of a file.
use Rattle.std.specs.Prelude.{List, [], ◌∷◌, ◌++◌, map, take, drop}
use Rattle.records.specs.declared.nodes.Node.{Node}
use Rattle.records.specs.declared.operations.Operation.{Operation}
use Rattle.codec.specs.declared.spelling.Record.{Record}
use Rattle.codec.specs.Fields.{record_of_node, record_of_operation}

abbrev pub document_records : List Node → List Record
document_records xs = map record_of_node xs

-- each operation, and behind it its nodes
abbrev pub list_records : List Operation → List Node → List Record
list_records [] xs = []
list_records (o ∷ os) xs = record_of_operation o ∷ (document_records (take o.count xs) ++ list_records os (drop o.count xs))
