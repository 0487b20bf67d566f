-- Which node or operation a record spells.
use Rattle.std.specs.Prelude.{cond, Some, None, Option, Result, ok_or, ◌==◌}
use Rattle.codec.specs.declared.fields.Misformed.{Misformed}
use Rattle.codec.specs.declared.spelling.Record.{Record}
use Rattle.records.specs.declared.nodes.Kind.{Kind}
use Rattle.records.specs.declared.nodes.Node.{Node}
use Rattle.records.specs.declared.operations.Code.{Code}
use Rattle.records.specs.declared.operations.Operation.{Operation}
use Rattle.records.specs.Formed.{kind_number, kind_of, formed_node, code_number, code_of, formed_operation}

abbrev pub if_formed_node : Node → Option Node
if_formed_node n = cond (formed_node n) (Some n) None

abbrev pub node_of_kind : Option Kind → Record → Option Node
node_of_kind None r = None
node_of_kind (Some k) r = if_formed_node (record { id = r.key; parent = r.link; kind = k; name = r.name; value = r.value })

-- the node of a record whose spare byte is 0 and whose fields suit a kind
abbrev pub node_of : Record → Option Node
node_of r = cond (r.spare == 0) (node_of_kind (kind_of r.tag) r) None

-- the same, told as a result
abbrev pub node_from : Record → Result Node Misformed
node_from r = ok_or (node_of r) (record {})

abbrev pub record_of_node : Node → Record
record_of_node n = record { key = n.id; link = n.parent; tag = kind_number n.kind; spare = 0; name = n.name; value = n.value }

abbrev pub if_formed_operation : Operation → Option Operation
if_formed_operation o = cond (formed_operation o) (Some o) None

abbrev pub operation_of_code : Option Code → Record → Option Operation
operation_of_code None r = None
operation_of_code (Some c) r = if_formed_operation (record { target = r.key; code = c; count = r.link; name = r.name; value = r.value })

-- the operation of a record whose spare byte is 0 and whose fields suit a code
abbrev pub operation_of : Record → Option Operation
operation_of r = cond (r.spare == 0) (operation_of_code (code_of r.tag) r) None

-- the same, told as a result
abbrev pub operation_from : Record → Result Operation Misformed
operation_from r = ok_or (operation_of r) (record {})

abbrev pub record_of_operation : Operation → Record
record_of_operation o = record { key = o.target; link = o.count; tag = code_number o.code; spare = 0; name = o.name; value = o.value }
