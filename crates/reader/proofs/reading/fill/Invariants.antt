use Rattle.reader.specs.Bytes.{records}
use Rattle.reader.specs.Due.{left}
use Rattle.reader.specs.Reading.{operations_in, nodes_in}
use Rattle.reader.proofs.Filling.{Fills}
use Rattle.reader.proofs.reading.fill.Given as goal

abbrev pub invariant-loop-due : goal.invariant-loop-due
invariant-loop-due l =
    let rs = records l.bytes in
    Fills (operations_in l.nodes_first rs) l.initial.operations l.operations (nodes_in l.nodes_first rs) l.initial.nodes l.nodes l.operation_count l.node_count (left l.due-iterator)
