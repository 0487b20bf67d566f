use Rattle.codec.specs.Fields.{node_of, operation_of}
use Rattle.codec.proofs.Spelled.{spelt_ok, spelt_some}
use Rattle.reader.specs.Bytes.{records}
use Rattle.reader.proofs.Filling.{nothing_filled, operation_written, node_written, is_operation, is_node}
use Rattle.reader.proofs.reading.fill.Goals as goal

pub loop-due-init : goal.loop-due-init
loop-due-init c =
    rw c.into_iter-due-iterator.ensures.into_iter_gives
    (nothing_filled c.args.nodes_first (records c.args.bytes.now) c.due_records-due-items.ensures.records c.requires.formed c.requires.operations_fit c.requires.nodes_fit)

pub bounds-operations-operation_count : goal.bounds-operations-operation_count
bounds-operations-operation_count c = (operation_written c.loop-due.invariant c.in-Some.ensures.steps c.in-Ok.operation c.if-due-eq0.true (spelt_ok (operation_of c.in-Some.found) c.try_from.ensures c.in-Ok.is)).0

pub loop-due-preserved-in-Ok : goal.loop-due-preserved-in-Ok
loop-due-preserved-in-Ok c = (operation_written c.loop-due.invariant c.in-Some.ensures.steps c.in-Ok.operation c.if-due-eq0.true (spelt_ok (operation_of c.in-Some.found) c.try_from.ensures c.in-Ok.is)).1

pub loop-due-preserved-in_default : goal.loop-due-preserved-in_default
loop-due-preserved-in_default c =
    let s = is_operation c.loop-due.invariant c.in-Some.ensures.steps c.if-due-eq0.true in
    absurd (c.in_default.not-Ok s.0 (spelt_some (operation_of c.in-Some.found) c.try_from.ensures s.1))

pub bounds-nodes-node_count : goal.bounds-nodes-node_count
bounds-nodes-node_count c = (node_written c.loop-due.invariant c.in-Some.ensures.steps c.in-Ok-try_from.node c.if-due-eq0.false (spelt_ok (node_of c.in-Some.found) c.try_from-else-due-eq0.ensures c.in-Ok-try_from.is)).0

pub loop-due-preserved-in-Ok-try_from : goal.loop-due-preserved-in-Ok-try_from
loop-due-preserved-in-Ok-try_from c = (node_written c.loop-due.invariant c.in-Some.ensures.steps c.in-Ok-try_from.node c.if-due-eq0.false (spelt_ok (node_of c.in-Some.found) c.try_from-else-due-eq0.ensures c.in-Ok-try_from.is)).1

pub loop-due-preserved : goal.loop-due-preserved
loop-due-preserved c =
    let s = is_node c.loop-due.invariant c.in-Some.ensures.steps c.if-due-eq0.false in
    absurd (c.in_default-try_from.not-Ok s.0 (spelt_some (node_of c.in-Some.found) c.try_from-else-due-eq0.ensures s.1))
