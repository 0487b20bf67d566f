use Rattle.std.proofs.Common.{◌≡◌, ◌+◌, length, take, drop, None}
use Rattle.reader.specs.Bytes.{file_of, patched, Spelt}
use Rattle.reader.specs.Layout.{list_records}
use Rattle.writer.specs.Scans.{counts_from}
use Rattle.writer.proofs.writing.put_list.Given as goal

-- the first `place` records are written: those of the operations passed, and of all nodes but the rest
abbrev pub invariant-loop-operation : goal.invariant-loop-operation
invariant-loop-operation l =
    (l.bytes ≡ patched l.initial.bytes 0 (file_of (take l.place (list_records l.operations l.nodes))))
    × Spelt (take l.place (list_records l.operations l.nodes))
    × (drop l.place (list_records l.operations l.nodes) ≡ list_records (drop l.operation-index l.operations) l.rest)
    × (counts_from l.operation-index (drop l.operation-index l.operations) (length l.rest) ≡ None)
    × (l.place + length l.rest ≡ l.operation-index + length l.nodes)
