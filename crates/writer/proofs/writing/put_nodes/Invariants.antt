use Rattle.std.proofs.Common.{◌≡◌, ◌*◌, take}
use Rattle.reader.specs.Bytes.{file_of, patched, Spelt}
use Rattle.reader.specs.Layout.{document_records}
use Rattle.writer.proofs.writing.put_nodes.Given as goal

abbrev pub invariant-loop-k : goal.invariant-loop-k
invariant-loop-k l =
    (l.bytes ≡ patched l.initial.bytes (16 * l.place) (file_of (document_records (take l.k l.nodes)))) × Spelt (document_records (take l.k l.nodes))
