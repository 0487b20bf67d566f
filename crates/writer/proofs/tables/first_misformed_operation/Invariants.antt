use Rattle.std.proofs.Common.{◌≡◌, length, drop, None}
use Rattle.writer.specs.Scans.{counts_from, misformed_list_from}
use Rattle.writer.proofs.tables.first_misformed_operation.Given as goal

abbrev pub invariant-loop-place : goal.invariant-loop-place
invariant-loop-place l =
    (misformed_list_from l.place (drop l.place l.operations) l.rest ≡ misformed_list_from 0 l.operations l.nodes)
    × (counts_from l.place (drop l.place l.operations) (length l.rest) ≡ None)
