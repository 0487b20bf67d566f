use Rattle.std.proofs.Common.{◌≡◌, drop}
use Rattle.writer.specs.Scans.{counts_from}
use Rattle.writer.proofs.tables.scan_counts.Given as goal

abbrev pub invariant-loop-place : goal.invariant-loop-place
invariant-loop-place l = counts_from l.place (drop l.place l.operations) l.left ≡ counts_from 0 l.operations l.nodes
