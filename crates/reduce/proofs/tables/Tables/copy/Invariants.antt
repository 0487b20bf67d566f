use Rattle.std.proofs.Common.{◌≡◌, ◌+◌, drop}
use Rattle.walk.specs.Written.{written}
use Rattle.reduce.specs.Output.{SameTables}
use Rattle.reduce.proofs.tables.Tables.copy.Given as goal

abbrev pub invariant-loop-node : goal.invariant-loop-node
invariant-loop-node l =
    SameTables l.initial.self l.self
    × (l.self.operations.now ≡ l.initial.self.operations.now)
    × (l.self.used.operations ≡ l.initial.self.used.operations)
    × (l.self.used.nodes ≡ l.initial.self.used.nodes + l.node-index)
    × (written l.self.nodes.now l.self.used.nodes (drop l.node-index l.nodes) ≡ written l.initial.self.nodes.now l.initial.self.used.nodes l.nodes)
