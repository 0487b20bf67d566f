use Rattle.std.proofs.Common.{◌≡◌, ◌+◌, length, drop}
use Rattle.document.specs.Listing.{rows}
use Rattle.walk.specs.Written.{written}
use Rattle.reduce.specs.Groups.{gathered}
use Rattle.reduce.specs.Lists.{changes}
use Rattle.reduce.specs.Output.{SameTables}
use Rattle.reduce.proofs.ordered_list.OrderedList.copy_groups.Given as goal

abbrev pub invariant-loop-key : goal.invariant-loop-key
invariant-loop-key l =
    SameTables l.initial.tables l.tables
    × (l.tables.operations.now ≡ l.initial.tables.operations.now)
    × (l.tables.used.operations ≡ l.initial.tables.used.operations)
    × (l.tables.used.nodes + length (rows 0 (gathered (changes l.self) (drop l.key-index l.keys))) ≡ l.initial.tables.used.nodes + length (rows 0 (gathered (changes l.self) l.keys)))
    × (written l.tables.nodes.now l.tables.used.nodes (rows 0 (gathered (changes l.self) (drop l.key-index l.keys)))
    ≡ written l.initial.tables.nodes.now l.initial.tables.used.nodes (rows 0 (gathered (changes l.self) l.keys)))
