-- The change list that a look-up is made in.
use Rattle.std.specs.Prelude.{List}
use Rattle.changes.specs.Changes.{Change}
use Rattle.changes.specs.Tables.{changes_of}
use Rattle.reduce.specs.declared.ordered_list.OrderedList.{OrderedList}

abbrev pub changes : OrderedList → List Change
changes l = changes_of l.operations.now l.nodes.now
