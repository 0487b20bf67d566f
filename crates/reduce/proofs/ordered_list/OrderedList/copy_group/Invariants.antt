use Rattle.reduce.proofs.Copying.{Passed}
use Rattle.reduce.proofs.ordered_list.OrderedList.copy_group.Given as goal

abbrev pub invariant-loop-entry : goal.invariant-loop-entry
invariant-loop-entry l = Passed l.self l.key l.entries l.initial.tables l.entry-index l.tables
