use Rattle.std.proofs.Common.{◌-◌, cond, eqb}
use Rattle.linked.specs.Document.{document}
use Rattle.linked.proofs.Walking.{Left}
use Rattle.linked.proofs.linked_store.LinkedStore.attributes_around.Given as goal

abbrev pub invariant-loop-next : goal.invariant-loop-next
invariant-loop-next l = Left (document l.self) l.parent l.id l.before l.next

abbrev pub decreases-loop-next : goal.decreases-loop-next
decreases-loop-next l = cond (eqb l.next 0) 0 (l.id - l.next)
