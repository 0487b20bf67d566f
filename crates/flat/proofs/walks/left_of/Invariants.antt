use Rattle.std.proofs.Common.{◌-◌, length}
use Rattle.flat.specs.Walks.{Walked}
use Rattle.flat.proofs.walks.left_of.Given as goal

abbrev pub invariant-loop-child : goal.invariant-loop-child
invariant-loop-child l = Walked l.rows (length l.rows) l.place l.child l.left

abbrev pub decreases-loop-child : goal.decreases-loop-child
decreases-loop-child l = l.place - l.child
