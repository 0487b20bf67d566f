use Rattle.std.proofs.Common.{◌≡◌, length}
use Rattle.store.specs.Links.{link_of}
use Rattle.store.specs.Views.{view}
use Rattle.walk.specs.Ahead.{ahead, behind_node}
use Rattle.walk.proofs.order.behind.Given as goal

-- from where the climb has come the same node is behind
abbrev pub invariant-loop-next : goal.invariant-loop-next
invariant-loop-next g l =
    (behind_node (g.R.Reading.forest l.store) l.at ≡ behind_node (g.R.Reading.forest l.store) l.id)
    × (l.next ≡ link_of (λ v. v.next_sibling) (view (g.R.Reading.forest l.store) l.at))

abbrev pub decreases-loop-next : goal.decreases-loop-next
decreases-loop-next g l = length (ahead (g.R.Reading.forest l.store) l.at)
