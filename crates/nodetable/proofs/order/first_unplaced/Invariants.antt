use Rattle.std.proofs.Common.{◌≡◌, ◌+◌, ◌≤◌, [], ◌∷◌, length, drop, Some}
use Rattle.document.specs.Table.{order_from}
use Rattle.nodetable.specs.Open.{open_in, places}
use Rattle.nodetable.proofs.order.first_unplaced.Given as goal

-- no more elements are open than nodes were passed, the root among them
abbrev pub invariant-loop-passed : goal.invariant-loop-passed
invariant-loop-passed l =
    (length (open_in l.standing.open) ≤ l.passed + 1)
    × (places l.standing.open ≡ places l.initial.standing.open)
    × (order_from (open_in l.standing.open) l.standing.above (l.passed + 1) (drop l.passed l.behind_root) ≡ order_from (l.root ∷ []) (Some 0) 1 l.behind_root)
