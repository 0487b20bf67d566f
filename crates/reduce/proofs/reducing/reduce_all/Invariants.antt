use Rattle.walk.specs.Ahead.{ahead, Walks, over, size_ahead}
use Rattle.reduce.specs.Lists.{changes}
use Rattle.reduce.specs.Mirror.{reduced_row}
use Rattle.reduce.proofs.Growing.{Growing}
use Rattle.reduce.proofs.reducing.reduce_all.Given as goal

-- what is left on the nodes ahead is still to be added
abbrev pub invariant-loop-id : goal.invariant-loop-id
invariant-loop-id g l =
    Walks (g.R.Reading.forest l.store) l.id
    × Growing l.initial.tables l.tables (over (reduced_row (changes l.list)) (ahead (g.R.Reading.forest l.store) l.id)) (reduced_row (changes l.list) 0 (g.R.Reading.forest l.store))

abbrev pub decreases-loop-id : goal.decreases-loop-id
decreases-loop-id g l = size_ahead (ahead (g.R.Reading.forest l.store) l.id)
