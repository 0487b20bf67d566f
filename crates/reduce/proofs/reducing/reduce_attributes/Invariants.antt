use Rattle.std.proofs.Common.{length}
use Rattle.walk.specs.Ahead.{attributes_of, labels_at}
use Rattle.walk.proofs.Walking.{Left}
use Rattle.reduce.specs.Lists.{changes}
use Rattle.reduce.specs.Mirror.{left_on_attributes}
use Rattle.reduce.proofs.Growing.{Growing}
use Rattle.reduce.proofs.reducing.reduce_attributes.Given as goal

-- what is left on the attributes that are left is still to be added
abbrev pub invariant-loop-attribute : goal.invariant-loop-attribute
invariant-loop-attribute g l =
    Left (g.R.Reading.forest l.store) l.id l.attribute
    × Growing l.initial.tables l.tables (left_on_attributes (changes l.list) (labels_at (g.R.Reading.forest l.store) l.attribute))
    (left_on_attributes (changes l.list) (attributes_of (g.R.Reading.forest l.store) l.id))

abbrev pub decreases-loop-attribute : goal.decreases-loop-attribute
decreases-loop-attribute g l = length (labels_at (g.R.Reading.forest l.store) l.attribute)
