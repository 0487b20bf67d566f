use Rattle.std.proofs.Common.{◌≡◌, [], take, drop}
use Rattle.carry.specs.Planting.{plant_says, plant_leaves}
use Rattle.carry.proofs.planting.plant.Given as goal

-- what is still to come leads to the same answer and the same document
abbrev pub invariant-loop-place : goal.invariant-loop-place
invariant-loop-place g l =
    (g.S.Reading.limit l.store ≡ g.S.Reading.limit l.initial.store)
    × (plant_says (g.S.Reading.limit l.initial.store) l.parent l.left (take l.place l.rows) (drop l.place l.rows) (g.S.Reading.forest l.store)
    ≡ plant_says (g.S.Reading.limit l.initial.store) l.parent l.left [] l.rows (g.S.Reading.forest l.initial.store))
    × (plant_leaves (g.S.Reading.limit l.initial.store) l.parent l.left (take l.place l.rows) (drop l.place l.rows) (g.S.Reading.forest l.store)
    ≡ plant_leaves (g.S.Reading.limit l.initial.store) l.parent l.left [] l.rows (g.S.Reading.forest l.initial.store))
