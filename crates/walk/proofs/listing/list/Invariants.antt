use Rattle.std.proofs.Common.{◌≡◌, ◌+◌, ◌≤◌, length}
use Rattle.std.specs.Iterator.Adapters.{enumerate_source, enumerate_count}
use Rattle.document.specs.Listing.{listing}
use Rattle.walk.specs.Left.{records_left}
use Rattle.walk.specs.Written.{written}
use Rattle.walk.proofs.listing.list.Given as goal

-- what is left is still to be written
abbrev pub invariant-loop-place : goal.invariant-loop-place
invariant-loop-place g l =
    let s = enumerate_source l.place-iterator in
    let left = records_left (g.R.Reading.forest s.store.now) s.attribute s.node in
    let all = listing (g.R.Reading.forest l.store) in
    (goal.iterator-loop-place g).can_next l.place-iterator
    × (goal.iterator-loop-place g).is_finite l.place-iterator
    × (enumerate_count l.place-iterator + length left ≤ length l.nodes)
    × (written l.nodes (enumerate_count l.place-iterator) left ≡ written l.initial.nodes 0 all)
