use Rattle.std.proofs.Common.{◌≡◌, ◌≤◌, ◌-◌, length, rules, tests, arith, ◌∙◌}
use Rattle.std.proofs.lemmas.List.{get_or-take, length-take-le}
use Rattle.flat.specs.Means.{no_row}
use Rattle.flat.proofs.Steps.{planted_from, part_was, part_long}
use Rattle.flat.proofs.shifts.put_in.Goals as goal

pub returns : goal.returns
returns c =
    let R = c.args.rows.now in
    let n = c.args.used in
    let i = c.args.spot.place in
    let B = c.change_each.new.table in
    let u = c.change_each.ensures in
    let w = c.change_each-2.ensures in
    let h : n ≤ length R = omega arith in
    let s : i ≤ i = omega arith in
    let l : length B ≡ i = u.long ∙ length-take-le i R (omega arith) in
    let k : length c.change_each-2.new.table ≡ n - i = w.long ∙ part_long no_row R B i i n s c.requires.within.1 h l in
    planted_from R B c.change_each-2.new.table c.copy_within.new.self n i c.args.spot.parent c.args.node c.requires.within.1 c.requires.within.2 l k c.copy_within.ensures.len
    (λ m a. let z = u.each m no_row (omega (arith, u.long, l)) in search (rules, tests, z, get_or-take i R m no_row a))
    (λ m a. let z = w.each m no_row (omega (arith, w.long, k)) in search (rules, tests, z, part_was no_row R B i i n s c.requires.within.1 h l m a))
    c.copy_within.ensures.by_index.0 c.copy_within.ensures.by_index.1
