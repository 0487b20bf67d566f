use Rattle.std.proofs.Common.{◌≡◌, ◌<◌, ◌≤◌, ◌+◌, ◌-◌, length, rules, tests, arith, ◌∙◌, length-take-le}
use Rattle.std.proofs.lemmas.List.{get_or-take}
use Rattle.flat.specs.Means.{no_row}
use Rattle.flat.proofs.Steps.{taken_from, part_was, part_long}
use Rattle.flat.proofs.shifts.take_out.Goals as goal

pub returns : goal.returns
returns c =
    let R = c.args.rows.now in
    let n = c.args.used in
    let i = c.args.gone in
    let B = c.change_each.new.table in
    let u = c.change_each.ensures in
    let w = c.change_each-2.ensures in
    let b : i < n = c.requires.within.0 in
    let h : n ≤ length R = c.requires.within.1 in
    let s : i ≤ i + 1 = omega arith in
    let v : i + 1 ≤ n = omega arith in
    let l : length B ≡ i = u.long ∙ length-take-le i R (omega arith) in
    let k : length c.change_each-2.new.table ≡ n - (i + 1) = w.long ∙ part_long no_row R B i (i + 1) n s v h l in
    taken_from R B c.change_each-2.new.table c.copy_within.new.self n i b h l k c.copy_within.ensures.len
    (λ m a. let z = u.each m no_row (omega (arith, u.long, l)) in search (rules, tests, z, get_or-take i R m no_row a))
    (λ m a. let z = w.each m no_row (omega (arith, w.long, k)) in search (rules, tests, z, part_was no_row R B i (i + 1) n s v h l m a))
    c.copy_within.ensures.by_index.0 c.copy_within.ensures.by_index.1
