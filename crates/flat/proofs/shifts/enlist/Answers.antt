use Rattle.std.proofs.Common.{◌≡◌, ◌++◌, length, take, drop, rules, tests, arith, ◌∙◌}
use Rattle.std.proofs.lemmas.List.{get_or-take, length-take-le}
use Rattle.flat.specs.Means.{no_entry}
use Rattle.flat.specs.Shifts.{raised}
use Rattle.flat.proofs.Steps.{changed_front}
use Rattle.flat.proofs.shifts.enlist.Goals as goal

pub returns : goal.returns
returns c =
    let X = c.args.index.now in
    let n = c.args.used in
    let w = c.change_each.ensures in
    let l : length (take n X) ≡ n = length-take-le n X c.requires.within in (
      c.change_each.new.table ++ drop n X,
      c.insert.result,
      changed_front no_entry X c.change_each.new.table n c.requires.within (w.long ∙ l) (λ _. raised c.args.entry.row)
          (λ m b. let z = w.each m no_entry (omega arith) in search (rules, tests, z, get_or-take n X m no_entry b)),
      c.insert.ensures.moves,
      c.insert.ensures.order,
    )
