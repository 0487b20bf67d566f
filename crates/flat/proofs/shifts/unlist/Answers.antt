use Rattle.std.proofs.Common.{◌≡◌, ◌++◌, eqb, length, take, drop, rules, tests, arith, ◌∙◌}
use Rattle.std.proofs.lemmas.Iterator.{YieldsList-from_slice}
use Rattle.std.proofs.lemmas.Iterator.Search.{position_from_yields_List}
use Rattle.std.proofs.lemmas.List.{get_or-take, length-take-le}
use Rattle.ordered.specs.declared.entries.RowOf.{RowOf}
use Rattle.flat.specs.Means.{no_entry}
use Rattle.flat.specs.Shifts.{lowered}
use Rattle.flat.proofs.Steps.{changed_front, place_found}
use Rattle.flat.proofs.shifts.unlist.Goals as goal

pub returns : goal.returns
returns c =
    let X = c.args.index.now in
    let n = c.args.used in
    let w = c.change_each.ensures in
    let l : length (take n X) ≡ n = length-take-le n X c.requires in
    let p = position_from_yields_List (λ (x : RowOf). eqb x.row c.args.gone) _ _ c.position.result c.position.ensures.ran (YieldsList-from_slice (take n X) c.iter.ensures.rest) (λ x b q k. search (rules, tests)) in
    let found = place_found X n c.args.gone c.position.result c.unwrap_or-place.result c.requires p c.unwrap_or-place.ensures in (
      c.change_each.new.table ++ drop n X,
      c.unwrap_or-place.result,
      c.remove.result,
      record {
        changed = changed_front no_entry X c.change_each.new.table n c.requires (w.long ∙ l) (λ _. lowered c.args.gone)
            (λ m b. let z = w.each m no_entry (omega arith) in search (rules, tests, z, get_or-take n X m no_entry b));
        found = found.0;
        missed = found.1;
      },
      c.remove.ensures.moves,
    )
