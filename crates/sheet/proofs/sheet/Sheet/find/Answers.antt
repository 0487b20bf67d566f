use Rattle.std.proofs.Common.{rules, eqb, sym, ap, subst, ◌∙◌}
use borrow.Author.Tests.{tests}
use Rattle.std.proofs.lemmas.Iterator.{YieldsList-from_slice}
use Rattle.std.proofs.lemmas.Iterator.Search.{position_from_yields_List}
use Rattle.std.specs.Option.{ok_or}
use Rattle.faults.specs.declared.StoreFault.TheVariants.{Absent}
use Rattle.sheet.specs.Sheets.{Found}
use Rattle.sheet.proofs.Showing.{lists, found_at}
use Rattle.sheet.proofs.sheet.Sheet.find.Goals as goal

pub returns : goal.returns
returns c =
    let xs = c.args.self.now.nodes.now in
    let t = c.args.id in
    let p = position_from_yields_List (λ x. eqb x.id t) _ _ c.position-place.result c.position-place.ensures.ran (YieldsList-from_slice xs (search rules)) (λ x b q k. search (rules, tests)) in
    subst (Found xs t) (sym (c.ok_or.ensures.value ∙ ap (λ o. ok_or o Absent) p)) (found_at xs (lists xs c.args.self.now.listed) t)
