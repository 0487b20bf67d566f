use Rattle.std.proofs.Common.{◌∙◌, sym, rules, tests}
use Rattle.std.proofs.lemmas.Iterator.Adapters.{YieldsList-from_rev_slice}
use Rattle.std.proofs.lemmas.Iterator.Search.{position_from_yields_List}
use Rattle.nodetable.proofs.Elements.{is_slot_of, open_from_found, none_open}
use Rattle.nodetable.proofs.opening.still_open.Goals as goal

pub returns-in-Some-clause-kept : goal.returns-in-Some-clause-kept
returns-in-Some-clause-kept c =
    open_from_found c.args.parent c.args.elements.now c.in-Some.inside
    (sym c.in-Some.is ∙ position_from_yields_List (is_slot_of c.args.parent) _ _ c.position.result c.position.ensures.ran (YieldsList-from_rev_slice c.args.elements.now (search rules)) (λ x b q k. search (rules, tests)))

pub returns-in-None-clause-kept : goal.returns-in-None-clause-kept
returns-in-None-clause-kept c =
    none_open c.args.parent c.args.elements.now
    (sym c.in-None.is ∙ position_from_yields_List (is_slot_of c.args.parent) _ _ c.position.result c.position.ensures.ran (YieldsList-from_rev_slice c.args.elements.now (search rules)) (λ x b q k. search (rules, tests)))
