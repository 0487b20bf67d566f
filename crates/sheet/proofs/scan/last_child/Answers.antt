use Rattle.std.proofs.Common.{rules}
use borrow.Author.Tests.{tests}
use Rattle.std.proofs.lemmas.Iterator.Adapters.{YieldsList-from_rev_slice}
use Rattle.std.proofs.lemmas.Iterator.Search.{find_from_yields_List}
use Rattle.store.proofs.Finding.{last_answered}
use Rattle.store.specs.Listed.{child_row}
use Rattle.sheet.proofs.scan.last_child.Goals as goal

pub returns : goal.returns
returns c =
    last_answered (child_row c.args.parent) 0 c.args.nodes.now c.find-last.result c.map_or.result
    (find_from_yields_List (child_row c.args.parent) _ _ c.find-last.result c.find-last.ensures.ran (YieldsList-from_rev_slice c.args.nodes.now (search rules)) (λ x b q k. search (rules, tests)))
    (search rules)
