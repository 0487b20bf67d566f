use Rattle.std.proofs.Common.{rules}
use borrow.Author.Tests.{tests}
use Rattle.std.proofs.lemmas.Iterator.{YieldsList-from_slice}
use Rattle.std.proofs.lemmas.Iterator.Search.{find_from_yields_List}
use Rattle.store.proofs.Finding.{first_answered}
use Rattle.sheet.specs.Below.{below_row}
use Rattle.sheet.proofs.scan.first_of.Goals as goal

pub returns : goal.returns
returns c =
    first_answered (below_row c.args.below c.args.parent) c.args.nodes.now c.find-first.result c.map_or.result
    (find_from_yields_List (below_row c.args.below c.args.parent) _ _ c.find-first.result c.find-first.ensures.ran (YieldsList-from_slice c.args.nodes.now (search rules)) (λ x b q k. search (rules, tests)))
    (search rules)
