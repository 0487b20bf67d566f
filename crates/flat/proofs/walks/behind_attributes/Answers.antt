use Rattle.std.proofs.Common.{◌≡◌, ◌+◌, Bool, List, length, drop, take, rules, tests, arith, ◌∙◌}
use Rattle.std.specs.List.{prefix_len}
use Rattle.std.proofs.lemmas.Iterator.{YieldsList-from_slice}
use Rattle.std.proofs.lemmas.Iterator.Consumers.{count_from_yields_List, YieldsList-at}
use Rattle.std.proofs.lemmas.Iterator.Search.{YieldsList-from_take_while}
use Rattle.std.proofs.lemmas.Slice.{between_to_end}
use Rattle.std.proofs.lemmas.List.Folds.{length-prefix_len}
use Rattle.flat.specs.declared.rows.FlatRow.{FlatRow}
use Rattle.flat.specs.Means.{at}
use Rattle.flat.specs.Walks.{passes}
use Rattle.flat.proofs.Asking.{behind_from}
use Rattle.flat.proofs.walks.behind_attributes.Goals as goal

pub returns : goal.returns
returns c =
    let rows = c.args.rows.now in
    let i = c.args.place in
    let test : FlatRow → Bool = λ r. passes (at rows i).node.id c.args.bound r.node in
    let behind : List FlatRow = drop (i + 1) rows in
    let counted : c.count-attributes.result ≡ length (take (prefix_len test behind) behind) =
    count_from_yields_List c.take_while.result c.count-attributes.result c.count-attributes.ensures.ran
    (YieldsList-from_take_while _ test (YieldsList-at c.take_while.ensures.source (YieldsList-from_slice behind (c.iter.ensures.rest ∙ between_to_end rows (i + 1) (length rows) (omega arith)))) c.take_while.ensures.closure c.take_while.ensures.done
    (λ x r q k. search (rules, tests))) in
    behind_from rows i (at rows i).node.id c.args.bound c.count-attributes.result c.requires (counted ∙ length-prefix_len test behind)
