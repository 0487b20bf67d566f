use Rattle.std.proofs.Common.{rules, tests, ◌==◌, ◌∙◌}
use Rattle.std.proofs.lemmas.Iterator.Consumers.{YieldsList-at, YieldsList-from_first, YieldsList-from_filter, count_from_yields_List}
use Rattle.reader.specs.Bytes.{records}
use Rattle.reader.specs.Due.{left}
use Rattle.reader.proofs.Due.{operations_of_due}
use Rattle.reader.proofs.reading.count_operations.Goals as goal

pub returns : goal.returns
returns c =
    count_from_yields_List c.filter.result c.count.result c.count.ensures.ran
    (YieldsList-from_filter _ (λ x. x.0 == 0) (YieldsList-at c.filter.ensures.source (YieldsList-from_first (λ x. x) left _ c.due_records.ensures.records)) c.filter.ensures.closure (λ x b q k. search (rules, tests)))
    ∙ operations_of_due 0 0 (records c.args.bytes.now) c.requires
