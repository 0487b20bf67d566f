use Rattle.std.proofs.Common.{rules, tests, ◌∙◌}
use Rattle.std.proofs.lemmas.Iterator.Consumers.{YieldsList-from_first}
use Rattle.std.proofs.lemmas.Iterator.Search.{position_from_yields_List}
use Rattle.reader.specs.Bytes.{records}
use Rattle.reader.specs.Due.{left}
use Rattle.reader.specs.Reading.{ill_built}
use Rattle.reader.proofs.Due.{structure_of_due}
use Rattle.reader.proofs.reading.first_ill_built.Goals as goal

pub returns : goal.returns
returns c =
    position_from_yields_List (λ x. ill_built x.0 x.1 x.2) c.position.new.self _ c.position.result c.position.ensures.ran
    (YieldsList-from_first (λ x. x) left _ c.due_records.ensures.records) (λ x b q k. search (rules, tests))
    ∙ structure_of_due 0 (records c.args.bytes.now)
