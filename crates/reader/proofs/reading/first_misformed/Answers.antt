use Rattle.std.proofs.Common.{rules, tests, not, ◌∙◌}
use Rattle.std.proofs.lemmas.Iterator.Consumers.{YieldsList-from_first}
use Rattle.std.proofs.lemmas.Iterator.Search.{position_from_yields_List}
use Rattle.reader.specs.Bytes.{records}
use Rattle.reader.specs.Due.{left}
use Rattle.reader.specs.Reading.{spells}
use Rattle.reader.proofs.Due.{misformed_of_due}
use Rattle.reader.proofs.reading.first_misformed.Goals as goal

pub returns : goal.returns
returns c =
    position_from_yields_List (λ x. not (spells x.0 x.1)) c.position.new.self _ c.position.result c.position.ensures.ran
    (YieldsList-from_first (λ x. x) left _ c.due_records.ensures.records) (λ x b q k. search (rules, tests))
    ∙ misformed_of_due c.args.nodes_first (records c.args.bytes.now)
