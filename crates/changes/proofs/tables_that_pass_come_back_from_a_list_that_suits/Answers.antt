use Rattle.changes.proofs.Passage.{passing_suits, changes_give_tables}
use Rattle.changes.proofs.tables_that_pass_come_back_from_a_list_that_suits.Goals as goal

pub returns : goal.returns
returns c = λ room d ops xs single h. let u = changes_give_tables room d ops xs single h in (passing_suits room d ops xs single h, u.0, u.1)
