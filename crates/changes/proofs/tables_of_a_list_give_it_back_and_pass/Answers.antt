use Rattle.changes.proofs.Passage.{tables_give_changes, tables_pass}
use Rattle.changes.proofs.tables_of_a_list_give_it_back_and_pass.Goals as goal

pub returns : goal.returns
returns c = λ room d l s. (tables_give_changes room d l s, tables_pass room d l s)
