use Rattle.changes.proofs.Overruling.{rule_found, rule_overrides}
use Rattle.changes.proofs.overridden_exactly_by_the_rules.Goals as goal

pub returns : goal.returns
returns c = λ d l e o. (rule_found d l e o, rule_overrides d l e o)
