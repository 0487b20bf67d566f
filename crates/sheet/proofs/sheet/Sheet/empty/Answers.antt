use Rattle.sheet.proofs.Showing.{none_listed, none_means}
use Rattle.sheet.proofs.sheet.Sheet.empty.Goals as goal

pub invariant_of-result : goal.invariant_of-result
invariant_of-result c = record { listed = ∣ none_listed ∣₁ }

pub returns : goal.returns
returns c = none_means
