use Rattle.changes.proofs.Concluding.{inverse_of_reduced}
use Rattle.changes.proofs.reduced_list_has_the_same_inverse.Goals as goal

pub returns : goal.returns
returns c = inverse_of_reduced
