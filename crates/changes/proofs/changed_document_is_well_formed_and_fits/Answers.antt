use Rattle.changes.proofs.Concluding.{changed_well_formed, changed_fits_room}
use Rattle.changes.proofs.changed_document_is_well_formed_and_fits.Goals as goal

pub returns : goal.returns
returns c = λ room d l w s. (changed_well_formed room d l w s, changed_fits_room room d l w s)
