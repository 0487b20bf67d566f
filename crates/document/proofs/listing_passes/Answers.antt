use Rattle.document.proofs.Passes.{listing_passes}
use Rattle.document.proofs.listing_passes.Goals as goal

pub returns : goal.returns
returns c = listing_passes
