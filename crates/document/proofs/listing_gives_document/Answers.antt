use Rattle.document.proofs.Gathering.{listing_gives_document}
use Rattle.document.proofs.listing_gives_document.Goals as goal

pub returns : goal.returns
returns c = listing_gives_document
