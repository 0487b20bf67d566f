use Rattle.document.proofs.Scanned.{depths_of_listing}
use Rattle.document.proofs.depths_of_listing.Goals as goal

pub returns : goal.returns
returns c = depths_of_listing
