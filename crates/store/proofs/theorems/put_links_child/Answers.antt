use Rattle.store.proofs.Linking.{put_links_child}
use Rattle.store.proofs.theorems.put_links_child.Goals as goal

pub returns : goal.returns
returns c = put_links_child
