use Rattle.nodetable.proofs.Elements.{count_is}
use Rattle.nodetable.proofs.open_elements.OpenElements.count.Goals as goal

pub returns : goal.returns
returns c = let me = c.args.self.now in count_is me.count me.slots.now me.within
