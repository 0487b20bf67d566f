use Rattle.nodetable.proofs.Elements.{opens, opens_none}
use Rattle.nodetable.proofs.open_elements.OpenElements.push.Goals as goal

pub returns-then-self-clause-open : goal.returns-then-self-clause-open
returns-then-self-clause-open c = let me = c.args.self.now in opens me.count me.slots.now _ c.if-self.true

pub returns-else-self-clause-open : goal.returns-else-self-clause-open
returns-else-self-clause-open c = let me = c.args.self.now in opens_none me.count c.args.id me.slots.now me.within c.if-self.false
