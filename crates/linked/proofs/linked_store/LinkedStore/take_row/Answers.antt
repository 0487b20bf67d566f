use Rattle.store.specs.Says.{take_leaves}
use Rattle.linked.specs.Stores.{Holds}
use Rattle.linked.specs.Document.{document}
use Rattle.linked.proofs.Holding.{stands_for_one, stands_for}
use Rattle.linked.proofs.Storing.{take_stored}
use Rattle.linked.proofs.linked_store.LinkedStore.take_row.Goals as goal

stored : (c : goal.After-root_after-self) → ∥ Holds c.link_out.new.self c.root_after-self.result (take_leaves (document c.args.self.now) c.args.row.node.id) ∥₁
stored c =
    take_stored c.args.self.now c.args.row c.requires.says c.requires.there c.link_out.new.self c.of-among.result c.sibling_before-before.result c.root_after-self.result
    c.of-among.ensures c.sibling_before-before.ensures c.root_after-self.ensures c.link_out.ensures.shows

pub invariant_of-self : goal.invariant_of-self
invariant_of-self c = record { stands = stands_for_one c.link_out.new.self _ _ (stored c) }

pub returns-clause-leaves : goal.returns-clause-leaves
returns-clause-leaves c = stands_for c.before.link_out.new.self _ _ _ (stored c.before)
