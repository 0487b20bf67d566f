use Rattle.store.specs.Says.{put_leaves}
use Rattle.linked.specs.Stores.{Holds}
use Rattle.linked.specs.Document.{document, limit_of}
use Rattle.linked.proofs.Holding.{stands_for_one, stands_for}
use Rattle.linked.proofs.Storing.{put_stored}
use Rattle.linked.proofs.linked_store.LinkedStore.put_in.Goals as goal

stored : (c : goal.After-root_after-self) → ∥ Holds c.link_in.new.self c.root_after-self.result (put_leaves (limit_of c.args.self.now) (document c.args.self.now) c.args.node c.args.left) ∥₁
stored c =
    put_stored c.args.self.now c.args.node c.args.left c.requires c.link_in.new.self c.of-among.result c.neighbours-before.result c.among-row.result c.root_after-self.result
    c.of-among.ensures c.neighbours-before.ensures c.among-row.ensures c.root_after-self.ensures c.link_in.ensures.shows

pub invariant_of-self : goal.invariant_of-self
invariant_of-self c = record { stands = stands_for_one c.link_in.new.self _ _ (stored c) }

pub returns-clause-leaves : goal.returns-clause-leaves
returns-clause-leaves c = stands_for c.before.link_in.new.self _ _ _ (stored c.before)
