use Rattle.std.proofs.Common.{rules, sym}
use Rattle.store.specs.Says.{set_value_leaves}
use Rattle.linked.specs.Stores.{Holds}
use Rattle.linked.specs.Document.{document}
use Rattle.linked.specs.Rows.{with_record}
use Rattle.linked.proofs.Holding.{stands_for_one, stands_for}
use Rattle.linked.proofs.Storing.{with_value, value_stored}
use Rattle.linked.proofs.linked_store.writing.LinkedStoreWriting.set_value.Goals as goal

stored : (c : goal.After-change) → ∥ Holds c.change.new.self c.args.self.now.root (set_value_leaves (document c.args.self.now) c.args.id c.args.value) ∥₁
stored c =
    value_stored c.args.self.now c.args.id c.change.new.self c.args.value (sym c.in_ok-test_set_value.ensures)
    (c.change.ensures.shows (with_record (with_value c.args.value)) (λ w r e. search rules))

pub invariant_of-self : goal.invariant_of-self
invariant_of-self c = record { stands = stands_for_one c.change.new.self _ _ (stored c) }

pub returns-clause-leaves : goal.returns-clause-leaves
returns-clause-leaves c = stands_for c.before.change.new.self _ _ _ (stored c.before)
