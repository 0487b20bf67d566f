use Rattle.std.proofs.Common.{rules, sym}
use Rattle.store.specs.Says.{rename_leaves}
use Rattle.linked.specs.Stores.{Holds}
use Rattle.linked.specs.Document.{document}
use Rattle.linked.specs.Rows.{with_record}
use Rattle.linked.proofs.Holding.{stands_for_one, stands_for}
use Rattle.linked.proofs.Storing.{with_name, rename_stored}
use Rattle.linked.proofs.linked_store.writing.LinkedStoreWriting.rename.Goals as goal

stored : (c : goal.After-change) → ∥ Holds c.change.new.self c.args.self.now.root (rename_leaves (document c.args.self.now) c.args.id c.args.name) ∥₁
stored c =
    rename_stored c.args.self.now c.args.id c.change.new.self c.args.name (sym c.in_ok-test_rename.ensures)
    (c.change.ensures.shows (with_record (with_name c.args.name)) (λ w r e. search rules))

pub invariant_of-self : goal.invariant_of-self
invariant_of-self c = record { stands = stands_for_one c.change.new.self _ _ (stored c) }

pub returns-clause-leaves : goal.returns-clause-leaves
returns-clause-leaves c = stands_for c.before.change.new.self _ _ _ (stored c.before)
