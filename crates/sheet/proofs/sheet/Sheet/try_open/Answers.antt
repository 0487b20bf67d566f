use Rattle.std.proofs.Common.{length, sym, ◌∙◌}
use Rattle.sheet.proofs.Showing.{passed_tests}
use Rattle.sheet.proofs.sheet.Sheet.try_open.Goals as goal

pub invariant_of-result : goal.invariant_of-result
invariant_of-result c = record { listed = ∣ passed_tests (length c.args.slots.now) c.args.nodes.now (sym c.test_table.ensures.value ∙ c.in_ok-test_table.was) ∣₁ }
