use Rattle.std.proofs.Common.{sym, ◌∙◌, arith}
use Rattle.reader.proofs.Accepting.{list_accepted, list_counted}
use Rattle.reader.proofs.lists.test_list.Goals as goal

pub overflow_sub-result : goal.overflow_sub-result
overflow_sub-result c =
    omega (
      arith,
      c.count_operations-operations.ensures,
      list_counted c.args.bytes.now c.in_ok-count.count (sym c.whole_records.ensures ∙ c.in_ok-count.was)
          (λ i. omega (arith, c.type_inv.bytes i)) (sym c.first_misformed.ensures ∙ c.in_default-first_misformed.is),
    )

pub returns : goal.returns
returns c =
    let a = list_accepted c.args.bytes.now c.in_ok-count.count (sym c.whole_records.ensures ∙ c.in_ok-count.was)
    (λ i. omega (arith, c.type_inv.bytes i)) c.count_operations-operations.result c.count_operations-operations.ensures
    (sym c.first_ill_built.ensures ∙ c.in_default.is) (sym c.first_misformed.ensures ∙ c.in_default-first_misformed.is) in
    record { value = a.0; accepted = a.1 }
