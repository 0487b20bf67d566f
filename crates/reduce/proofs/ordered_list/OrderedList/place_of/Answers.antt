use Rattle.std.proofs.Common.{ℕ, length, sym, subst, arith}
use Rattle.ordered.specs.Table.{Ascending, Least}
use Rattle.reduce.specs.Groups.{by_entry}
use Rattle.reduce.proofs.Ordering.{begins}
use Rattle.reduce.proofs.Readied.{ready}
use Rattle.reduce.proofs.ordered_list.OrderedList.place_of.Goals as goal

pub returns : goal.returns
returns c =
    let me = c.args.self.now in
    let es = me.entries.now in
    let up : Ascending by_entry (length es) es = subst (λ (n : ℕ). Ascending by_entry n es) (sym (ready me).long) (ready me).indexed.ascends in
    begins c.args.key.target c.args.key.code me.operations.now es c.find.result up
    (subst (λ (n : ℕ). Least by_entry (length es) es (record { target = c.args.key.target; code = n; position = 0; start = 0 }) c.find.result) c.into.ensures (c.find.ensures.place (omega arith) up))
