use Rattle.std.proofs.Common.{ℕ, Option, sym, refl, ap}
use Rattle.records.specs.declared.operations.Code.TheVariants.{Rename}
use Rattle.records.specs.declared.operations.Operation.{Operation}
use Rattle.document.specs.Tree.{nil}
use Rattle.changes.specs.Changes.{Change, name_given}
use Rattle.changes.specs.Reduced.{new_name}
use Rattle.reduce.proofs.Scanning.{name_found, none_found}
use Rattle.reduce.proofs.Growing.{grown_none, grown_as, grown_plain}
use Rattle.reduce.proofs.tables.Tables.put_name.Goals as goal

pub returns-in-Some : goal.returns-in-Some
returns-in-Some c =
    let list = c.args.list.now in
    let found = name_found c.args.target Rename list.operations.now list.nodes.now c.in-Some.field-0 c.in-Some.ensures in
    let pushed = ap (λ (b : Operation). let y : Operation = record { target = b.target; code = b.code; count = b.count; name = c.in-Some.field-0.name; value = b.value } in y) c.bare.ensures in
    grown_as c.args.self.now c.push.new.self _ _ (ap (λ (o : Option ℕ). new_name c.args.target o) (sym found))
    (grown_plain c.args.self.now c.push.new.self (record { target = c.args.target; code = Rename; nodes = nil; name = c.in-Some.field-0.name; value = 0 }) _ refl pushed c.push.ensures)

pub returns-in_default : goal.returns-in_default
returns-in_default c =
    let list = c.args.list.now in
    let none = none_found c.args.target Rename list.operations.now list.nodes.now c.in_default.ensures in
    grown_as c.args.self.now c.args.self.now _ _ (ap (λ (o : Option Change). new_name c.args.target (name_given o)) (sym none)) (grown_none c.args.self.now)
