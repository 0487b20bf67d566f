use Rattle.std.proofs.Common.{ap, ◌∙◌}
use Rattle.store.specs.Says.{take_says, take_leaves}
use Rattle.linked.specs.Document.{document}
use Rattle.linked.proofs.Storing.{row_told}
use Rattle.linked.proofs.linked_store.LinkedStore.take_out.Goals as goal

pub take_row-requires : goal.take_row-requires
take_row-requires c =
    let r = row_told (document c.args.self.now) c.args.id c.in-Ok.row c.in-Ok.ensures in
    record { says = ap (take_says (document c.args.self.now)) r.0 ∙ c.requires; there = r.1 }

pub returns-in-Ok : goal.returns-in-Ok
returns-in-Ok c =
    let r = row_told (document c.args.self.now) c.args.id c.in-Ok.row c.in-Ok.ensures in
    record { leaves = c.take_row.ensures.leaves ∙ ap (take_leaves (document c.args.self.now)) r.0; room = c.take_row.ensures.room }
