use Rattle.std.proofs.Common.{List, sym, ◌∙◌, subst}
use Rattle.records.specs.declared.operations.Code.TheVariants.{InsertFirst, InsertInto, ReplaceContent}
use Rattle.changes.specs.Changes.{Change}
use Rattle.changes.specs.Overriding.{has_change}
use Rattle.reduce.specs.Lists.{changes}
use Rattle.reduce.specs.Mirror.{group}
use Rattle.reduce.specs.Output.{RoomFor}
use Rattle.reduce.proofs.Adding.{gathered_unless}
use Rattle.reduce.proofs.Growing.{grown_as}
use Rattle.reduce.proofs.tables.Tables.insert_first.Goals as goal

pub insert-requires : goal.insert-requires
insert-requires c =
    let l : List Change = changes c.args.list.now in
    let stays = gathered_unless (has_change ReplaceContent c.args.target l) (sym c.has.ensures ∙ c.if-has.false) c.args.target InsertFirst (group l c.args.target InsertFirst)
    (group l c.args.target InsertInto) (group l c.args.below.target c.args.below.code) in
    subst (RoomFor c.args.self.now.used) stays c.requires

pub returns : goal.returns
returns c =
    let l : List Change = changes c.args.list.now in
    let stays = gathered_unless (has_change ReplaceContent c.args.target l) (sym c.has.ensures ∙ c.if-has.false) c.args.target InsertFirst (group l c.args.target InsertFirst)
    (group l c.args.target InsertInto) (group l c.args.below.target c.args.below.code) in
    grown_as c.args.self.now c.insert.new.self _ _ (sym stays) c.insert.ensures
