use Rattle.std.proofs.Common.{cond, List, sym, ◌∙◌, subst}
use Rattle.std.proofs.lemmas.Bool.{cond-true, cond-false}
use Rattle.records.specs.declared.operations.Code.TheVariants.{InsertAfter}
use Rattle.changes.specs.Changes.{Change, ◌⊕◌}
use Rattle.changes.specs.Reduced.{insertion}
use Rattle.reduce.specs.Lists.{changes}
use Rattle.reduce.specs.Mirror.{group, goes, departure, left_inside}
use Rattle.reduce.specs.Output.{RoomFor}
use Rattle.reduce.proofs.Adding.{gathered_two}
use Rattle.reduce.proofs.Growing.{grown_as, grown_then, fits_first, fits_then}
use Rattle.reduce.proofs.tables.Tables.left_on.Goals as goal

pub insert-requires : goal.insert-requires
insert-requires c =
    let l : List Change = changes c.args.list.now in
    let t = c.args.target in
    let G = group l c.args.behind.target c.args.behind.code in
    let H = group l c.args.below.target c.args.below.code in
    let A = insertion t InsertAfter (group l t InsertAfter ⊕ G) in
    let C = cond (goes l t) (departure l t) (left_inside l t H) in
    subst (RoomFor c.args.self.now.used) (gathered_two t InsertAfter (group l t InsertAfter) G) (fits_first c.args.self.now A C c.requires)

pub depart-requires : goal.depart-requires
depart-requires c =
    let l : List Change = changes c.args.list.now in
    let t = c.args.target in
    let G = group l c.args.behind.target c.args.behind.code in
    let H = group l c.args.below.target c.args.below.code in
    let A = insertion t InsertAfter (group l t InsertAfter ⊕ G) in
    let C = cond (goes l t) (departure l t) (left_inside l t H) in
    let a = grown_as c.args.self.now c.insert.new.self _ _ (sym (gathered_two t InsertAfter (group l t InsertAfter) G)) c.insert.ensures in
    subst (RoomFor c.insert.new.self.used) (cond-true (goes l t) (departure l t) (left_inside l t H) (sym c.goes.ensures ∙ c.if-goes.true))
    (fits_then c.args.self.now c.insert.new.self A C a c.requires)

pub left_inside-requires : goal.left_inside-requires
left_inside-requires c =
    let l : List Change = changes c.args.list.now in
    let t = c.args.target in
    let G = group l c.args.behind.target c.args.behind.code in
    let H = group l c.args.below.target c.args.below.code in
    let A = insertion t InsertAfter (group l t InsertAfter ⊕ G) in
    let C = cond (goes l t) (departure l t) (left_inside l t H) in
    let a = grown_as c.args.self.now c.insert.new.self _ _ (sym (gathered_two t InsertAfter (group l t InsertAfter) G)) c.insert.ensures in
    subst (RoomFor c.insert.new.self.used) (cond-false (goes l t) (departure l t) (left_inside l t H) (sym c.goes.ensures ∙ c.if-goes.false))
    (fits_then c.args.self.now c.insert.new.self A C a c.requires)

pub returns-then-goes : goal.returns-then-goes
returns-then-goes c =
    let l : List Change = changes c.args.list.now in
    let t = c.args.target in
    let G = group l c.args.behind.target c.args.behind.code in
    let H = group l c.args.below.target c.args.below.code in
    let A = insertion t InsertAfter (group l t InsertAfter ⊕ G) in
    let C = cond (goes l t) (departure l t) (left_inside l t H) in
    let a = grown_as c.args.self.now c.insert.new.self _ _ (sym (gathered_two t InsertAfter (group l t InsertAfter) G)) c.insert.ensures in
    grown_then c.args.self.now c.insert.new.self c.depart.new.self A C a
    (grown_as c.insert.new.self c.depart.new.self _ _ (sym (cond-true (goes l t) (departure l t) (left_inside l t H) (sym c.goes.ensures ∙ c.if-goes.true))) c.depart.ensures)

pub returns-else-goes : goal.returns-else-goes
returns-else-goes c =
    let l : List Change = changes c.args.list.now in
    let t = c.args.target in
    let G = group l c.args.behind.target c.args.behind.code in
    let H = group l c.args.below.target c.args.below.code in
    let A = insertion t InsertAfter (group l t InsertAfter ⊕ G) in
    let C = cond (goes l t) (departure l t) (left_inside l t H) in
    let a = grown_as c.args.self.now c.insert.new.self _ _ (sym (gathered_two t InsertAfter (group l t InsertAfter) G)) c.insert.ensures in
    grown_then c.args.self.now c.insert.new.self c.left_inside.new.self A C a
    (grown_as c.insert.new.self c.left_inside.new.self _ _ (sym (cond-false (goes l t) (departure l t) (left_inside l t H) (sym c.goes.ensures ∙ c.if-goes.false))) c.left_inside.ensures)
