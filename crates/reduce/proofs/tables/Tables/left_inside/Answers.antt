use Rattle.std.proofs.Common.{List, ◌++◌, sym, subst}
use Rattle.records.specs.declared.operations.Code.TheVariants.{InsertAttributes}
use Rattle.changes.specs.Changes.{Change}
use Rattle.changes.specs.Reduced.{insertion, new_value, new_name}
use Rattle.reduce.specs.Lists.{changes}
use Rattle.reduce.specs.Mirror.{group, value_on, name_on}
use Rattle.reduce.specs.Output.{RoomFor}
use Rattle.reduce.proofs.Adding.{gathered_one}
use Rattle.reduce.proofs.Growing.{grown_as, grown_then, fits_first, fits_then}
use Rattle.reduce.proofs.Inside.{unless_replaced, new_content}
use Rattle.reduce.proofs.tables.Tables.left_inside.Goals as goal

pub insert-requires : goal.insert-requires
insert-requires c =
    let l : List Change = changes c.args.list.now in
    let t = c.args.target in
    let A = unless_replaced l t (group l c.args.below.target c.args.below.code) in
    let B = insertion t InsertAttributes (group l t InsertAttributes) in
    let V = new_value t (value_on l t) in
    let D = new_content l t in
    let N = new_name t (name_on l t) in
    let f = fits_then c.args.self.now c.insert_first.new.self A (B ++ (V ++ (D ++ N))) c.insert_first.ensures c.requires in
    subst (RoomFor c.insert_first.new.self.used) (gathered_one t InsertAttributes (group l t InsertAttributes)) (fits_first c.insert_first.new.self B (V ++ (D ++ N)) f)

pub put_content-requires : goal.put_content-requires
put_content-requires c =
    let l : List Change = changes c.args.list.now in
    let t = c.args.target in
    let A = unless_replaced l t (group l c.args.below.target c.args.below.code) in
    let B = insertion t InsertAttributes (group l t InsertAttributes) in
    let V = new_value t (value_on l t) in
    let D = new_content l t in
    let N = new_name t (name_on l t) in
    let f = fits_then c.args.self.now c.insert_first.new.self A (B ++ (V ++ (D ++ N))) c.insert_first.ensures c.requires in
    let b = grown_as c.insert_first.new.self c.insert.new.self _ _ (sym (gathered_one t InsertAttributes (group l t InsertAttributes))) c.insert.ensures in
    let g = fits_then c.insert_first.new.self c.insert.new.self B (V ++ (D ++ N)) b f in
    let h = fits_then c.insert.new.self c.put_value.new.self V (D ++ N) c.put_value.ensures g in
    fits_first c.put_value.new.self D N h

pub returns : goal.returns
returns c =
    let l : List Change = changes c.args.list.now in
    let t = c.args.target in
    let A = unless_replaced l t (group l c.args.below.target c.args.below.code) in
    let B = insertion t InsertAttributes (group l t InsertAttributes) in
    let V = new_value t (value_on l t) in
    let D = new_content l t in
    let N = new_name t (name_on l t) in
    let b = grown_as c.insert_first.new.self c.insert.new.self _ _ (sym (gathered_one t InsertAttributes (group l t InsertAttributes))) c.insert.ensures in
    let end = c.put_name.new.self in
    grown_then c.args.self.now c.insert_first.new.self end A (B ++ (V ++ (D ++ N))) c.insert_first.ensures
    (grown_then c.insert_first.new.self c.insert.new.self end B (V ++ (D ++ N)) b
    (grown_then c.insert.new.self c.put_value.new.self end V (D ++ N) c.put_value.ensures
    (grown_then c.put_value.new.self c.put_content.new.self end D N c.put_content.ensures c.put_name.ensures)))
