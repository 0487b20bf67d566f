use Rattle.std.proofs.Common.{cond, List, [], ◌++◌, sym, ap, ◌∙◌, subst}
use Rattle.std.proofs.lemmas.Bool.{cond-true, cond-false}
use Rattle.document.specs.Tree.{Forest}
use Rattle.changes.specs.Changes.{Change}
use Rattle.walk.specs.Ahead.{attributes_of}
use Rattle.reduce.specs.Lists.{changes}
use Rattle.reduce.specs.Mirror.{group, goes, left_on, left_on_attributes}
use Rattle.reduce.specs.Output.{RoomFor}
use Rattle.reduce.proofs.Growing.{grown_as, grown_then, fits_first, fits_then}
use Rattle.reduce.proofs.Stepping.{append-nil, left_here}
use Rattle.reduce.proofs.reducing.reduce_node.Goals as goal

pub left_on-requires : goal.left_on-requires
left_on-requires g c =
    let d : Forest = g.R.Reading.forest c.args.store.now in
    let l : List Change = changes c.args.list.now in
    let L = left_on l c.args.id (group l c.gap_key-beyond.result.target c.gap_key-beyond.result.code) (group l c.gap_key-below.result.target c.gap_key-below.result.code) in
    let rest = left_on_attributes l (attributes_of d c.args.id) in
    let A : List Change = cond (goes l c.args.id) [] rest in
    let e = left_here d c.kept.ensures.shape l c.args.id c.next_sibling.result c.parent.result c.first_child.result c.gap_key-beyond.result c.gap_key-below.result c.requires.walks c.requires.node
    c.next_sibling.ensures c.parent.ensures c.first_child.ensures c.gap_key-beyond.ensures c.gap_key-below.ensures in
    fits_first c.args.tables.now L A (subst (RoomFor c.args.tables.now.used) e c.requires.fits)

pub reduce_attributes-requires : goal.reduce_attributes-requires
reduce_attributes-requires g c =
    let d : Forest = g.R.Reading.forest c.args.store.now in
    let l : List Change = changes c.args.list.now in
    let L = left_on l c.args.id (group l c.gap_key-beyond.result.target c.gap_key-beyond.result.code) (group l c.gap_key-below.result.target c.gap_key-below.result.code) in
    let rest = left_on_attributes l (attributes_of d c.args.id) in
    let A : List Change = cond (goes l c.args.id) [] rest in
    let e = left_here d c.kept.ensures.shape l c.args.id c.next_sibling.result c.parent.result c.first_child.result c.gap_key-beyond.result c.gap_key-below.result c.requires.walks c.requires.node
    c.next_sibling.ensures c.parent.ensures c.first_child.ensures c.gap_key-beyond.ensures c.gap_key-below.ensures in
    let f = fits_then c.args.tables.now c.left_on.new.self L A c.left_on.ensures (subst (RoomFor c.args.tables.now.used) e c.requires.fits) in
    record {
      walks = c.requires.walks;
      node = c.requires.node;
      fits = subst (RoomFor c.left_on.new.self.used) (cond-false (goes l c.args.id) [] rest (sym c.goes.ensures ∙ c.if-not-goes.true)) f;
    }

pub returns-then-not-goes : goal.returns-then-not-goes
returns-then-not-goes g c =
    let d : Forest = g.R.Reading.forest c.args.store.now in
    let l : List Change = changes c.args.list.now in
    let L = left_on l c.args.id (group l c.gap_key-beyond.result.target c.gap_key-beyond.result.code) (group l c.gap_key-below.result.target c.gap_key-below.result.code) in
    let rest = left_on_attributes l (attributes_of d c.args.id) in
    let A : List Change = cond (goes l c.args.id) [] rest in
    let e = left_here d c.kept.ensures.shape l c.args.id c.next_sibling.result c.parent.result c.first_child.result c.gap_key-beyond.result c.gap_key-below.result c.requires.walks c.requires.node
    c.next_sibling.ensures c.parent.ensures c.first_child.ensures c.gap_key-beyond.ensures c.gap_key-below.ensures in
    let a = grown_as c.left_on.new.self c.reduce_attributes.new.tables _ _ (sym (cond-false (goes l c.args.id) [] rest (sym c.goes.ensures ∙ c.if-not-goes.true))) c.reduce_attributes.ensures in
    grown_as c.args.tables.now c.reduce_attributes.new.tables _ _ (sym e) (grown_then c.args.tables.now c.left_on.new.self c.reduce_attributes.new.tables L A c.left_on.ensures a)

pub returns-else-not-goes : goal.returns-else-not-goes
returns-else-not-goes g c =
    let d : Forest = g.R.Reading.forest c.args.store.now in
    let l : List Change = changes c.args.list.now in
    let L = left_on l c.args.id (group l c.gap_key-beyond.result.target c.gap_key-beyond.result.code) (group l c.gap_key-below.result.target c.gap_key-below.result.code) in
    let rest = left_on_attributes l (attributes_of d c.args.id) in
    let A : List Change = cond (goes l c.args.id) [] rest in
    let e = left_here d c.kept.ensures.shape l c.args.id c.next_sibling.result c.parent.result c.first_child.result c.gap_key-beyond.result c.gap_key-below.result c.requires.walks c.requires.node
    c.next_sibling.ensures c.parent.ensures c.first_child.ensures c.gap_key-beyond.ensures c.gap_key-below.ensures in
    let none = ap (λ (m : List Change). L ++ m) (cond-true (goes l c.args.id) [] rest (sym c.goes.ensures ∙ c.if-not-goes.false)) ∙ append-nil L in
    grown_as c.args.tables.now c.left_on.new.self _ _ (sym (e ∙ none)) c.left_on.ensures
