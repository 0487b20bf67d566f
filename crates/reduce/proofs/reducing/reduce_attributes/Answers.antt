use Rattle.std.proofs.Common.{ℕ, List, ap}
use Rattle.document.specs.Tree.{Forest}
use Rattle.changes.specs.Changes.{Change}
use Rattle.walk.specs.Ahead.{labels_at}
use Rattle.reduce.specs.Lists.{changes}
use Rattle.reduce.specs.Mirror.{left_on_attribute, left_on_attributes}
use Rattle.reduce.proofs.Growing.{growing_begins, growing_on, growing_ends}
use Rattle.reduce.proofs.Stepping.{attributes_begin, attribute_reduced, no_attributes}
use Rattle.reduce.proofs.reducing.reduce_attributes.Goals as goal

pub loop-attribute-init : goal.loop-attribute-init
loop-attribute-init g c =
    let d : Forest = g.R.Reading.forest c.args.store.now in
    let l : List Change = changes c.args.list.now in
    let u = attributes_begin d c.kept.ensures.shape l c.args.id c.first_attribute-attribute.result c.requires.walks c.requires.node c.first_attribute-attribute.ensures in
    (u.0, growing_begins c.args.tables.now _ _ (ap (left_on_attributes l) u.1) c.requires.fits)

pub loop-attribute-smaller : goal.loop-attribute-smaller
loop-attribute-smaller g c =
    (attribute_reduced (g.R.Reading.forest c.args.store.now) c.kept.ensures.shape (changes c.args.list.now) c.args.id c.loop-attribute.attribute
    c.next_attribute-attribute.result c.requires.walks c.requires.node c.loop-attribute.invariant.0 c.loop-attribute-test.true c.next_attribute-attribute.ensures).less

pub loop-attribute-preserved : goal.loop-attribute-preserved
loop-attribute-preserved g c =
    let d : Forest = g.R.Reading.forest c.args.store.now in
    let l : List Change = changes c.args.list.now in
    let a : ℕ = c.loop-attribute.attribute in
    let b : ℕ = c.next_attribute-attribute.result in
    let u = attribute_reduced d c.kept.ensures.shape l c.args.id a b c.requires.walks c.requires.node c.loop-attribute.invariant.0 c.loop-attribute-test.true c.next_attribute-attribute.ensures in (
      u.goes_on,
      growing_on c.args.tables.now c.loop-attribute.tables c.left_on_attribute.new.self _ _ (left_on_attribute l a) (left_on_attributes l (labels_at d b)) u.all
          c.loop-attribute.invariant.1 c.left_on_attribute.ensures,
    )

pub returns : goal.returns
returns g c =
    let l : List Change = changes c.args.list.now in
    let none = no_attributes (g.R.Reading.forest c.args.store.now) c.kept.ensures.shape l c.loop-attribute.attribute c.loop-attribute-test.false in
    growing_ends c.args.tables.now c.loop-attribute.tables _ _ (ap (left_on_attributes l) none) c.loop-attribute.invariant.1
