use Rattle.std.proofs.Common.{ℕ, List, refl, subst, arith}
use Rattle.document.specs.Tree.{Forest}
use Rattle.changes.specs.Changes.{Change}
use Rattle.walk.specs.Ahead.{ahead, over}
use Rattle.reduce.specs.Lists.{changes}
use Rattle.reduce.specs.Mirror.{left_ahead, reduced_row}
use Rattle.reduce.specs.Output.{RoomFor}
use Rattle.reduce.proofs.Growing.{fits_first, growing_begins, growing_on, growing_ends}
use Rattle.reduce.proofs.Stepping.{node_reduced, begins, ends}
use Rattle.reduce.proofs.reducing.reduce_all.Goals as goal

pub loop-id-init : goal.loop-id-init
loop-id-init g c =
    let u = begins (g.R.Reading.forest c.args.store.now) c.kept.ensures.shape (changes c.args.list.now) c.root-id.result c.root-id.ensures in
    (u.0, growing_begins c.args.tables.now _ _ u.1 c.requires)

pub reduce_node-requires : goal.reduce_node-requires
reduce_node-requires g c =
    let d : Forest = g.R.Reading.forest c.args.store.now in
    let l : List Change = changes c.args.list.now in
    let u = node_reduced d c.kept.ensures.shape l c.loop-id.id _ c.loop-id.invariant.0 c.loop-id-test.true refl in
    record {
      walks = c.loop-id.invariant.0;
      node = omega arith;
      fits = fits_first c.loop-id.tables (left_ahead l (ahead d c.loop-id.id)) _ (subst (RoomFor c.loop-id.tables.used) u.all c.loop-id.invariant.1.fits);
    }

pub loop-id-smaller : goal.loop-id-smaller
loop-id-smaller g c =
    (node_reduced (g.R.Reading.forest c.args.store.now) c.kept.ensures.shape (changes c.args.list.now) c.loop-id.id c.next-id.result c.loop-id.invariant.0
    c.loop-id-test.true c.next-id.ensures).less

pub loop-id-preserved : goal.loop-id-preserved
loop-id-preserved g c =
    let d : Forest = g.R.Reading.forest c.args.store.now in
    let l : List Change = changes c.args.list.now in
    let y : ℕ = c.next-id.result in
    let u = node_reduced d c.kept.ensures.shape l c.loop-id.id y c.loop-id.invariant.0 c.loop-id-test.true c.next-id.ensures in (
      u.walks,
      growing_on c.args.tables.now c.loop-id.tables c.reduce_node.new.tables _ _ (left_ahead l (ahead d c.loop-id.id)) (over (reduced_row l) (ahead d y)) u.all
          c.loop-id.invariant.1 c.reduce_node.ensures,
    )

pub returns : goal.returns
returns g c =
    let none = ends (g.R.Reading.forest c.args.store.now) c.kept.ensures.shape (changes c.args.list.now) c.loop-id.id c.loop-id-test.false in
    growing_ends c.args.tables.now c.loop-id.tables _ _ none c.loop-id.invariant.1
