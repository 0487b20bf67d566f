use Rattle.std.proofs.Common.{◌≡◌, ℕ, ◌+◌, cond, length, sym, ◌∙◌, subst, arith}
use Rattle.std.proofs.lemmas.Bool.{not-true, not-false}
use Rattle.document.specs.Table.{is_attribute}
use Rattle.flat.specs.Means.{at}
use Rattle.flat.specs.Walks.{Walked}
use Rattle.flat.proofs.OfKind.{tests_of}
use Rattle.flat.proofs.Asking.{walk_start, walk_on}
use Rattle.flat.proofs.walks.left_of.Goals as goal
use Rattle.flat.proofs.walks.left_of.Goals.{then-ne, else-ne}

pub loop-child-init : goal.loop-child-init
loop-child-init c = walk_start c.args.rows.now (length c.args.rows.now) (omega arith) c.requires.laid c.requires.plain c.args.place c.requires.within.0 c.requires.within.1

pub loop-child-preserved : goal.loop-child-preserved
loop-child-preserved c =
    let rows = c.args.rows.now in
    let k = c.loop-child.child in
    let w = walk_on rows (length rows) (omega arith) c.requires.laid c.requires.plain c.args.place k c.loop-child.left c.requires.within.0 c.requires.within.1 c.loop-child-test.true c.loop-child.invariant in
    let a = is_attribute (at rows k).node.kind in
    let t = rw ((tests_of (at rows k).node.kind).attribute) at c.ne.ensures in
    let e : cond a c.loop-child.left (at rows k).node.id ≡ c.if-ne.left =
    elim c.if-ne.branch [
      | then-ne u ↦ rw (not-true a (sym t ∙ u.if-ne.true)) (sym u.left-is)
      | else-ne u ↦ rw (not-false a (sym t ∙ u.if-ne.false)) (sym u.left-is)
    ] in
    subst (λ (n : ℕ). Walked rows (length rows) c.args.place (k + (at rows k).size) n) e w
