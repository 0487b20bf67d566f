use Rattle.std.proofs.Common.{◌≡◌, ℕ, ◌≤◌, false, ltb, List, ◌++◌, inl, length, drop, sym, refl, ap, ◌∙◌, arith}
use Rattle.std.proofs.lemmas.Bool.{le-ltb}
use Rattle.std.specs.Iterator.Adapters.{enumerate_count}
use Rattle.records.specs.declared.nodes.Node.{Node}
use Rattle.document.specs.Tree.{Forest, size}
use Rattle.document.specs.Listing.{listing}
use Rattle.store.proofs.Neighbours.{size_and_root_are_listed}
use Rattle.walk.specs.Written.{written}
use Rattle.walk.proofs.Adding.{Opens, opens}
use Rattle.walk.proofs.Writing.{written_all}
use Rattle.walk.proofs.listing.list.Goals as goal

pub loop-place-init : goal.loop-place-init
loop-place-init g c =
    let d : Forest = g.R.Reading.forest c.args.store.now in
    let u : Opens d 0 c.root.result = opens d c.kept.ensures.shape c.root.result c.root.ensures in
    let l = ap length u.all in
    let n = (size_and_root_are_listed d).0 in
    rw (c.into_iter-place-iterator.ensures.into_iter_gives, c.enumerate-place-items.ensures.source, c.enumerate-place-items.ensures.count)
    (((u.walks, u.begins), tt, inl (omega (arith, l, n, c.len.ensures, c.len.type_inv))), tt, omega (arith, l, n, c.len.ensures, c.if-nodes-len.false), ap (written c.args.nodes.now 0) u.all)

pub returns-clause-table : goal.returns-clause-table
returns-clause-table g c =
    let d : Forest = g.R.Reading.forest c.args.store.now in
    let xs : List Node = c.args.nodes.now in
    let n = (size_and_root_are_listed d).0 in
    let whole : length (listing d) ≤ length xs = omega (arith, n, c.len.ensures, c.if-nodes-len.false) in
    let fits : ltb (length xs) (size d) ≡ false = le-ltb _ _ (omega (arith, n)) in
    ap (written c.loop-place.nodes (enumerate_count c.loop-place.place-iterator)) (sym c.in-None.ensures.steps.0.0) ∙ c.loop-place.invariant.3
    ∙ written_all xs (listing d) whole ∙ ap (λ (k : ℕ). listing d ++ drop k xs) (sym n) ∙ rw fits refl
