use Rattle.std.proofs.Common.{◌≡◌, List, [], length, sym, ap, ◌∙◌, subst, arith}
use Rattle.document.specs.Tree.{Forest}
use Rattle.changes.specs.Changes.{Change}
use Rattle.changes.specs.Reduced.{reduced}
use Rattle.changes.specs.Tables.{changes_of, operation_rows, node_rows}
use Rattle.reduce.specs.declared.tables.Tally.{Tally}
use Rattle.reduce.specs.Output.{output, tally, with_changes, RoomFor}
use Rattle.reduce.proofs.Suitable.{reduced_is_read_off}
use Rattle.reduce.proofs.Whole.{needed, short, is_short, filled}
use Rattle.reduce.proofs.reducing.write_reduced.Goals as goal

pub write_as_far-need-requires : goal.write_as_far-need-requires
write_as_far-need-requires g c =
    let d : Forest = g.R.Reading.forest c.args.store.now in
    let l : List Change = changes_of c.args.list.operations.now c.args.list.nodes.now in
    subst (RoomFor (tally 0 0)) (reduced_is_read_off (g.R.Reading.limit c.args.store.now) d l c.requires.formed c.requires.suits) c.requires.fits

pub returns-then-operations-need : goal.returns-then-operations-need
returns-then-operations-need g c =
    let d : Forest = g.R.Reading.forest c.args.store.now in
    let l : List Change = changes_of c.args.list.operations.now c.args.list.nodes.now in
    let e = reduced_is_read_off (g.R.Reading.limit c.args.store.now) d l c.requires.formed c.requires.suits in
    let n : c.write_as_far-need.result ≡ tally (length (operation_rows (reduced d l))) (length (node_rows (reduced d l))) =
    needed (reduced d l) [] [] [] _ [] _ c.write_as_far-need.result (c.write_as_far-need.ensures ∙ ap (with_changes (output [] [] (tally 0 0))) (sym e)) in
    let w = short (reduced d l) c.args.operations.now c.args.nodes.now (is_short (reduced d l) c.args.operations.now c.args.nodes.now c.write_as_far-need.result n c.then-operations-need.either) in
    record { value = w.value; operation_table = w.operations; node_table = w.nodes }

pub write_as_far-requires : goal.write_as_far-requires
write_as_far-requires g c =
    let d : Forest = g.R.Reading.forest c.args.store.now in
    let l : List Change = changes_of c.args.list.operations.now c.args.list.nodes.now in
    subst (RoomFor (tally 0 0)) (reduced_is_read_off (g.R.Reading.limit c.args.store.now) d l c.requires.formed c.requires.suits) c.requires.fits

pub returns : goal.returns
returns g c =
    let d : Forest = g.R.Reading.forest c.args.store.now in
    let l : List Change = changes_of c.args.list.operations.now c.args.list.nodes.now in
    let e = reduced_is_read_off (g.R.Reading.limit c.args.store.now) d l c.requires.formed c.requires.suits in
    let n : c.write_as_far-need.result ≡ tally (length (operation_rows (reduced d l))) (length (node_rows (reduced d l))) =
    needed (reduced d l) [] [] [] _ [] _ c.write_as_far-need.result (c.write_as_far-need.ensures ∙ ap (with_changes (output [] [] (tally 0 0))) (sym e)) in
    let w = filled (reduced d l) c.args.operations.now c.args.nodes.now c.write_as_far.new.operations c.write_as_far.new.nodes c.write_as_far.result
    (omega (arith, ap (λ (q : Tally). q.operations) n, c.if-operations-need.false)) (omega (arith, ap (λ (q : Tally). q.nodes) n, c.if-nodes-need.false))
    (c.write_as_far.ensures ∙ ap (with_changes (output c.args.operations.now c.args.nodes.now (tally 0 0))) (sym e)) in
    record { value = w.value; operation_table = w.operations; node_table = w.nodes }
