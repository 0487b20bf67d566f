use Rattle.std.proofs.Common.{arith}
use Rattle.std.proofs.lemmas.Result.{err_from_is_err_and}
use Rattle.session.proofs.Reading.{too_long, no_file, no_document, listed}
use Rattle.session.proofs.opening.open.Goals as goal

pub returns-then-input-gt-LONGEST : goal.returns-then-input-gt-LONGEST
returns-then-input-gt-LONGEST c = rw c.into.ensures (too_long c.args.input.now c.if-input-gt-LONGEST.true)

pub returns-in_err-count : goal.returns-in_err-count
returns-in_err-count c =
    let p = err_from_is_err_and c.from_residual.result c.from_residual.ensures.1 in
    rw (p.1, p.2) (no_file c.args.input.now _ _ c.if-input-gt-LONGEST.false c.requires.table c.in_err-count.ensures.value)

pub returns-in_err-test_table : goal.returns-in_err-test_table
returns-in_err-test_table c =
    let p = err_from_is_err_and c.from_residual-in_err-test_table.result c.from_residual-in_err-test_table.ensures.1 in
    rw (p.1, p.2) (no_document c.args.input.now c.in_ok-count.count c.args.nodes.now c.read_document.new.nodes c.if-input-gt-LONGEST.false c.requires.table (omega arith)
    c.in_ok-count.ensures.value c.in_ok-count.ensures.table _ _ c.requires.scratch c.in_err-test_table.ensures.value)

pub returns : goal.returns
returns c =
    listed c.args.input.now c.in_ok-count.count c.args.nodes.now c.read_document.new.nodes c.if-input-gt-LONGEST.false c.requires.table (omega arith)
    c.in_ok-count.ensures.value c.in_ok-count.ensures.table _ c.requires.scratch c.in_ok-test_table.ensures.value
