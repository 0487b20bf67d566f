use Rattle.std.proofs.Common.{[], get_or, sym, refl, ap, ◌∙◌}
use Rattle.std.proofs.lemmas.List.{at_drop_all}
use Rattle.writer.specs.Scans.{formed_with, misformed_list_from}
use Rattle.writer.proofs.Chunks.{blank, turn}
use Rattle.writer.proofs.Formed.{counted_as, formed_as, misformed_here}
use Rattle.writer.proofs.tables.first_misformed_operation.Goals as goal

pub loop-place-init : goal.loop-place-init
loop-place-init c = (refl, counted_as 0 c.args.operations.now c.args.nodes.now ∙ c.requires)

pub returns-then-not-is_formed_with : goal.returns-then-not-is_formed_with
returns-then-not-is_formed_with c =
    let os = c.args.operations.now in
    let k = c.loop-place.place in
    let o = get_or os k blank in
    let f = ap (formed_with o) (sym c.split_at.ensures.front) ∙ sym c.is_formed_with.ensures ∙ c.if-not-is_formed_with.true in
    sym (misformed_here os k o c.loop-place-test.true (turn os k c.loop-place-test.true) c.loop-place.rest.now f) ∙ c.loop-place.invariant.0
    ∙ formed_as [] 0 os c.args.nodes.now

pub returns : goal.returns
returns c =
    sym (at_drop_all (λ l. misformed_list_from c.loop-place.place l c.loop-place.rest.now) c.args.operations.now c.loop-place.place c.loop-place-test.false)
    ∙ c.loop-place.invariant.0 ∙ formed_as [] 0 c.args.operations.now c.args.nodes.now
