use Rattle.std.proofs.Common.{◌≡◌, Bool, true, false, not, ◌&&◌, is_some, sym, refl, ap, ◌∙◌}
use Rattle.records.specs.Formed.{formed_operation}
use Rattle.changes.specs.Tables.{all_formed}
use Rattle.writer.proofs.Formed.{none_misformed}
use Rattle.writer.proofs.tables.is_formed_with.Goals as goal

not_same : (a b : Bool) → not a ≡ not b → a ≡ b
not_same true true e = refl
not_same false false e = refl
not_same true false e = sym e
not_same false true e = sym e

pub returns-then-is_formed : goal.returns-then-is_formed
returns-then-is_formed c =
    let xs = c.args.nodes.now in
    let e = not_same c.is_none.result (all_formed xs) (sym c.is_none.ensures ∙ ap is_some c.first_misformed.ensures ∙ none_misformed 0 xs) in
    let f : formed_operation c.args.operation ≡ true = sym c.if-is_formed.ensures in
    e ∙ ap (λ b. b && all_formed xs) (sym f)
