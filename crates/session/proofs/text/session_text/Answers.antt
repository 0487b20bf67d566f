use Rattle.std.proofs.Common.{ap, ◌∙◌}
use Rattle.std.proofs.lemmas.Result.{IfOk-weaker}
use Rattle.session.specs.Lines.{refusal_line}
use Rattle.session.proofs.Printing.{prints_document, prints_refusal}
use Rattle.session.proofs.text.session_text.Goals as goal

pub returns-in-Ok : goal.returns-in-Ok
returns-in-Ok c =
    let listed = c.in-Ok.ensures in
    IfOk-weaker c.document_text.result _ _ (λ s e. e ∙ prints_document c.args.input.now _ listed.passed listed.document) c.document_text.ensures

pub returns-in-Err : goal.returns-in-Err
returns-in-Err c =
    IfOk-weaker c.refusal_line.result _ _ (λ s e. e ∙ ap refusal_line c.into.ensures ∙ prints_refusal c.args.input.now _ c.in-Err.ensures) c.refusal_line.ensures
