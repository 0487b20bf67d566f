use Rattle.std.proofs.Common.{sym, ◌∙◌, arith}
use Rattle.reader.proofs.Accepting.{document_accepted}
use Rattle.reader.proofs.documents.test_document.Goals as goal

pub returns : goal.returns
returns c =
    let a = document_accepted c.args.bytes.now c.in_ok-count.count (sym c.whole_records.ensures ∙ c.in_ok-count.was)
    (λ i. omega (arith, c.type_inv.bytes i)) (sym c.first_misformed.ensures ∙ c.in_default.is) in
    record { value = a.0; accepted = a.1 }
