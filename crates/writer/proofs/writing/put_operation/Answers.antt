use Rattle.std.proofs.Common.{◌≡◌, ◌+◌, ◌*◌, [], ◌∷◌, sym, ap, ◌∙◌, subst, arith}
use Rattle.codec.specs.Codec.{record_of, bytes_of}
use Rattle.codec.specs.Fields.{record_of_operation}
use Rattle.reader.specs.Bytes.{file_of, patched}
use Rattle.reader.specs.Layout.{document_records}
use Rattle.reader.proofs.Rows.{file_more, file_of_one}
use Rattle.writer.proofs.writing.put_operation.Goals as goal

pub returns : goal.returns
returns c =
    let one = record_of_operation c.args.operation ∷ [] in
    let first : c.put.new.bytes ≡ patched c.args.bytes.now (16 * c.args.place) (file_of one) =
    c.put.ensures.text ∙ ap (patched c.args.bytes.now (16 * c.args.place)) (sym (file_of_one c.from.result) ∙ ap (λ r. file_of (r ∷ [])) c.from.ensures) in
    record {
      text = file_more c.args.bytes.now c.put.new.bytes c.put_nodes.new.bytes (16 * c.args.place) (16 * (c.args.place + 1)) one (document_records c.args.nodes.now) first (omega arith) (omega arith) c.put_nodes.ensures.text;
      spelt = (subst (λ r. record_of (bytes_of r) ≡ r) c.from.ensures c.put.ensures.spelt, c.put_nodes.ensures.spelt);
    }
