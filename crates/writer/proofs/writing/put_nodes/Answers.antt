use Rattle.std.proofs.Common.{◌≡◌, ◌+◌, ◌*◌, [], ◌∷◌, ◌++◌, length, take, sym, ap, ◌∙◌, subst, arith}
use lib.ListN.{length-map}
use Rattle.std.proofs.lemmas.List.{map_more, length-take-le}
use Rattle.codec.specs.Fields.{record_of_node}
use Rattle.reader.specs.Bytes.{file_of, patched, Spelt}
use Rattle.reader.specs.Layout.{document_records}
use Rattle.reader.proofs.Rows.{file_more, file_of_one, spelt-++}
use Rattle.writer.proofs.writing.put_nodes.Goals as goal

pub loop-k-preserved : goal.loop-k-preserved
loop-k-preserved c =
    let k = c.loop-k.k in
    let xs = c.args.nodes.now in
    let one = c.from.result ∷ [] in
    let done = document_records (take k xs) in
    let m : document_records (take (k + 1) xs) ≡ done ++ one = map_more record_of_node xs k _ (omega arith) ∙ ap (λ r. done ++ (r ∷ [])) (sym c.from.ensures) in
    let long : length done ≡ k = length-map (take k xs) record_of_node ∙ length-take-le k xs (omega arith) in
    let text = file_more c.args.bytes.now c.loop-k.bytes c.put.new.bytes (16 * c.args.place) (16 * (c.args.place + k)) done one c.loop-k.invariant.0 (omega arith) (omega arith)
    (c.put.ensures.text ∙ ap (patched c.loop-k.bytes (16 * (c.args.place + k))) (sym (file_of_one c.from.result))) in (
      text ∙ ap (λ l. patched c.args.bytes.now (16 * c.args.place) (file_of l)) (sym m),
      subst Spelt (sym m) (spelt-++ done one c.loop-k.invariant.1 (c.put.ensures.spelt, tt)),
    )
