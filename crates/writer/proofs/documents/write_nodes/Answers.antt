use Rattle.std.proofs.Common.{length, sym, refl, subst}
use lib.ListN.{length-map}
use Rattle.codec.specs.Fields.{record_of_node}
use Rattle.writer.specs.ReadBack.{ReadsDocument}
use Rattle.reader.specs.Layout.{document_records}
use Rattle.writer.proofs.Written.{front_written, reads_document}
use Rattle.writer.proofs.documents.write_nodes.Goals as goal

pub returns : goal.returns
returns c =
    let xs = c.args.nodes.now in
    let f = front_written c.args.bytes.now c.put_nodes.new.bytes (document_records xs) (length xs) (length-map xs record_of_node) c.put_nodes.ensures.text in
    record { count = refl; text = f.0; reads_back = subst (λ bs. ReadsDocument bs xs) (sym f.1) (reads_document xs c.requires.formed c.put_nodes.ensures.spelt) }
