use Rattle.std.proofs.Common.{◌+◌, length, sym, refl, subst}
use Rattle.writer.specs.ReadBack.{ReadsList}
use Rattle.reader.specs.Layout.{list_records}
use Rattle.writer.proofs.Chunks.{length_list_records}
use Rattle.writer.proofs.Written.{list_counted, room_fits, front_written, reads_list}
use Rattle.writer.proofs.lists.write_tables.Goals as goal

pub put_list-requires : goal.put_list-requires
put_list-requires c =
    let os = c.args.operations.now in
    let xs = c.args.nodes.now in
    record { counts = list_counted os xs c.requires.formed; room = room_fits (length c.args.bytes.now) (length os + length xs) c.requires.fits }

pub returns : goal.returns
returns c =
    let os = c.args.operations.now in
    let xs = c.args.nodes.now in
    let l = length_list_records 0 os xs (list_counted os xs c.requires.formed) in
    let f = front_written c.args.bytes.now c.put_list.new.bytes (list_records os xs) (length os + length xs) l c.put_list.ensures.text in
    record { count = refl; text = f.0; reads_back = subst (λ bs. ReadsList bs os xs) (sym f.1) (reads_list os xs c.requires.formed c.put_list.ensures.spelt) }
