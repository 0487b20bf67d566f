use Rattle.std.proofs.Common.{◌≡◌, length, None, ap, arith}
use Rattle.reader.specs.Bytes.{records}
use Rattle.reader.specs.Reading.{misformed_from}
use Rattle.reader.proofs.Rows.{length_records}
use Rattle.reader.proofs.Back.{no_operations, all_nodes}
use Rattle.reader.proofs.documents.fill_nodes.Goals as goal

pub fill-requires : goal.fill-requires
fill-requires c =
    let bs = c.args.bytes.now in
    let n = c.args.count in
    let l = length_records bs in
    let h = c.requires.accepted.nodes in
    let m : misformed_from n 0 (records bs) ≡ None = rw h c.requires.accepted.formed in
    record {
      formed = m;
      operations_fit = omega (arith, ap length (no_operations n (records bs) (omega arith)));
      nodes_fit = omega (arith, all_nodes n 0 (records bs) (omega arith) m, c.requires.fits);
    }
