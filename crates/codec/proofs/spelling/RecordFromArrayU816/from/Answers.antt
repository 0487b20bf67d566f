use Rattle.std.proofs.Common.{get_or}
use Rattle.codec.specs.Codec.{record_of}
use Rattle.codec.proofs.spelling.RecordFromArrayU816.from.Goals as goal

pub returns : goal.returns
unfolding record_of
returns c = λ i. record {
  key = c.from_le_bytes.ensures i;
  link = c.from_le_bytes-2.ensures i;
  tag = get_or c.args.bytes 8 0;
  spare = get_or c.args.bytes 9 0;
  name = c.from_le_bytes-3.ensures i;
  value = c.from_le_bytes-4.ensures i;
}
