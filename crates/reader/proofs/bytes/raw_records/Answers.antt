use Rattle.std.proofs.Common.{map, ◌/◌, length, ap, ◌∙◌}
use Rattle.codec.specs.Codec.{record_of}
use Rattle.reader.specs.Bytes.{records}
use Rattle.reader.proofs.Rows.{chunks_spell}
use Rattle.reader.proofs.bytes.raw_records.Goals as goal

pub returns-clause-spelt : goal.returns-clause-spelt
unfolding records
returns-clause-spelt c = ap (map record_of) c.as_chunks.ensures.front ∙ chunks_spell (length c.args.bytes.now / 16) c.args.bytes.now
