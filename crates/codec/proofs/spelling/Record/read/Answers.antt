use Rattle.std.proofs.Common.{◌≡◌, false, ltb, length, ap, ◌∙◌, arith, le-ltb}
use Rattle.codec.specs.Codec.{record_of, bytes_of}
use Rattle.codec.proofs.Bytes.{record_back, record_of_front}
use Rattle.codec.proofs.spelling.Record.read.Goals as goal

pub returns : goal.returns
returns c =
    let bs = c.args.bytes.now in
    let chunk = c.in_ok-front.ensures.cases in
    let l : ltb (length bs) 16 ≡ false = le-ltb (length bs) 16 chunk.enough in
    let e : c.from.result ≡ record_of bs = c.from.ensures ∙ ap record_of chunk.same ∙ record_of_front bs in
    record { value = rw (l, e); back = ap bytes_of e ∙ record_back bs chunk.enough (λ i. omega (arith, c.type_inv.bytes i)) }
