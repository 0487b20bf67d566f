use Rattle.std.proofs.Common.{◌≡◌, ℕ, List, [], ◌∷◌, get_or, ap, ◌∙◌, arith}
use Rattle.codec.specs.declared.spelling.Record.{Record}
use Rattle.codec.specs.Codec.{record_of, bytes_of, bytes_of_two, bytes_of_four}
use Rattle.codec.proofs.Bytes.{record_from}
use Rattle.codec.proofs.spelling.Record.bytes.Goals as goal

joined : (k l n v : List ℕ) (r : Record) → k ≡ bytes_of_four r.key → l ≡ bytes_of_four r.link → n ≡ bytes_of_two r.name → v ≡ bytes_of_four r.value
    → get_or k 0 0 ∷ get_or k 1 0 ∷ get_or k 2 0 ∷ get_or k 3 0 ∷ get_or l 0 0 ∷ get_or l 1 0 ∷ get_or l 2 0 ∷ get_or l 3 0 ∷ r.tag ∷ r.spare
    ∷ get_or n 0 0 ∷ get_or n 1 0 ∷ get_or v 0 0 ∷ get_or v 1 0 ∷ get_or v 2 0 ∷ get_or v 3 0 ∷ [] ≡ bytes_of r
unfolding bytes_of
joined k l n v r p q s t = rw (p, q, s, t)

pub returns : goal.returns
unfolding record_of bytes_of
returns c =
    let e = joined _ _ _ _ c.args.self c.to_le_bytes.ensures c.to_le_bytes-2.ensures c.to_le_bytes-3.ensures c.to_le_bytes-4.ensures in
    record { value = e; back = ap record_of e ∙ record_from c.args.self [] (record { key = omega arith; link = omega arith; name = omega arith; value = omega arith }) }
