use Rattle.std.proofs.Common.{◌≡◌, ◌+◌, ◌*◌, ◌∷◌, ◌++◌, length, get_or, take, drop, sym, ap, ◌∙◌, subst, arith, length-drop}
use Rattle.std.proofs.lemmas.List.{drop_all, take_all, length-take-le}
use Rattle.codec.specs.Fields.{record_of_operation}
use Rattle.reader.specs.Bytes.{file_of, patched, Spelt}
use Rattle.reader.specs.Layout.{document_records, list_records}
use Rattle.reader.proofs.Rows.{file_more, spelt-++}
use Rattle.writer.proofs.Chunks.{blank, turn, take_chunk, length_list_records, count_within, counts_on, records_here, nodes_here}
use Rattle.writer.proofs.writing.put_list.Goals as goal

pub loop-operation-preserved : goal.loop-operation-preserved
loop-operation-preserved c =
    let os = c.args.operations.now in
    let xs = c.args.nodes.now in
    let rest = c.loop-operation.rest.now in
    let k = c.loop-operation.operation-index in
    let p = c.loop-operation.place in
    let o = get_or os k blank in
    let h = c.loop-operation-test.true in
    let e = turn os k h in
    let counts = c.loop-operation.invariant.3 in
    let all = list_records os xs in
    let total = length_list_records 0 os xs c.requires.counts in
    let chunk = record_of_operation o ∷ document_records (take o.count rest) in
    let own : document_records c.split_at.result.0.now ≡ document_records (take o.count rest) = ap document_records c.split_at.ensures.front in
    let behind = c.split_at.ensures.back in
    let within = count_within os rest k o h e counts in
    let count : length c.split_at.result.0.now ≡ o.count = c.split_at.ensures.front_len in
    let left : length c.split_at.result.1.now + o.count ≡ length rest = c.split_at.ensures.back_len in
    let long : p + length chunk ≡ p + (1 + length c.split_at.result.0.now) = omega (arith, nodes_here os rest k o h e counts) in
    let t = take_chunk all chunk (list_records (drop (k + 1) os) (drop o.count rest)) p (omega (arith, c.loop-operation.invariant.4)) (c.loop-operation.invariant.2 ∙ records_here os rest k o h e counts) in
    let front : take (p + (1 + length c.split_at.result.0.now)) all ≡ take p all ++ chunk = ap (λ n. take n all) (sym long) ∙ t.0 in
    let part = ap (λ l. record_of_operation o ∷ l) own in
    let text = file_more c.args.bytes.now c.loop-operation.bytes c.put_operation.new.bytes 0 (16 * p) (take p all) chunk c.loop-operation.invariant.0
    (omega (arith, length-take-le p all (omega (arith, c.loop-operation.invariant.4)))) (omega (arith, c.loop-operation.invariant.4))
    (c.put_operation.ensures.text ∙ ap (λ l. patched c.loop-operation.bytes (16 * p) (file_of l)) part) in (
      text ∙ ap (λ l. patched c.args.bytes.now 0 (file_of l)) (sym front),
      subst Spelt (sym front) (spelt-++ (take p all) chunk c.loop-operation.invariant.1 (subst Spelt part c.put_operation.ensures.spelt)),
      ap (λ n. drop n all) (sym long) ∙ t.1 ∙ ap (list_records (drop (k + 1) os)) (sym behind),
      rw behind (counts_on os rest k o h e counts),
      omega (arith, c.loop-operation.invariant.4),
    )

pub returns : goal.returns
returns c =
    let os = c.args.operations.now in
    let xs = c.args.nodes.now in
    let all = length_list_records 0 os xs c.requires.counts in
    let rest = c.loop-operation.invariant.2 ∙ ap (λ l. list_records l c.loop-operation.rest.now) (drop_all c.loop-operation.operation-index os (omega arith)) in
    let e : take c.loop-operation.place (list_records os xs) ≡ list_records os xs = take_all c.loop-operation.place (list_records os xs) (omega (arith, ap length rest, length-drop c.loop-operation.place (list_records os xs))) in
    record { text = c.loop-operation.invariant.0 ∙ ap (λ l. patched c.args.bytes.now 0 (file_of l)) e; spelt = subst Spelt e c.loop-operation.invariant.1 }
