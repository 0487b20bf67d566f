use Rattle.std.proofs.Common.{◌≡◌, ℕ, ◌+◌, List, length, map, get_or, vec_items, vec_len, ap, ◌∙◌, rules, arith}
use Rattle.std.specs.List.{range_with_len}
use Rattle.std.proofs.lemmas.Iterator.{YieldsList-from_range, YieldsList-from_map}
use Rattle.std.proofs.lemmas.Iterator.Adapters.{items_from_extend}
use Rattle.std.proofs.lemmas.List.FromFn.{length-map-range_with_len, get_or-map-range_with_len}
use Rattle.ordered.specs.declared.entries.RowOf.{RowOf}
use Rattle.linked.proofs.table.making.free_rows.Goals as goal

-- the entry of a free row
abbrev free : ℕ → RowOf
free k = record { id = 0; row = k }

pub returns : goal.returns
returns c =
    let n = c.args.room in
    let h = items_from_extend c.extend.result c.extend.ensures.ran
    (YieldsList-from_map _ free (YieldsList-from_range 0 n n c.map.ensures.source (omega arith)) c.map.ensures.closure (λ x r q k. search rules)) in
    let all : vec_items c.extend.new.self ≡ map free (range_with_len 0 n) = search rules in
    let count : vec_len c.extend.new.self ≡ vec_len c.in_ok-index.index + length (map free (range_with_len 0 n)) = search rules in (
      omega (arith, count, c.in_ok-index.ensures.len, length-map-range_with_len free 0 n),
      λ k e l. ap (λ (xs : List RowOf). (get_or xs k e).row) all ∙ ap (λ (x : RowOf). x.row) (get_or-map-range_with_len free 0 n k k e l (omega arith)),
    )
