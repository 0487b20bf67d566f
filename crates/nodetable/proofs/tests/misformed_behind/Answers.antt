use Rattle.std.proofs.Common.{◌≡◌, ◌+◌, length, drop, sym, ap, ◌∙◌, rules, tests, arith}
use Rattle.std.specs.List.{position}
use Rattle.std.specs.Option.{option_map}
use Rattle.std.proofs.lemmas.Iterator.{YieldsList-from_slice}
use Rattle.std.proofs.lemmas.Slice.{between_to_end}
use Rattle.std.proofs.lemmas.Iterator.Search.{position_from_yields_List}
use Rattle.nodetable.proofs.Misformed.{ill, misformed_is_position}
use Rattle.nodetable.proofs.tests.misformed_behind.Goals as goal

pub returns : goal.returns
returns c =
    let xs = drop c.args.start c.args.nodes.now in
    let found : c.position.result ≡ position ill xs =
    position_from_yields_List {all = xs} ill _ _ c.position.result c.position.ensures.ran (YieldsList-from_slice xs (c.iter.ensures.rest ∙ c.in_ok-behind.ensures.lookup.0.2 ∙ between_to_end c.args.nodes.now c.args.start (length c.args.nodes.now) (omega arith))) (λ x b q k. search (rules, tests)) in
    ap (option_map (λ k. c.args.start + k)) (sym c.in_ok-passed.was ∙ found) ∙ misformed_is_position c.args.start xs

pub returns-in_err-passed : goal.returns-in_err-passed
returns-in_err-passed c =
    let xs = drop c.args.start c.args.nodes.now in
    let found : c.position.result ≡ position ill xs =
    position_from_yields_List {all = xs} ill _ _ c.position.result c.position.ensures.ran (YieldsList-from_slice xs (c.iter.ensures.rest ∙ c.in_ok-behind.ensures.lookup.0.2 ∙ between_to_end c.args.nodes.now c.args.start (length c.args.nodes.now) (omega arith))) (λ x b q k. search (rules, tests)) in
    c.from_residual-in_err-passed.ensures ∙ (ap (option_map (λ k. c.args.start + k)) (sym c.in_err-passed.was ∙ found) ∙ misformed_is_position c.args.start xs)
