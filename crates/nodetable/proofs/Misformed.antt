-- The first misformed node is the first that fails the test.
use Rattle.std.proofs.Common.{◌≡◌, ℕ, suc, ◌+◌, Bool, true, false, cond, not, ltb, List, [], ◌∷◌, length, Some, None, sym, refl, ap, ◌∙◌, lt-ltb, arith, rules}
use Rattle.std.specs.List.{position, position_or_len}
use Rattle.std.specs.Option.{option_map}
use Rattle.records.specs.Formed.{formed_node}
use Rattle.records.specs.declared.nodes.Node.{Node}
use Rattle.document.specs.Table.{misformed_from}

abbrev pub ill : Node → Bool
ill x = not (formed_node x)

from : (n : ℕ) (xs : List Node) → misformed_from n xs ≡ cond (ltb (position_or_len ill xs) (length xs)) (Some (n + position_or_len ill xs)) None
from n [] = refl
from n (x ∷ xs) = go (formed_node x) (from (n + 1) xs)
  where
    go : (formed : Bool) → misformed_from (n + 1) xs ≡ cond (ltb (position_or_len ill xs) (length xs)) (Some (n + 1 + position_or_len ill xs)) None
        → cond formed (misformed_from (n + 1) xs) (Some n)
        ≡ (let p : ℕ = cond (not (not formed)) (1 + position_or_len ill xs) 0 in cond (ltb p (suc (length xs))) (Some (n + p)) None)
    go true later =
        let e : n + 1 + position_or_len ill xs ≡ n + (1 + position_or_len ill xs) = omega arith in
        let same : ltb (1 + position_or_len ill xs) (suc (length xs)) ≡ ltb (position_or_len ill xs) (length xs) = search rules in
        rw same (later ∙ ap (λ m. cond (ltb (position_or_len ill xs) (length xs)) (Some m) None) e)
    go false later =
        let e : n ≡ n + 0 = omega arith in
        let some : ltb 0 (suc (length xs)) ≡ true = lt-ltb 0 (suc (length xs)) (omega arith) in
        rw some (ap Some e)

pub misformed_is_position : (n : ℕ) (xs : List Node) → option_map (λ k. n + k) (position ill xs) ≡ misformed_from n xs
misformed_is_position n xs = go (ltb (position_or_len ill xs) (length xs)) ∙ sym (from n xs)
  where
    go : (b : Bool) → option_map (λ k. n + k) (cond b (Some (position_or_len ill xs)) None) ≡ cond b (Some (n + position_or_len ill xs)) None
    go true = refl
    go false = refl
