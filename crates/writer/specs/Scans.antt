-- The tests on the tables of a list as the loops make them: by how many nodes are left, and without the nodes before.
use Rattle.std.specs.Prelude.{ℕ, ◌+◌, ◌-◌, Bool, cond, ◌&&◌, List, [], ◌∷◌, take, drop, Some, None, Option, ◌==◌, nat_lt}
use Rattle.records.specs.declared.nodes.Node.{Node}
use Rattle.records.specs.declared.operations.Operation.{Operation}
use Rattle.records.specs.Formed.{formed_operation}
use Rattle.changes.specs.Tables.{all_formed}

-- the first operation that counts more nodes than are left, or the number of operations where nodes are left over
abbrev pub counts_from : ℕ → List Operation → ℕ → Option ℕ
counts_from n [] left = cond (left == 0) None (Some n)
counts_from n (o ∷ os) left = cond (nat_lt left o.count) (Some n) (counts_from (n + 1) os (left - o.count))

abbrev pub formed_with : Operation → List Node → Bool
formed_with o xs = formed_operation o && all_formed xs

-- the first operation that is misformed, or has a misformed node
abbrev pub misformed_list_from : ℕ → List Operation → List Node → Option ℕ
misformed_list_from n [] xs = None
misformed_list_from n (o ∷ os) xs =
    cond (formed_with o (take o.count xs)) (misformed_list_from (n + 1) os (drop o.count xs)) (Some n)
