-- What the tests on a table answer.
use Rattle.std.specs.Prelude.{ℕ, cond, List, length, Err, Result, nat_lt}
use Rattle.records.specs.declared.nodes.Node.{Node}
use Rattle.faults.specs.declared.DocumentFault.{DocumentFault}
use Rattle.faults.specs.declared.DocumentFault.TheVariants.{ScratchShort}
use Rattle.document.specs.Table.{table_test}

-- slots: how many there are to work in
abbrev pub tested : ℕ → ℕ → List Node → Result (Unit {0}) DocumentFault
tested slots room xs = cond (nat_lt slots (length xs)) (Err ScratchShort) (table_test room xs)
