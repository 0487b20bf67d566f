-- What a list reader hands out.
use Rattle.std.specs.Prelude.{◌≡◌, ℕ, ◌+◌, ◌*◌, cond, List, [], ◌∷◌, length, take, drop, Some, None, Ok, Err, Option, Result}
use Rattle.std.specs.Borrow.{Bor}
use Rattle.codec.specs.declared.spelling.Record.{Record}
use Rattle.records.specs.declared.operations.Operation.{Operation}
use Rattle.codec.specs.Fields.{operation_of}
use Rattle.faults.specs.declared.FileFault.{FileFault}
use Rattle.faults.specs.declared.FileFault.TheVariants.{Structure, Misformed}
use Rattle.reader.specs.Bytes.{records}
use Rattle.reader.specs.Reading.{ill_built, structure_from, misformed_from}

-- nothing more, an operation with the bytes of its nodes and its place, or a fault
pub data Step : Type 0 where
  end : Step
  gives : Operation → List ℕ → ℕ → Step
  fault : FileFault → Step

abbrev pub step_operation : Option Operation → List ℕ → ℕ → Step
step_operation None bs n = fault (Misformed n)
step_operation (Some o) bs n = gives o (take (16 * o.count) (drop (16 * n + 16) bs)) n

abbrev pub step_at : List ℕ → ℕ → List Record → Step
step_at bs n [] = end
step_at bs n (r ∷ rs) = cond (ill_built 0 r (length rs)) (fault (Structure n)) (step_operation (operation_of r) bs n)

-- what the record at place n, and those behind it, give
unfoldable pub step_of : List ℕ → ℕ → Step
step_of bs n = step_at bs n (drop n (records bs))

-- an answer, or a fault, as a step: a part of the file counts by its bytes
abbrev pub seen : Result (Option (Operation × Bor (List ℕ) × ℕ)) FileFault → Step
seen (Ok None) = end
seen (Ok (Some x)) = gives x.0 x.1.now x.2
seen (Err f) = fault f

-- the place that comes next
abbrev pub place_after : ℕ → Step → ℕ
place_after n end = n
place_after n (gives o part k) = n + 1 + o.count
place_after n (fault f) = n

-- the tests on structure and on records pass, where an operation is due first and the first record is at place n
abbrev pub Passes : ℕ → List Record → Type 0
Passes n rs = (structure_from 0 n rs ≡ None) × (misformed_from 0 n rs ≡ None)
