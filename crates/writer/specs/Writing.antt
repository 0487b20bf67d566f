-- What writing a file answers.
use Rattle.std.specs.Prelude.{ℕ, ◌+◌, ◌*◌, ◌/◌, cond, List, [], length, Some, None, Ok, Err, Option, Result, nat_lt}
use Rattle.codec.specs.declared.spelling.Record.{Record}
use Rattle.records.specs.declared.nodes.Node.{Node}
use Rattle.records.specs.declared.operations.Operation.{Operation}
use Rattle.faults.specs.declared.FileFault.{FileFault}
use Rattle.faults.specs.declared.FileFault.TheVariants.{TableShort}
use Rattle.faults.specs.declared.ListFault.{ListFault}
use Rattle.faults.specs.declared.DocumentFault.{DocumentFault}
use Rattle.faults.specs.declared.ListFault.TheVariants as list
use Rattle.faults.specs.declared.DocumentFault.TheVariants as document
use Rattle.faults.specs.declared.Fault.{Fault}
use Rattle.faults.specs.declared.Fault.TheVariants as fault
use Rattle.document.specs.Table.{misformed_from}
use Rattle.changes.specs.Tables.{miscounted_from, first_operation, misformed}
use Rattle.reader.specs.Bytes.{file_of, over}

-- a test's fault where it finds a place, else what the later tests say
abbrev pub at_fault : {E : Type 0} → Option ℕ → (ℕ → E) → Result (Unit {0}) E → Result (Unit {0}) E
at_fault None fault later = later
at_fault (Some n) fault later = Err (fault n)

-- what the later steps say where a test passes, else its fault, whole
abbrev pub then : {E X : Type 0} → Result (Unit {0}) E → (E → Fault) → Result X Fault → Result X Fault
then (Ok x) whole later = later
then (Err e) whole later = Err (whole e)

-- whether a byte table of some length takes so many records
abbrev pub tested_room : ℕ → ℕ → Result (Unit {0}) FileFault
tested_room room n = cond (nat_lt (room / 16) n) (Err TableShort) (Ok tt)

-- the tests on a node table, and the number of bytes that are written
abbrev pub tested_nodes : List Node → Result (Unit {0}) DocumentFault
tested_nodes xs = at_fault (misformed_from 0 xs) document.Misformed (Ok tt)

abbrev pub document_written : ℕ → List Node → Result ℕ Fault
document_written room xs = then (tested_nodes xs) fault.Document (then (tested_room room (length xs)) fault.File (Ok (16 * length xs)))

-- the tests on the tables of a list, and the number of bytes that are written
abbrev pub tested_list : List Operation → List Node → Result (Unit {0}) ListFault
tested_list os xs = at_fault (miscounted_from 0 os xs) list.Structure (at_fault (first_operation misformed [] 0 os xs) list.Misformed (Ok tt))

abbrev pub list_written : ℕ → List Operation → List Node → Result ℕ Fault
list_written room os xs = then (tested_list os xs) fault.List (then (tested_room room (length os + length xs)) fault.File (Ok (16 * (length os + length xs))))

-- what a byte table holds after a writing
abbrev pub bytes_after : Result ℕ Fault → List Record → List ℕ → List ℕ
bytes_after (Ok n) rs bytes = over (file_of rs) bytes
bytes_after (Err e) rs bytes = bytes
