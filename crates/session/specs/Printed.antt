-- What a session prints of its input.
use Rattle.std.specs.Prelude.{ℕ, cond, List, ◌++◌, length, Ok, Err, Result, nat_lt}
use Rattle.records.specs.declared.nodes.Node.{Node}
use Rattle.faults.specs.declared.FileFault.{FileFault}
use Rattle.faults.specs.declared.FileFault.TheVariants.{TableShort}
use Rattle.faults.specs.declared.DocumentFault.{DocumentFault}
use Rattle.faults.specs.declared.Fault.{Fault}
use Rattle.faults.specs.declared.Fault.TheVariants.{File, Document}
use Rattle.faults.specs.Numbers.{told}
use Rattle.document.specs.Tree.{Forest}
use Rattle.document.specs.Table.{table_test, document_of}
use Rattle.reader.specs.Reading.{document_nodes, document_read}
use Rattle.session.specs.Lines.{ok_line, refusal_line, document_lines}

-- the longest input, the records that it can hold, and the nodes that a document may have
abbrev pub longest : ℕ
longest = 65536

abbrev pub most_records : ℕ
most_records = 4096

abbrev pub room : ℕ
room = 1000

abbrev pub if_document : Result (Unit {0}) DocumentFault → List Node → Result Forest Fault
if_document (Ok u) xs = Ok (document_of xs)
if_document (Err f) xs = Err (Document f)

abbrev pub if_file : Result ℕ FileFault → List Node → Result Forest Fault
if_file (Ok n) xs = if_document (table_test room xs) xs
if_file (Err f) xs = Err (File f)

-- the document that an input is, or the fault found first
unfoldable pub document_in : List ℕ → Result Forest Fault
document_in bs = cond (nat_lt longest (length bs)) (Err (File TableShort)) (if_file (document_read most_records bs) (document_nodes bs))

abbrev pub answer : Result Forest Fault → List ℕ
answer (Ok d) = ok_line ++ document_lines d
answer (Err f) = refusal_line (told f)

unfoldable pub printed : List ℕ → List ℕ
printed bs = answer (document_in bs)
