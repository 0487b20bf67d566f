-- What the node table holds when an input was opened.
use Rattle.std.specs.Prelude.{◌≡◌, ℕ, ◌≤◌, List, length, take, Ok, Err, Result}
use Rattle.records.specs.declared.nodes.Node.{Node}
use Rattle.faults.specs.declared.Fault.{Fault}
use Rattle.document.specs.Table.{table_test, document_of}
use Rattle.reader.specs.Reading.{document_nodes}
use Rattle.session.specs.Printed.{room, document_in}

-- the first `count` nodes of the table are those of the input, and list its document
pub record Listed (bs : List ℕ) (table : List Node) (count : ℕ) : Type 0 where
  pub within : count ≤ length table
  pub front : take count table ≡ document_nodes bs
  pub passed : table_test room (take count table) ≡ Ok tt
  pub document : document_in bs ≡ Ok (document_of (take count table))

abbrev pub Opened : List ℕ → List Node → Result ℕ Fault → Type 0
Opened bs table (Ok count) = Listed bs table count
Opened bs table (Err f) = document_in bs ≡ Err f
