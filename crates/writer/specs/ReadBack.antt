-- What is known of a file that was written.
use Rattle.std.specs.Prelude.{◌≡◌, ℕ, List, length, Ok}
use Rattle.records.specs.declared.nodes.Node.{Node}
use Rattle.records.specs.declared.operations.Operation.{Operation}
use Rattle.reader.specs.Reading.{document_nodes, document_read, list_operations, list_nodes, list_read}

-- a written file is read as the tables that it was written from, into tables as long
pub record ReadsDocument (bs : List ℕ) (xs : List Node) : Type 0 where
  pub answer : document_read (length xs) bs ≡ Ok (length xs)
  pub nodes : document_nodes bs ≡ xs

pub record ReadsList (bs : List ℕ) (os : List Operation) (xs : List Node) : Type 0 where
  pub answer : list_read (length os) (length xs) bs ≡ Ok (length os, length xs)
  pub operations : list_operations bs ≡ os
  pub nodes : list_nodes bs ≡ xs
