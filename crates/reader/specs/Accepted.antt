-- What is known of a file that passes the tests: writing its tables gives the same bytes.
use Rattle.std.specs.Prelude.{◌≡◌, ℕ, ◌/◌, List, length, None}
use Rattle.reader.specs.Bytes.{records, file_of}
use Rattle.reader.specs.Reading.{misformed_from, document_nodes, list_operations, list_nodes}
use Rattle.reader.specs.Layout.{document_records, list_records}

pub record DocumentFile (bs : List ℕ) (count : ℕ) : Type 0 where
  pub nodes : count ≡ length bs / 16
  pub formed : misformed_from (length bs / 16) 0 (records bs) ≡ None
  pub back : file_of (document_records (document_nodes bs)) ≡ bs

pub record ListFile (bs : List ℕ) (counts : ℕ × ℕ) : Type 0 where
  pub operations : counts.0 ≡ length (list_operations bs)
  pub nodes : counts.1 ≡ length (list_nodes bs)
  pub formed : misformed_from 0 0 (records bs) ≡ None
  pub back : file_of (list_records (list_operations bs) (list_nodes bs)) ≡ bs
