-- A file that passes the reader's tests passes the writer's too, and is written back byte for byte.
use Rattle.std.specs.Prelude.{◌≡◌, ℕ, ◌<◌, List, length, Ok, slice_index}
use Rattle.reader.specs.Bytes.{file_of}
use Rattle.reader.specs.Layout.{document_records, list_records}
use Rattle.reader.specs.Reading.{document_nodes, document_tested, list_operations, list_nodes, list_tested}
use Rattle.writer.specs.Writing.{document_written, list_written}

abbrev pub AcceptedDocumentIsWrittenBack : Type 0
AcceptedDocumentIsWrittenBack =
    (bs : List ℕ) (n : ℕ) → ((i : ℕ) → slice_index bs i < 256) → document_tested bs ≡ Ok n
    → (document_written (length bs) (document_nodes bs) ≡ Ok (length bs)) × (file_of (document_records (document_nodes bs)) ≡ bs)

abbrev pub AcceptedListIsWrittenBack : Type 0
AcceptedListIsWrittenBack =
    (bs : List ℕ) (n : ℕ × ℕ) → ((i : ℕ) → slice_index bs i < 256) → list_tested bs ≡ Ok n
    → (list_written (length bs) (list_operations bs) (list_nodes bs) ≡ Ok (length bs)) × (file_of (list_records (list_operations bs) (list_nodes bs)) ≡ bs)
