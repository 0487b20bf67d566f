-- What is written is read back.
use Rattle.std.proofs.Common.{◌≡◌, ℕ, ◌+◌, ◌-◌, ◌*◌, ◌/◌, ◌%◌, ◌≤◌, Bool, true, false, eqb, ltb, List, [], length, take, Some, None, Ok, Option, Result, refl, ap, ◌∙◌, arith, ltb-false, le-ltb, eq-eqb}
use lib.ListN.{length-map}
use Rattle.std.proofs.lemmas.List.{take_at}
use Rattle.codec.specs.declared.spelling.Record.{Record}
use Rattle.records.specs.declared.nodes.Node.{Node}
use Rattle.records.specs.declared.operations.Operation.{Operation}
use Rattle.codec.specs.Fields.{record_of_node}
use Rattle.document.specs.Table.{misformed_from as misformed_node_from}
use Rattle.writer.specs.ReadBack.{ReadsDocument, ReadsList}
use Rattle.reader.specs.Bytes.{file_of, over, patched, Spelt}
use Rattle.reader.specs.Layout.{document_records, list_records}
use Rattle.writer.specs.Scans.{counts_from, misformed_list_from}
use Rattle.writer.specs.Writing.{at_fault, tested_nodes, tested_list, tested_room}
use Rattle.reader.proofs.Rows.{length_file_of, records_of_file, patch_front}
use Rattle.changes.specs.Tables.{miscounted_from, first_operation, misformed}
use Rattle.writer.proofs.Formed.{formed_from_none, counted_as, formed_as}
use Rattle.writer.proofs.Passing.{document_reads, list_reads}
use Rattle.writer.proofs.Chunks.{length_list_records}
use Rattle.reader.proofs.Accepting.{ok_err}

-- a test that passes found no place
pub no_fault : {E : Type 0} (o : Option ℕ) (f : ℕ → E) (later : Result (Unit {0}) E) → at_fault o f later ≡ Ok tt → (o ≡ None) × (later ≡ Ok tt)
no_fault None f later e = (refl, e)
no_fault (Some n) f later e = absurd (ok_err tt (f n) e)

pub room_fits : (room n : ℕ) → tested_room room n ≡ Ok tt → 16 * n ≤ room
room_fits room n e = go (ltb (room / 16) n) refl e
  where
    go : (b : Bool) → ltb (room / 16) n ≡ b → tested_room room n ≡ Ok tt → 16 * n ≤ room
    go true t g = absurd (ok_err tt _ (rw t at g))
    go false t g = omega (arith, ltb-false (room / 16) n t)

-- the bytes written, and what stands behind them
pub front_written : (table next : List ℕ) (rs : List Record) (n : ℕ) → length rs ≡ n → next ≡ patched table 0 (file_of rs) → (next ≡ over (file_of rs) table) × (take (16 * n) next ≡ file_of rs)
front_written table next rs n l e =
    let t = e ∙ patch_front table (file_of rs) in
    (t, ap (take (16 * n)) t ∙ take_at (file_of rs) _ (16 * n) (omega (arith, length_file_of rs)))

-- the file of n records has n whole records
whole : (rs : List Record) (n : ℕ) → length rs ≡ n → (eqb (length (file_of rs) % 16) 0 ≡ true) × (length (file_of rs) / 16 ≡ n)
whole rs n l = (eq-eqb (length (file_of rs) % 16) 0 (omega (arith, length_file_of rs)), omega (arith, length_file_of rs))

pub reads_document : (xs : List Node) → tested_nodes xs ≡ Ok tt → Spelt (document_records xs) → ReadsDocument (file_of (document_records xs)) xs
reads_document xs h s =
    let rs = document_records xs in
    let long : length rs ≡ length xs = length-map xs record_of_node in
    let w = whole rs (length xs) long in
    let r = records_of_file rs s in
    let d = document_reads xs (formed_from_none 0 xs (no_fault (misformed_node_from 0 xs) _ _ h).0) in
    record { answer = rw (w.0, w.1, r, d.0, le-ltb (length xs) (length xs) (omega arith)); nodes = rw (w.1, r) d.1 }

-- what the tests on the tables of a list say to the loops
pub list_counted : (os : List Operation) (xs : List Node) → tested_list os xs ≡ Ok tt → counts_from 0 os (length xs) ≡ None
list_counted os xs h = counted_as 0 os xs ∙ (no_fault (miscounted_from 0 os xs) _ _ h).0

list_formed : (os : List Operation) (xs : List Node) → tested_list os xs ≡ Ok tt → misformed_list_from 0 os xs ≡ None
list_formed os xs h = formed_as [] 0 os xs ∙ (no_fault (first_operation misformed [] 0 os xs) _ _ (no_fault (miscounted_from 0 os xs) _ _ h).1).0

pub reads_list : (os : List Operation) (xs : List Node) → tested_list os xs ≡ Ok tt → Spelt (list_records os xs) → ReadsList (file_of (list_records os xs)) os xs
reads_list os xs h s =
    let rs = list_records os xs in
    let a = list_counted os xs h in
    let b = list_formed os xs h in
    let long = length_list_records 0 os xs a in
    let w = whole rs (length os + length xs) long in
    let r = records_of_file rs s in
    let d = list_reads 0 os xs a b in
    let n : length os + length xs - length os ≡ length xs = omega arith in
    record {
      answer = rw (w.0, r, d.built 0, d.formed 0, w.1, d.operations, n, le-ltb (length os) (length os) (omega arith), le-ltb (length xs) (length xs) (omega arith));
      operations = rw r d.operations;
      nodes = rw r d.nodes;
    }
