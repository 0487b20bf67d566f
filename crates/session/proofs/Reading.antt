-- What opening an input answers.
use Rattle.std.proofs.Common.{◌≡◌, ℕ, ◌/◌, ◌%◌, ◌<◌, ◌≤◌, Bool, true, false, cond, eqb, ltb, List, length, take, drop, Some, None, Ok, Err, Option, sym, refl, ap, ◌∙◌, arith}
use Rattle.std.proofs.lemmas.List.{take_at}
use Rattle.std.proofs.lemmas.Bool.{ltb-false, lt-ltb, le-ltb, cond-true, cond-false}
use Rattle.records.specs.declared.nodes.Node.{Node}
use Rattle.faults.specs.declared.FileFault.{FileFault}
use Rattle.faults.specs.declared.FileFault.TheVariants.{Length, Misformed, TableShort}
use Rattle.faults.specs.declared.DocumentFault.{DocumentFault}
use Rattle.faults.specs.declared.Fault.TheVariants.{File, Document}
use Rattle.document.specs.Table.{table_test}
use Rattle.nodetable.specs.Tested.{tested}
use Rattle.reader.specs.Bytes.{records, over}
use Rattle.reader.specs.Reading.{misformed_from, at_fault, then, document_nodes, document_read}
use Rattle.reader.proofs.Rows.{length_records}
use Rattle.reader.proofs.Back.{all_nodes}
use Rattle.session.specs.Printed.{longest, most_records, room, if_document, if_file, document_in}
use Rattle.session.specs.Opened.{Listed}

ok_err : {X E : Type 0} (x : X) (e : E) → Err e ≡ Ok x → ⊥
ok_err {X} {E} x e h = let z : ◌≡◌ {A = ℕ} 0 1 = cc in absurd (omega arith)

-- a reading that succeeds found no misformed record, and as many nodes as there are records
read_parts : (size k n : ℕ) (whole : Bool) (misformed : Option ℕ) (f : FileFault)
    → then (cond whole (at_fault misformed Misformed (Ok k)) (Err f)) (λ m. cond (ltb size m) (Err TableShort) (Ok m)) ≡ Ok n
    → (misformed ≡ None) × (k ≡ n) × (n ≤ size)
read_parts size k n false m f h = absurd (ok_err n f h)
read_parts size k n true (Some p) f h = absurd (ok_err n (Misformed p) h)
read_parts size k n true None f h = go (ltb size k) refl h
  where
    go : (b : Bool) → ltb size k ≡ b → cond b (Err TableShort) (Ok k) ≡ Ok n → (◌≡◌ {A = Option ℕ} None None) × (k ≡ n) × (n ≤ size)
    go true e g = absurd (ok_err n TableShort g)
    go false e g = let same : k ≡ n = cc in (refl, same, omega (arith, ltb-false size k e))

read_count : (size : ℕ) (bs : List ℕ) (n : ℕ) → document_read size bs ≡ Ok n → (length (document_nodes bs) ≡ n) × (n ≤ size)
read_count size bs n h =
    let p : (misformed_from (length bs / 16) 0 (records bs) ≡ None) × (length bs / 16 ≡ n) × (n ≤ size) =
    read_parts size (length bs / 16) n (eqb (length bs % 16) 0) (misformed_from (length bs / 16) 0 (records bs)) (Length (length bs / 16)) h in
    let l = length_records bs in
    (omega (arith, all_nodes (length bs / 16) 0 (records bs) (omega arith) p.0), p.2)

pub too_long : (bs : List ℕ) → longest < length bs → document_in bs ≡ Err (File TableShort)
unfolding document_in
too_long bs h = cond-true (ltb longest (length bs)) _ _ (lt-ltb longest (length bs) h)

-- an input that is not too long
not_too_long : (bs : List ℕ) → length bs ≤ longest → document_in bs ≡ if_file (document_read most_records bs) (document_nodes bs)
unfolding document_in
not_too_long bs h = cond-false (ltb longest (length bs)) _ _ (le-ltb longest (length bs) h)

pub no_file : (bs : List ℕ) (size : ℕ) (f : FileFault) → length bs ≤ longest → size ≡ most_records → Err f ≡ document_read size bs → document_in bs ≡ Err (File f)
no_file bs size f h s e =
    let read : document_read most_records bs ≡ Err f = ap (λ m. document_read m bs) (sym s) ∙ sym e in
    not_too_long bs h ∙ ap (λ r. if_file r (document_nodes bs)) read

-- a file whose nodes were read over the front of a table
module _ (bs : List ℕ) (n : ℕ) (entry table : List Node) (short : length bs ≤ longest) (long : length entry ≡ most_records) (kept : length table ≡ length entry)
    (read : Ok n ≡ document_read (length entry) bs) (written : table ≡ over (document_nodes bs) entry) where
  reads : document_read most_records bs ≡ Ok n
  reads = ap (λ m. document_read m bs) (sym long) ∙ sym read

  count : (length (document_nodes bs) ≡ n) × (n ≤ most_records)
  count = read_count most_records bs n reads

  front : take n table ≡ document_nodes bs
  front = ap (take n) written ∙ take_at (document_nodes bs) (drop (length (document_nodes bs)) entry) n count.0

  by_test : document_in bs ≡ if_document (table_test room (take n table)) (take n table)
  by_test = not_too_long bs short ∙ ap (λ r. if_file r (document_nodes bs)) reads ∙ ap (λ xs. if_document (table_test room xs) xs) (sym front)

  -- the scratch memory suffices
  test_runs : (slots : ℕ) → slots ≡ most_records → tested slots room (take n table) ≡ table_test room (take n table)
  test_runs slots e = cond-false (ltb slots (length (take n table))) _ _ (le-ltb slots (length (take n table)) (omega (arith, ap length front, count)))

  pub no_document : (slots : ℕ) (f : DocumentFault) → slots ≡ most_records → Err f ≡ tested slots room (take n table) → document_in bs ≡ Err (Document f)
  no_document slots f e t = by_test ∙ ap (λ r. if_document r (take n table)) (sym (test_runs slots e) ∙ sym t)

  pub listed : (slots : ℕ) → slots ≡ most_records → Ok tt ≡ tested slots room (take n table) → Listed bs table n
  listed slots e t =
      let p = sym (test_runs slots e) ∙ sym t in
      record { within = omega (arith, count); front = front; passed = p; document = by_test ∙ ap (λ r. if_document r (take n table)) p }
