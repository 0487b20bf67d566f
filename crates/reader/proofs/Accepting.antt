-- What a file that passes the tests is.
use Rattle.std.proofs.Common.{◌≡◌, ℕ, ◌+◌, ◌-◌, ◌/◌, ◌%◌, ◌<◌, Bool, true, false, eqb, List, length, get_or, None, Ok, Err, sym, refl, ap, ◌∙◌, arith}
use Rattle.std.proofs.lemmas.Bool.{eqb-true}
use Rattle.reader.specs.Accepted.{DocumentFile, ListFile}
use Rattle.reader.specs.Bytes.{records, file_of}
use Rattle.reader.specs.Reading.{if_whole, structure_from, misformed_from, document_tested, list_operations, list_nodes, list_tested}
use Rattle.reader.proofs.Rows.{length_records, file_of_records}
use Rattle.reader.proofs.Back.{counted, nodes_back, tables_back}

pub ok_err : {X E : Type 0} (x : X) (e : E) → Err e ≡ Ok x → ⊥
ok_err {X} {E} x e h = let z : ◌≡◌ {A = ℕ} 0 1 = cc in absurd (omega arith)

-- whole records, and how many
pub whole_parts : (bs : List ℕ) (n : ℕ) → if_whole {X = ℕ} bs (Ok (length bs / 16)) ≡ Ok n → (eqb (length bs % 16) 0 ≡ true) × (n ≡ length bs / 16)
whole_parts bs n h = go (eqb (length bs % 16) 0) refl h
  where
    go : (b : Bool) → eqb (length bs % 16) 0 ≡ b → if_whole {X = ℕ} bs (Ok (length bs / 16)) ≡ Ok n → (eqb (length bs % 16) 0 ≡ true) × (n ≡ length bs / 16)
    go true e g = (e, sym (cc (rw e at g)))
    go false e g = absurd (ok_err n _ (rw e at g))

module _ (bs : List ℕ) (n : ℕ) (whole : if_whole {X = ℕ} bs (Ok (length bs / 16)) ≡ Ok n) (typed : (i : ℕ) → get_or bs i 0 < 256) where
  bytes_back : file_of (records bs) ≡ bs
  bytes_back = file_of_records bs (eqb-true (length bs % 16) 0 (whole_parts bs n whole).0) typed

  pub document_accepted : misformed_from n 0 (records bs) ≡ None → (Ok n ≡ document_tested bs) × DocumentFile bs n
  document_accepted m =
      let p = whole_parts bs n whole in
      let f : misformed_from (length bs / 16) 0 (records bs) ≡ None = rw p.1 at m in
      let b = nodes_back (length bs / 16) 0 (records bs) (omega (arith, length_records bs)) f in
      (rw (p.0, f, p.1), record { nodes = p.1; formed = f; back = ap file_of b ∙ bytes_back })

  pub list_counted : misformed_from 0 0 (records bs) ≡ None → length (list_operations bs) + length (list_nodes bs) ≡ n
  list_counted f = omega (arith, counted 0 0 (records bs) f, length_records bs, (whole_parts bs n whole).1)

  pub list_accepted : (o : ℕ) → o ≡ length (list_operations bs) → structure_from 0 0 (records bs) ≡ None → misformed_from 0 0 (records bs) ≡ None
      → (Ok (o, n - o) ≡ list_tested bs) × ListFile bs (o, n - o)
  list_accepted o e s f =
      let p = whole_parts bs n whole in
      let b = tables_back 0 0 (records bs) (omega arith) s f in
      (rw (p.0, s, f, e, p.1), record { operations = e; nodes = omega (arith, list_counted f); formed = f; back = ap file_of b ∙ bytes_back })
