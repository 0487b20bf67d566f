-- The records of tables that pass the tests are read as those tables.
use Rattle.std.proofs.Common.{◌≡◌, ℕ, ◌+◌, ◌-◌, ◌≤◌, Bool, true, false, cond, ◌&&◌, eqb, ltb, List, [], ◌∷◌, ◌++◌, length, take, drop, is_some, Some, None, sym, refl, ap, ◌∙◌, append-nil, arith, length-append, length-drop, ltb-false, le-ltb}
use lib.ListN.{length-map}
use Rattle.std.proofs.lemmas.Bool.{and_parts, eqb-true}
use Rattle.std.proofs.lemmas.List.{nil_from_length, length-take-le, take-append-drop}
use Rattle.codec.specs.declared.spelling.Record.{Record}
use Rattle.records.specs.declared.nodes.Node.{Node}
use Rattle.records.specs.declared.operations.Operation.{Operation}
use Rattle.records.specs.declared.operations.Code.{Code}
use Rattle.records.specs.declared.operations.Code.TheVariants.{InsertBefore, InsertAfter, InsertFirst, InsertInto, InsertLast, InsertAttributes, Delete, ReplaceNode, ReplaceValue, ReplaceContent, Rename}
use Rattle.records.specs.Formed.{kind_of, code_number, formed_node, formed_operation}
use Rattle.codec.specs.Fields.{record_of_node}
use Rattle.codec.proofs.Spelled.{some_none, node_from, operation_from}
use Rattle.reader.specs.Reading.{structure_from, misformed_from, and_some, operations_in, nodes_in}
use Rattle.reader.specs.Layout.{document_records, list_records}
use Rattle.changes.specs.Tables.{all_formed}
use Rattle.writer.specs.Scans.{counts_from, misformed_list_from}
use Rattle.reader.proofs.Back.{structure_suc, misformed_suc, operations_suc, nodes_suc}

-- the records of formed nodes are read as those nodes, and then what follows
nodes_formed : (ys : List Node) (rest : List Record) → all_formed ys ≡ true
    → (((p : ℕ) → misformed_from 0 p rest ≡ None) → (p : ℕ) → misformed_from (length ys) p (document_records ys ++ rest) ≡ None)
    × (nodes_in (length ys) (document_records ys ++ rest) ≡ ys ++ nodes_in 0 rest)
nodes_formed [] rest f = (λ h p. h p, refl)
nodes_formed (y ∷ ys) rest f =
    let a = and_parts (formed_node y) (all_formed ys) f in
    let x = node_from y a.0 in
    let later = nodes_formed ys rest a.1 in
    let r = record_of_node y in
    let rs = document_records ys ++ rest in (
      λ h p. misformed_suc (length ys) p r rs ∙ ap (λ o. cond (is_some o) (misformed_from (length ys) (p + 1) rs) (Some p)) x ∙ later.0 h (p + 1),
      nodes_suc (length ys) 0 r rs ∙ ap (λ o. and_some o (nodes_in (length ys) rs)) x ∙ ap (λ l. y ∷ l) later.1,
    )

nodes_passed : (ys : List Node) (rest : List Record)
    → (((p : ℕ) → structure_from 0 p rest ≡ None) → (p : ℕ) → structure_from (length ys) p (document_records ys ++ rest) ≡ None)
    × (operations_in (length ys) (document_records ys ++ rest) ≡ operations_in 0 rest)
nodes_passed [] rest = (λ h p. h p, refl)
nodes_passed (y ∷ ys) rest =
    let later = nodes_passed ys rest in (
      λ h p. structure_suc (length ys) p (record_of_node y) (document_records ys ++ rest) ∙ later.0 h (p + 1),
      operations_suc (length ys) 0 (record_of_node y) (document_records ys ++ rest) ∙ later.1,
    )

pub document_reads : (xs : List Node) → all_formed xs ≡ true → (misformed_from (length xs) 0 (document_records xs) ≡ None) × (nodes_in (length xs) (document_records xs) ≡ xs)
document_reads xs f =
    let s = nodes_formed xs [] f in (
      ap (misformed_from (length xs) 0) (sym (append-nil (document_records xs))) ∙ s.0 (λ p. refl) 0,
      ap (nodes_in (length xs)) (sym (append-nil (document_records xs))) ∙ s.1 ∙ append-nil xs,
    )

no_kind : (c : Code) → is_some (kind_of (code_number c)) ≡ false
no_kind InsertBefore = refl
no_kind InsertAfter = refl
no_kind InsertFirst = refl
no_kind InsertInto = refl
no_kind InsertLast = refl
no_kind InsertAttributes = refl
no_kind Delete = refl
no_kind ReplaceNode = refl
no_kind ReplaceValue = refl
no_kind ReplaceContent = refl
no_kind Rename = refl

-- what the tests on tables say of their first operation
pub counts_first : (n : ℕ) (o : Operation) (os : List Operation) (left : ℕ) → counts_from n (o ∷ os) left ≡ None → (o.count ≤ left) × (counts_from (n + 1) os (left - o.count) ≡ None)
counts_first n o os left h = go (ltb left o.count) refl
  where
    go : (b : Bool) → ltb left o.count ≡ b → (o.count ≤ left) × (counts_from (n + 1) os (left - o.count) ≡ None)
    go true e = absurd (some_none n (rw e at h))
    go false e = (ltb-false left o.count e, rw e at h)

formed_first : (n : ℕ) (o : Operation) (os : List Operation) (xs : List Node) → misformed_list_from n (o ∷ os) xs ≡ None
    → (formed_operation o ≡ true) × (all_formed (take o.count xs) ≡ true) × (misformed_list_from (n + 1) os (drop o.count xs) ≡ None)
formed_first n o os xs h = go (formed_operation o && all_formed (take o.count xs)) refl
  where
    go : (b : Bool) → (formed_operation o && all_formed (take o.count xs)) ≡ b
        → (formed_operation o ≡ true) × (all_formed (take o.count xs) ≡ true) × (misformed_list_from (n + 1) os (drop o.count xs) ≡ None)
    go false e = absurd (some_none n (rw e at h))
    go true e = let a = and_parts (formed_operation o) (all_formed (take o.count xs)) e in (a.0, a.1, rw e at h)

pub none_left : (n left : ℕ) → counts_from n [] left ≡ None → left ≡ 0
none_left n left h = go (eqb left 0) refl
  where
    go : (b : Bool) → eqb left 0 ≡ b → left ≡ 0
    go true e = eqb-true left 0 e
    go false e = absurd (some_none n (rw e at h))

-- the records of tables that pass the tests are well built and well formed, and are read as those tables
pub record Reads (os : List Operation) (xs : List Node) : Type 0 where
  pub built : (p : ℕ) → structure_from 0 p (list_records os xs) ≡ None
  pub formed : (p : ℕ) → misformed_from 0 p (list_records os xs) ≡ None
  pub operations : operations_in 0 (list_records os xs) ≡ os
  pub nodes : nodes_in 0 (list_records os xs) ≡ xs

pub list_reads : (n : ℕ) (os : List Operation) (xs : List Node) → counts_from n os (length xs) ≡ None → misformed_list_from n os xs ≡ None → Reads os xs
list_reads n [] xs c m = record { built = λ p. refl; formed = λ p. refl; operations = refl; nodes = sym (nil_from_length xs (none_left n (length xs) c)) }
list_reads n (o ∷ os) xs c m =
    let cf = counts_first n o os (length xs) c in
    let ff = formed_first n o os xs m in
    let left = length-drop o.count xs in
    step cf.0 ff.0 ff.1 (list_reads (n + 1) os (drop o.count xs) (ap (counts_from (n + 1) os) left ∙ cf.1) ff.2)
  where
    step : o.count ≤ length xs → formed_operation o ≡ true → all_formed (take o.count xs) ≡ true → Reads os (drop o.count xs) → Reads (o ∷ os) xs
    step h f g later =
        let ys = take o.count xs in
        let rest = list_records os (drop o.count xs) in
        let long : length ys ≡ o.count = length-take-le o.count xs h in
        let follow : o.count ≤ length (document_records ys ++ rest) = omega (arith, length-append (document_records ys) rest, length-map ys record_of_node, long) in
        let short = le-ltb (length (document_records ys ++ rest)) o.count follow in
        let passed = nodes_passed ys rest in
        let read = nodes_formed ys rest g in
        let x = operation_from o f in
        record {
          built = λ p. rw (no_kind o.code, short) (ap (λ q. structure_from q (p + 1) (document_records ys ++ rest)) (sym long) ∙ passed.0 later.built (p + 1));
          formed = λ p. rw x (ap (λ q. misformed_from q (p + 1) (document_records ys ++ rest)) (sym long) ∙ read.0 later.formed (p + 1));
          operations = rw x (ap (λ l. o ∷ l) (ap (λ q. operations_in q (document_records ys ++ rest)) (sym long) ∙ passed.1 ∙ later.operations));
          nodes = ap (λ q. nodes_in q (document_records ys ++ rest)) (sym long) ∙ read.1 ∙ ap (λ l. ys ++ l) later.nodes ∙ take-append-drop o.count xs;
        }
