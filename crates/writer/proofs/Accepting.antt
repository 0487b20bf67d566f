-- What is read from a file that passes the reader's tests passes the writer's.
use Rattle.std.proofs.Common.{◌≡◌, ℕ, zero, suc, ◌+◌, ◌*◌, ◌/◌, ◌%◌, ◌≤◌, Bool, true, false, cond, eqb, List, [], ◌∷◌, ◌++◌, length, take, drop, Some, None, Ok, Err, Option, Result, sym, refl, ap, ◌∙◌, subst, arith}
use Rattle.std.proofs.lemmas.Bool.{and_parts, and_from, eqb-true, le-ltb, le-leb}
use Rattle.codec.specs.declared.spelling.Record.{Record}
use Rattle.records.specs.declared.nodes.Kind.{Kind}
use Rattle.records.specs.declared.nodes.Node.{Node}
use Rattle.records.specs.declared.operations.Code.{Code}
use Rattle.records.specs.declared.operations.Operation.{Operation}
use Rattle.records.specs.Formed.{kind_of, code_of, formed_node, formed_operation}
use Rattle.codec.specs.Fields.{node_of_kind, node_of, operation_of_code, operation_of}
use Rattle.codec.proofs.Spelled.{some_none, operation_back}
use Rattle.faults.specs.declared.FileFault.{FileFault}
use Rattle.faults.specs.declared.FileFault.TheVariants.{Length}
use Rattle.faults.specs.declared.Fault.TheVariants.{File}
use Rattle.document.specs.Table.{misformed_from as misformed_node_from}
use Rattle.changes.specs.Tables.{all_formed, miscounted_from, first_operation, misformed}
use Rattle.reader.specs.Bytes.{records}
use Rattle.reader.specs.Reading.{structure_from, misformed_from, and_some, operations_in, nodes_in, if_whole, at_fault, document_nodes, list_operations, list_nodes}
use Rattle.reader.proofs.Accepting.{ok_err, document_accepted, list_accepted, list_counted}
use Rattle.reader.proofs.Back.{structure_suc, misformed_suc, operations_suc, nodes_suc, record_step, built, all_nodes}
use Rattle.reader.proofs.Rows.{length_records}
use Rattle.writer.specs.Accepted.{AcceptedDocumentIsWrittenBack, AcceptedListIsWrittenBack}
use Rattle.writer.specs.Writing.{then, tested_room}
use Rattle.writer.proofs.Formed.{formed_from_none}

-- WHAT A RECORD SPELLS IS FORMED
-- a value that only a test lets through
let_through : {X : Type 0} (b : Bool) (o : Option X) (y : X) → cond b o None ≡ Some y → (b ≡ true) × (o ≡ Some y)
let_through true o y e = (refl, e)
let_through false o y e = absurd (some_none y (sym e))

node_formed : (r : Record) (x : Node) → node_of r ≡ Some x → formed_node x ≡ true
node_formed r x h = of_kind (kind_of r.tag) (let_through (eqb r.spare 0) _ x h).1
  where
    of_kind : (k : Option Kind) → node_of_kind k r ≡ Some x → formed_node x ≡ true
    of_kind None e = absurd (some_none x (sym e))
    of_kind (Some k) e =
        let made : Node = record { id = r.key; parent = r.link; kind = k; name = r.name; value = r.value } in
        let t = let_through (formed_node made) (Some made) x e in
        let same : made ≡ x = cc t.1 in
        ap formed_node (sym same) ∙ t.0

operation_formed : (r : Record) (o : Operation) → operation_of r ≡ Some o → formed_operation o ≡ true
operation_formed r o h = of_code (code_of r.tag) (let_through (eqb r.spare 0) _ o h).1
  where
    of_code : (k : Option Code) → operation_of_code k r ≡ Some o → formed_operation o ≡ true
    of_code None e = absurd (some_none o (sym e))
    of_code (Some k) e =
        let made : Operation = record { target = r.key; code = k; count = r.link; name = r.name; value = r.value } in
        let t = let_through (formed_operation made) (Some made) o e in
        let same : made ≡ o = cc t.1 in
        ap formed_operation (sym same) ∙ t.0

-- a node that is due, and what follows it
module _ (d n : ℕ) (r : Record) (rs : List Record) (m : misformed_from (suc d) n (r ∷ rs) ≡ None) where
  due_node : (x : Node) × (node_of r ≡ Some x) × (misformed_from d (n + 1) rs ≡ None)
  due_node = record_step n (node_of r) (misformed_from d (n + 1) rs) (sym (misformed_suc d n r rs) ∙ m)

  nodes_here : nodes_in (suc d) (r ∷ rs) ≡ due_node.0 ∷ nodes_in d rs
  nodes_here = nodes_suc d n r rs ∙ ap (λ x. and_some x (nodes_in d rs)) due_node.1

-- they are formed; k is the place of the first node
nodes_pass : (due n k : ℕ) (rs : List Record) → misformed_from due n rs ≡ None → misformed_node_from k (nodes_in due rs) ≡ None
nodes_pass due n k [] m = refl
nodes_pass zero n k (r ∷ rs) m = nodes_pass r.link (n + 1) k rs (record_step n (operation_of r) _ m).2
nodes_pass (suc d) n k (r ∷ rs) m =
    let x = due_node d n r rs m in
    ap (misformed_node_from k) (nodes_here d n r rs m) ∙ rw (node_formed r x.0 x.1) (nodes_pass d (n + 1) (k + 1) rs x.2)

nodes_formed : (due n : ℕ) (rs : List Record) → misformed_from due n rs ≡ None → all_formed (nodes_in due rs) ≡ true
nodes_formed due n rs m = formed_from_none 0 (nodes_in due rs) (nodes_pass due n 0 rs m)

-- as many as are due are there
nodes_enough : (due n : ℕ) (rs : List Record) → due ≤ length rs → misformed_from due n rs ≡ None → due ≤ length (nodes_in due rs)
nodes_enough zero n rs h m = omega arith
nodes_enough (suc d) n [] h m = absurd (omega arith)
nodes_enough (suc d) n (r ∷ rs) h m = omega (arith, ap length (nodes_here d n r rs m), nodes_enough d (n + 1) rs (omega arith) (due_node d n r rs m).2)

take_formed : (n : ℕ) (xs : List Node) → all_formed xs ≡ true → all_formed (take n xs) ≡ true
take_formed zero xs f = refl
take_formed (suc n) [] f = refl
take_formed (suc n) (x ∷ xs) f =
    let a = and_parts (formed_node x) (all_formed xs) f in
    and_from (formed_node x) (all_formed (take n xs)) a.0 (take_formed n xs a.1)

-- what the writer tests of tables, from an operation at place k on, with the nodes e before
abbrev Pass : List Node → ℕ → List Operation → List Node → Type 0
Pass e k os xs = (miscounted_from k os xs ≡ None) × (first_operation misformed e k os xs ≡ None)

-- one operation before tables that pass
pass_more : (e : List Node) (k : ℕ) (o : Operation) (os : List Operation) (xs : List Node) → o.count ≤ length xs → formed_operation o ≡ true → all_formed xs ≡ true
    → Pass (take o.count xs ++ e) (k + 1) os (drop o.count xs) → Pass e k (o ∷ os) xs
pass_more e k o os xs h f g later = (rw (le-leb o.count (length xs) h) later.0, rw (f, take_formed o.count xs g) later.1)

-- behind the nodes that are due
tables_pass : (due n k : ℕ) (e : List Node) (rs : List Record) → due ≤ length rs → structure_from due n rs ≡ None → misformed_from due n rs ≡ None
    → Pass e k (operations_in due rs) (drop due (nodes_in due rs))
tables_pass zero n k e [] h s m = (refl, refl)
tables_pass (suc d) n k e [] h s m = absurd (omega arith)
tables_pass zero n k e (r ∷ rs) h s m =
    let x = record_step n (operation_of r) (misformed_from r.link (n + 1) rs) m in
    let o = x.0 in
    let b = built n r rs s in
    let os = operations_in r.link rs in
    let xs = nodes_in r.link rs in
    let c : o.count ≡ r.link = ap (λ q. q.link) (operation_back r o x.1) in
    let enough : o.count ≤ length xs = omega (arith, nodes_enough r.link (n + 1) rs b.0 x.2) in
    let before = take o.count xs ++ e in
    let later = tables_pass r.link (n + 1) (k + 1) before rs b.0 b.1 x.2 in
    let passes : Pass before (k + 1) os (drop o.count xs) = subst (λ q. Pass before (k + 1) os (drop q xs)) (sym c) later in
    rw x.1 (pass_more e k o os xs enough (operation_formed r o x.1) (nodes_formed r.link (n + 1) rs x.2) passes)
tables_pass (suc d) n k e (r ∷ rs) h s m =
    let later = tables_pass d (n + 1) k e rs (omega arith) (sym (structure_suc d n r rs) ∙ s) (due_node d n r rs m).2 in
    let os = operations_suc d n r rs in
    let xs = ap (drop (suc d)) (nodes_here d n r rs m) in
    ((λ i. miscounted_from k (os i) (xs i)) ∙ later.0, (λ i. first_operation misformed e k (os i) (xs i)) ∙ later.1)

-- FILES THAT PASS THE READER'S TESTS
-- what a test that passes says, and that those behind it pass
whole_file : {X : Type 0} (bs : List ℕ) (later : Result X FileFault) (x : X) → if_whole bs later ≡ Ok x → (eqb (length bs % 16) 0 ≡ true) × (later ≡ Ok x)
whole_file {X} bs later x e = go (eqb (length bs % 16) 0) refl e
  where
    go : (b : Bool) → eqb (length bs % 16) 0 ≡ b → cond b later (Err (Length (length bs / 16))) ≡ Ok x → (eqb (length bs % 16) 0 ≡ true) × (later ≡ Ok x)
    go true t g = (t, g)
    go false t g = absurd (ok_err x _ g)

no_place : {X : Type 0} (o : Option ℕ) (fault : ℕ → FileFault) (later : Result X FileFault) (x : X) → at_fault o fault later ≡ Ok x → (o ≡ None) × (later ≡ Ok x)
no_place None fault later x e = (refl, e)
no_place (Some n) fault later x e = absurd (ok_err x (fault n) e)

-- there is room for so many records, and they fill it
room_filled : (room n : ℕ) → room ≡ 16 * n → then {X = ℕ} (tested_room room n) File (Ok (16 * n)) ≡ Ok room
room_filled room n e = rw (le-ltb (room / 16) n (omega arith)) (ap Ok (sym e))

pub document_written_back : AcceptedDocumentIsWrittenBack
document_written_back bs n typed t =
    let w = whole_file bs _ n t in
    let f = (no_place (misformed_from (length bs / 16) 0 (records bs)) _ _ n w.1).0 in
    let counted : if_whole {X = ℕ} bs (Ok (length bs / 16)) ≡ Ok (length bs / 16) = rw w.0 in
    let long : length (document_nodes bs) ≡ length bs / 16 = all_nodes (length bs / 16) 0 (records bs) (omega (arith, length_records bs)) f ∙ length_records bs in
    let filled = room_filled (length bs) (length (document_nodes bs)) (omega (arith, eqb-true (length bs % 16) 0 w.0)) in
    (rw (nodes_pass (length bs / 16) 0 0 (records bs) f) filled, (document_accepted bs (length bs / 16) counted typed f).1.back)

pub list_written_back : AcceptedListIsWrittenBack
list_written_back bs n typed t =
    let w = whole_file bs _ n t in
    let s = no_place (structure_from 0 0 (records bs)) _ _ n w.1 in
    let f = (no_place (misformed_from 0 0 (records bs)) _ _ n s.1).0 in
    let counted : if_whole {X = ℕ} bs (Ok (length bs / 16)) ≡ Ok (length bs / 16) = rw w.0 in
    let count = length (list_operations bs) + length (list_nodes bs) in
    let long : count ≡ length bs / 16 = list_counted bs (length bs / 16) counted typed f in
    let filled = room_filled (length bs) count (omega (arith, eqb-true (length bs % 16) 0 w.0)) in
    let p = tables_pass 0 0 0 [] (records bs) (omega arith) s.0 f in
    (rw (p.0, p.1) filled, (list_accepted bs (length bs / 16) counted typed (length (list_operations bs)) refl s.0 f).1.back)
