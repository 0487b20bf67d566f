-- A record and what it spells determine each other.
use Rattle.std.proofs.Common.{◌≡◌, ℕ, Bool, true, false, eqb, Some, None, Ok, Err, Option, Result, sym, refl, ap, ◌∙◌, arith}
use Rattle.std.specs.Option.{ok_or}
use Rattle.std.specs.Result.{result_ok}
use Rattle.std.proofs.lemmas.Bool.{eqb-true}
use Rattle.std.proofs.lemmas.Bool.Decides.{nat_tests}
use Rattle.codec.specs.declared.fields.Misformed.{Misformed}
use Rattle.codec.specs.declared.spelling.Record.{Record}
use Rattle.records.specs.declared.nodes.Kind.{Kind}
use Rattle.records.specs.declared.nodes.Kind.TheVariants.{Element, Attribute, Text}
use Rattle.records.specs.declared.nodes.Node.{Node}
use Rattle.records.specs.declared.operations.Code.{Code}
use Rattle.records.specs.declared.operations.Code.TheVariants.{InsertBefore, InsertAfter, InsertFirst, InsertInto, InsertLast, InsertAttributes, Delete, ReplaceNode, ReplaceValue, ReplaceContent, Rename}
use Rattle.records.specs.declared.operations.Operation.{Operation}
use Rattle.records.specs.Formed.{kind_number, kind_of, formed_node, code_number, code_of, formed_operation}
use Rattle.codec.specs.Fields.{node_of_kind, node_of, record_of_node, operation_of_code, operation_of, record_of_operation}

kind_back : (k : Kind) → kind_of (kind_number k) ≡ Some k
kind_back Element = refl
kind_back Attribute = refl
kind_back Text = refl

code_back : (c : Code) → code_of (code_number c) ≡ Some c
code_back InsertBefore = refl
code_back InsertAfter = refl
code_back InsertFirst = refl
code_back InsertInto = refl
code_back InsertLast = refl
code_back InsertAttributes = refl
code_back Delete = refl
code_back ReplaceNode = refl
code_back ReplaceValue = refl
code_back ReplaceContent = refl
code_back Rename = refl

-- what a number spells has that number
kind_number_of : (t : ℕ) (k : Kind) → kind_of t ≡ Some k → kind_number k ≡ t
kind_number_of t Element h = grind (arith, nat_tests)
kind_number_of t Attribute h = grind (arith, nat_tests)
kind_number_of t Text h = grind (arith, nat_tests)

code_number_of : (t : ℕ) (c : Code) → code_of t ≡ Some c → code_number c ≡ t
code_number_of t InsertBefore h = grind (arith, nat_tests)
code_number_of t InsertAfter h = grind (arith, nat_tests)
code_number_of t InsertFirst h = grind (arith, nat_tests)
code_number_of t InsertInto h = grind (arith, nat_tests)
code_number_of t InsertLast h = grind (arith, nat_tests)
code_number_of t InsertAttributes h = grind (arith, nat_tests)
code_number_of t Delete h = grind (arith, nat_tests)
code_number_of t ReplaceNode h = grind (arith, nat_tests)
code_number_of t ReplaceValue h = grind (arith, nat_tests)
code_number_of t ReplaceContent h = grind (arith, nat_tests)
code_number_of t Rename h = grind (arith, nat_tests)

-- a well-formed node comes back from its record
pub node_from : (n : Node) → formed_node n ≡ true → node_of (record_of_node n) ≡ Some n
node_from n h = rw (kind_back n.kind, h)

pub operation_from : (o : Operation) → formed_operation o ≡ true → operation_of (record_of_operation o) ≡ Some o
operation_from o h = rw (code_back o.code, h)

pub some_none : {X : Type 0} (x : X) → Some x ≡ None → ⊥
some_none {X} x e = let z : ◌≡◌ {A = ℕ} 0 1 = cc in absurd (omega arith)

-- what an answer says of a record: it is spelt, or it is not
abbrev misformed : Misformed
misformed = record {}

spelt_part : {X : Type 0} (o : Option X) → result_ok (ok_or o misformed) ≡ o
spelt_part None = refl
spelt_part (Some x) = refl

pub spelt_ok : {X : Type 0} (o : Option X) {r : Result X Misformed} {x : X} → r ≡ ok_or o misformed → r ≡ Ok x → o ≡ Some x
spelt_ok o s k = sym (spelt_part o) ∙ ap result_ok (sym s ∙ k)

pub spelt_err : {X : Type 0} (o : Option X) {r : Result X Misformed} {f : Misformed} → r ≡ ok_or o misformed → r ≡ Err f → o ≡ None
spelt_err o s k = sym (spelt_part o) ∙ ap result_ok (sym s ∙ k)

pub spelt_some : {X : Type 0} (o : Option X) {r : Result X Misformed} {x : X} → r ≡ ok_or o misformed → o ≡ Some x → r ≡ Ok x
spelt_some o s k = s ∙ ap (λ q. ok_or q misformed) k

-- a record that spells a node is the record of it
pub node_back : (r : Record) (n : Node) → node_of r ≡ Some n → record_of_node n ≡ r
node_back r n h = go (eqb r.spare 0) refl h
  where
    same : (k : Kind) → kind_of r.tag ≡ Some k → eqb r.spare 0 ≡ true → record_of_node (record { id = r.key; parent = r.link; kind = k; name = r.name; value = r.value }) ≡ r
    same k q e = λ i. record { key = r.key; link = r.link; tag = kind_number_of r.tag k q i; spare = sym (eqb-true r.spare 0 e) i; name = r.name; value = r.value }

    formed : (k : Kind) (b : Bool) → formed_node (record { id = r.key; parent = r.link; kind = k; name = r.name; value = r.value }) ≡ b → kind_of r.tag ≡ Some k → eqb r.spare 0 ≡ true
        → node_of_kind (Some k) r ≡ Some n → record_of_node n ≡ r
    formed k true f q e g = let m : record { id = r.key; parent = r.link; kind = k; name = r.name; value = r.value } ≡ n = cc (rw f at g) in rw (← m) (same k q e)
    formed k false f q e g = absurd (some_none n (sym (rw f at g)))

    spelled : (o : Option Kind) → kind_of r.tag ≡ o → eqb r.spare 0 ≡ true → node_of_kind o r ≡ Some n → record_of_node n ≡ r
    spelled None q e g = absurd (some_none n (sym g))
    spelled (Some k) q e g = formed k _ refl q e g

    go : (b : Bool) → eqb r.spare 0 ≡ b → node_of r ≡ Some n → record_of_node n ≡ r
    go true e g = spelled _ refl e (rw e at g)
    go false e g = absurd (some_none n (sym (rw e at g)))

-- a record that spells an operation is the record of it
pub operation_back : (r : Record) (n : Operation) → operation_of r ≡ Some n → record_of_operation n ≡ r
operation_back r n h = go (eqb r.spare 0) refl h
  where
    same : (k : Code) → code_of r.tag ≡ Some k → eqb r.spare 0 ≡ true → record_of_operation (record { target = r.key; code = k; count = r.link; name = r.name; value = r.value }) ≡ r
    same k q e = λ i. record { key = r.key; link = r.link; tag = code_number_of r.tag k q i; spare = sym (eqb-true r.spare 0 e) i; name = r.name; value = r.value }

    formed : (k : Code) (b : Bool) → formed_operation (record { target = r.key; code = k; count = r.link; name = r.name; value = r.value }) ≡ b → code_of r.tag ≡ Some k → eqb r.spare 0 ≡ true
        → operation_of_code (Some k) r ≡ Some n → record_of_operation n ≡ r
    formed k true f q e g = let m : record { target = r.key; code = k; count = r.link; name = r.name; value = r.value } ≡ n = cc (rw f at g) in rw (← m) (same k q e)
    formed k false f q e g = absurd (some_none n (sym (rw f at g)))

    spelled : (o : Option Code) → code_of r.tag ≡ o → eqb r.spare 0 ≡ true → operation_of_code o r ≡ Some n → record_of_operation n ≡ r
    spelled None q e g = absurd (some_none n (sym g))
    spelled (Some k) q e g = formed k _ refl q e g

    go : (b : Bool) → eqb r.spare 0 ≡ b → operation_of r ≡ Some n → record_of_operation n ≡ r
    go true e g = spelled _ refl e (rw e at g)
    go false e g = absurd (some_none n (sym (rw e at g)))
