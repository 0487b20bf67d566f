-- Which nodes and operations are well formed, and the numbers of kinds and codes.
use Rattle.std.specs.Prelude.{ℕ, Bool, cond, ◌&&◌, Some, None, Option, Result, ok_or, ◌==◌, nat_lt}
use Rattle.records.specs.declared.numbers.UnknownNumber.{UnknownNumber}
use Rattle.records.specs.declared.nodes.Kind.{Kind}
use Rattle.records.specs.declared.nodes.Kind.TheVariants.{Element, Attribute, Text}
use Rattle.records.specs.declared.nodes.Node.{Node}
use Rattle.records.specs.declared.operations.Code.{Code}
use Rattle.records.specs.declared.operations.Code.TheVariants.{InsertBefore, InsertAfter, InsertFirst, InsertInto, InsertLast, InsertAttributes, Delete, ReplaceNode, ReplaceValue, ReplaceContent, Rename}
use Rattle.records.specs.declared.operations.Operation.{Operation}

abbrev pub kind_number : Kind → ℕ
kind_number Element = 1
kind_number Attribute = 2
kind_number Text = 3

abbrev pub kind_of : ℕ → Option Kind
kind_of n = cond (n == 1) (Some Element) (cond (n == 2) (Some Attribute) (cond (n == 3) (Some Text) None))

-- the kind with a number, or the number that no kind has
abbrev pub kind_from : ℕ → Result Kind UnknownNumber
kind_from n = ok_or (kind_of n) (record { 0 = n })

-- name and value against the kind
abbrev pub fields_suit_kind : Kind → ℕ → ℕ → Bool
fields_suit_kind Element name value = nat_lt 0 name && value == 0
fields_suit_kind Attribute name value = nat_lt 0 name
fields_suit_kind Text name value = name == 0

abbrev pub formed_node : Node → Bool
formed_node n = nat_lt 0 n.id && fields_suit_kind n.kind n.name n.value

abbrev pub code_number : Code → ℕ
code_number InsertBefore = 11
code_number InsertAfter = 12
code_number InsertFirst = 13
code_number InsertInto = 14
code_number InsertLast = 15
code_number InsertAttributes = 16
code_number Delete = 17
code_number ReplaceNode = 18
code_number ReplaceValue = 19
code_number ReplaceContent = 20
code_number Rename = 21

abbrev pub code_of : ℕ → Option Code
code_of n =
    cond (n == 11) (Some InsertBefore) (cond (n == 12) (Some InsertAfter) (cond (n == 13) (Some InsertFirst) (cond (n == 14) (Some InsertInto)
    (cond (n == 15) (Some InsertLast) (cond (n == 16) (Some InsertAttributes) (cond (n == 17) (Some Delete) (cond (n == 18) (Some ReplaceNode)
    (cond (n == 19) (Some ReplaceValue) (cond (n == 20) (Some ReplaceContent) (cond (n == 21) (Some Rename) None))))))))))

-- the code with a number, or the number that no code has
abbrev pub code_from : ℕ → Result Code UnknownNumber
code_from n = ok_or (code_of n) (record { 0 = n })

-- name and value against the code: only a renaming has a name, only a replaced value has a value
abbrev pub fields_suit_code : Code → ℕ → ℕ → Bool
fields_suit_code InsertBefore name value = name == 0 && value == 0
fields_suit_code InsertAfter name value = name == 0 && value == 0
fields_suit_code InsertFirst name value = name == 0 && value == 0
fields_suit_code InsertInto name value = name == 0 && value == 0
fields_suit_code InsertLast name value = name == 0 && value == 0
fields_suit_code InsertAttributes name value = name == 0 && value == 0
fields_suit_code Delete name value = name == 0 && value == 0
fields_suit_code ReplaceNode name value = name == 0 && value == 0
fields_suit_code ReplaceValue name value = name == 0
fields_suit_code ReplaceContent name value = name == 0 && value == 0
fields_suit_code Rename name value = nat_lt 0 name && value == 0

abbrev pub formed_operation : Operation → Bool
formed_operation o = nat_lt 0 o.target && fields_suit_code o.code o.name o.value
