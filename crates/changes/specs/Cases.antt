-- Lists tried on a document of six nodes.
use Rattle.std.specs.Prelude.{ℕ, List, [], ◌∷◌, Some, None, Option}
use Rattle.records.specs.declared.nodes.Kind.{Kind}
use Rattle.records.specs.declared.nodes.Kind.TheVariants.{Element, Attribute, Text}
use Rattle.records.specs.declared.nodes.Node.{Node}
use Rattle.records.specs.declared.operations.Code.{Code}
use Rattle.records.specs.declared.operations.Code.TheVariants.{InsertBefore, InsertAfter, InsertFirst, InsertInto, InsertLast, InsertAttributes, Delete, ReplaceNode, ReplaceValue, ReplaceContent, Rename}
use Rattle.records.specs.declared.operations.Operation.{Operation}
use Rattle.document.specs.Tree.{Label, Forest, nil, node}
use Rattle.document.specs.Table.{document_of}
use Rattle.changes.specs.Changes.{Change, ◌⊕◌}
use Rattle.changes.specs.Stages.{apply}
use Rattle.changes.specs.Reduced.{reduced}
use Rattle.changes.specs.Inverse.{inverse}
use Rattle.faults.specs.declared.ListFault.{ListFault}
use Rattle.faults.specs.declared.Report.{Report}
use Rattle.faults.specs.Numbers.{report, told_list}
use Rattle.changes.specs.Tables.{operation_rows, node_rows, changes_of, list_test}

-- identifier, parent, kind, name, value
abbrev pub row_of : ℕ → ℕ → Kind → ℕ → ℕ → Node
row_of i p k n v = record { id = i; parent = p; kind = k; name = n; value = v }

abbrev pub six_nodes : List Node
six_nodes =
    row_of 1 0 Element 10 0 ∷ row_of 2 1 Attribute 20 7 ∷ row_of 3 1 Element 11 0 ∷ row_of 4 3 Text 0 500 ∷ row_of 5 1 Element 11 0 ∷ row_of 6 1 Element 12 0 ∷ []

unfoldable pub six : Forest
six = document_of six_nodes

-- trees of one node, and the trees of the document
abbrev pub tree : ℕ → Kind → ℕ → ℕ → Forest
tree i k n v = node (record { id = i; kind = k; name = n; value = v }) [] nil nil

abbrev pub element : ℕ → ℕ → Forest
element i n = tree i Element n 0

abbrev pub text : ℕ → ℕ → Forest
text i v = tree i Text 0 v

abbrev pub attribute : ℕ → ℕ → ℕ → Forest
attribute i n v = tree i Attribute n v

abbrev pub element_with : ℕ → ℕ → Forest → Forest
element_with i n k = node (record { id = i; kind = Element; name = n; value = 0 }) [] k nil

-- the root, with its attributes and children
abbrev pub root_with : List Label → Forest → Forest
root_with as' k = node (record { id = 1; kind = Element; name = 10; value = 0 }) as' k nil

abbrev pub label_of : ℕ → ℕ → ℕ → Label
label_of i n v = record { id = i; kind = Attribute; name = n; value = v }

abbrev pub root_of : Forest → Forest
root_of k = root_with (label_of 2 20 7 ∷ []) k

abbrev pub tree_3 : Forest
tree_3 = element_with 3 11 (text 4 500)

-- changes
abbrev pub on_node : ℕ → Code → Forest → Change
on_node t c f = record { target = t; code = c; nodes = f; name = 0; value = 0 }

abbrev pub delete : ℕ → Change
delete t = on_node t Delete nil

abbrev pub rename : ℕ → ℕ → Change
rename t n = record { target = t; code = Rename; nodes = nil; name = n; value = 0 }

abbrev pub set_value : ℕ → ℕ → Change
set_value t v = record { target = t; code = ReplaceValue; nodes = nil; name = 0; value = v }

-- what comes of a list: a refusal, or the changed document with the reduced and the inverse list, and what the inverse list makes of it
pub data Outcome : Type 0 where
  refusal : ℕ → ℕ → Outcome
  change : Forest → List Change → List Change → Forest → Outcome

-- a list, the room it has, and what comes of it
pub record Case : Type 0 where
  pub room : ℕ
  pub list : List Change
  pub outcome : Outcome

abbrev pub told : Option ListFault → Forest → List Change → Outcome
told (Some f) d l = refusal (told_list f).number (told_list f).place
told None d l = change (apply l d) (reduced d l) (inverse d l) (apply (inverse d l) (apply l d))

abbrev pub outcome_of_tables : ℕ → Forest → List Operation → List Node → Outcome
outcome_of_tables room d ops nodes = told (list_test room d ops nodes) d (changes_of ops nodes)

abbrev pub outcome_of : Case → Outcome
outcome_of c = outcome_of_tables c.room six (operation_rows c.list) (node_rows c.list)

abbrev pub expected : Case → Outcome
expected c = c.outcome

abbrev pub accepted : List Change → Forest → List Change → List Change → Case
accepted l d r i = record { room = 1000; list = l; outcome = change d r i (root_of (tree_3 ⊕ (element 5 11 ⊕ element 6 12))) }

abbrev pub declined : List Change → ℕ → ℕ → Case
declined l n p = record { room = 1000; list = l; outcome = refusal n p }

abbrev pub cases : List Case
cases =
    -- nothing
    accepted [] (root_of (tree_3 ⊕ (element 5 11 ⊕ element 6 12))) [] []
    -- neighbours: 3 goes, 5 is replaced, and an insertion stands between them
    ∷ accepted (delete 3 ∷ on_node 5 ReplaceNode (element 30 9) ∷ on_node 5 InsertBefore (element 31 9) ∷ [])
    (root_of (element 31 9 ⊕ (element 30 9 ⊕ element 6 12)))
    (on_node 3 InsertAfter (element 31 9) ∷ delete 3 ∷ on_node 5 ReplaceNode (element 30 9) ∷ [])
    (on_node 1 InsertFirst (tree_3 ⊕ element 5 11) ∷ delete 31 ∷ delete 30 ∷ [])
    -- a second renaming of one node
    ∷ declined (rename 3 13 ∷ rename 3 14 ∷ []) 13 1
    -- a deletion overrides what is done below
    ∷ accepted (delete 3 ∷ set_value 4 600 ∷ []) (root_of (element 5 11 ⊕ element 6 12)) (delete 3 ∷ []) (on_node 1 InsertFirst tree_3 ∷ [])
    -- all gaps of an element with one child
    ∷ accepted (on_node 3 InsertFirst (text 40 1) ∷ on_node 3 InsertInto (text 41 1) ∷ on_node 3 InsertLast (text 42 1) ∷ on_node 4 InsertBefore (text 43 1) ∷ [])
    (root_of (element_with 3 11 (text 40 1 ⊕ (text 41 1 ⊕ (text 43 1 ⊕ (text 4 500 ⊕ text 42 1)))) ⊕ (element 5 11 ⊕ element 6 12)))
    (on_node 3 InsertFirst (text 40 1 ⊕ (text 41 1 ⊕ text 43 1)) ∷ on_node 4 InsertAfter (text 42 1) ∷ [])
    (delete 40 ∷ delete 41 ∷ delete 43 ∷ delete 42 ∷ [])
    -- the root stays
    ∷ declined (delete 1 ∷ []) 12 0
    -- an attribute name that the element has, also where the attribute goes
    ∷ declined (on_node 1 InsertAttributes (attribute 50 20 1) ∷ []) 14 0
    ∷ declined (on_node 1 InsertAttributes (attribute 50 20 1) ∷ delete 2 ∷ []) 14 0
    -- replaced content overrides a deletion below
    ∷ accepted (on_node 3 ReplaceContent (text 60 1) ∷ delete 4 ∷ [])
    (root_of (element_with 3 11 (text 60 1) ⊕ (element 5 11 ⊕ element 6 12)))
    (on_node 3 ReplaceContent (text 60 1) ∷ []) (on_node 3 InsertFirst (text 4 500) ∷ delete 60 ∷ [])
    -- a removed run behind a node that stays
    ∷ accepted (delete 6 ∷ delete 5 ∷ delete 6 ∷ []) (root_of tree_3) (delete 5 ∷ delete 6 ∷ []) (on_node 3 InsertAfter (element 5 11 ⊕ element 6 12) ∷ [])
    -- an insertion behind a node, by itself
    ∷ accepted (on_node 3 InsertAfter (element 32 9) ∷ [])
    (root_of (tree_3 ⊕ (element 32 9 ⊕ (element 5 11 ⊕ element 6 12)))) (on_node 3 InsertAfter (element 32 9) ∷ []) (delete 32 ∷ [])
    -- a deletion and a replacement of one child under replaced content
    ∷ accepted (on_node 4 ReplaceNode (text 61 1) ∷ delete 4 ∷ on_node 3 ReplaceContent nil ∷ on_node 3 InsertLast (text 62 1) ∷ [])
    (root_of (element 3 11 ⊕ (element 5 11 ⊕ element 6 12)))
    (on_node 3 ReplaceContent nil ∷ []) (on_node 3 InsertFirst (text 4 500) ∷ [])
    -- a deletion and a replacement of one child elsewhere
    ∷ accepted (delete 5 ∷ on_node 5 ReplaceNode (element 30 9) ∷ rename 5 15 ∷ on_node 5 InsertInto (text 63 1) ∷ [])
    (root_of (tree_3 ⊕ (element 30 9 ⊕ element 6 12))) (on_node 5 ReplaceNode (element 30 9) ∷ []) (on_node 3 InsertAfter (element 5 11) ∷ delete 30 ∷ [])
    -- a replacement by nothing
    ∷ accepted (on_node 5 ReplaceNode nil ∷ []) (root_of (tree_3 ⊕ element 6 12)) (delete 5 ∷ []) (on_node 3 InsertAfter (element 5 11) ∷ [])
    -- two runs in one parent
    ∷ accepted (delete 6 ∷ delete 3 ∷ []) (root_of (element 5 11)) (delete 3 ∷ delete 6 ∷ [])
    (on_node 1 InsertFirst tree_3 ∷ on_node 5 InsertAfter (element 6 12) ∷ [])
    -- a run broken by an insertion is one run still
    ∷ accepted (delete 3 ∷ on_node 3 InsertAfter (element 33 9) ∷ delete 5 ∷ [])
    (root_of (element 33 9 ⊕ element 6 12)) (on_node 3 InsertAfter (element 33 9) ∷ delete 3 ∷ delete 5 ∷ [])
    (on_node 1 InsertFirst (tree_3 ⊕ element 5 11) ∷ delete 33 ∷ [])
    -- attributes replaced and inserted on one element, and a renaming overridden
    ∷ accepted (rename 2 24 ∷ on_node 2 ReplaceNode (attribute 51 21 8) ∷ on_node 1 InsertAttributes (attribute 52 22 9) ∷ on_node 1 InsertAttributes (attribute 50 23 6) ∷ [])
    (root_with (label_of 50 23 6 ∷ label_of 51 21 8 ∷ label_of 52 22 9 ∷ []) (tree_3 ⊕ (element 5 11 ⊕ element 6 12)))
    (on_node 1 InsertAttributes (attribute 52 22 9 ⊕ attribute 50 23 6) ∷ on_node 2 ReplaceNode (attribute 51 21 8) ∷ [])
    (on_node 1 InsertAttributes (attribute 2 20 7) ∷ delete 50 ∷ delete 51 ∷ delete 52 ∷ [])
    -- an attribute renamed and revalued beside an inserted one, and its element renamed
    ∷ accepted (set_value 2 77 ∷ rename 2 24 ∷ on_node 1 InsertAttributes (attribute 52 22 9) ∷ rename 1 16 ∷ [])
    (node (record { id = 1; kind = Element; name = 16; value = 0 }) (label_of 2 24 77 ∷ label_of 52 22 9 ∷ []) (tree_3 ⊕ (element 5 11 ⊕ element 6 12)) nil)
    (on_node 1 InsertAttributes (attribute 52 22 9) ∷ rename 1 16 ∷ set_value 2 77 ∷ rename 2 24 ∷ [])
    (rename 1 10 ∷ set_value 2 7 ∷ rename 2 20 ∷ delete 52 ∷ [])
    -- one name given twice, in one change and by two
    ∷ declined (on_node 1 InsertAttributes (attribute 52 22 9 ⊕ attribute 53 22 9) ∷ []) 14 0
    ∷ declined (rename 2 22 ∷ on_node 1 InsertAttributes (attribute 52 22 9) ∷ []) 14 1
    -- groups of one code on one target stand in list order, and what comes first before what comes into
    ∷ accepted (on_node 3 InsertInto (text 41 1) ∷ on_node 3 InsertFirst (text 40 1) ∷ on_node 3 InsertInto (text 44 1) ∷ on_node 3 InsertFirst (text 45 1) ∷ on_node 5 InsertLast (text 46 1) ∷ [])
    (root_of (element_with 3 11 (text 40 1 ⊕ (text 45 1 ⊕ (text 41 1 ⊕ (text 44 1 ⊕ text 4 500)))) ⊕ (element_with 5 11 (text 46 1) ⊕ element 6 12)))
    (on_node 3 InsertFirst (text 40 1 ⊕ (text 45 1 ⊕ (text 41 1 ⊕ text 44 1))) ∷ on_node 5 InsertFirst (text 46 1) ∷ [])
    (delete 40 ∷ delete 45 ∷ delete 41 ∷ delete 44 ∷ delete 46 ∷ [])
    -- one gap from both sides, its neighbours staying
    ∷ accepted (on_node 5 InsertBefore (element 34 9) ∷ on_node 3 InsertAfter (element 35 9) ∷ on_node 6 InsertAfter (element 36 9) ∷ on_node 1 InsertLast (element 37 9) ∷ [])
    (root_of (tree_3 ⊕ (element 35 9 ⊕ (element 34 9 ⊕ (element 5 11 ⊕ (element 6 12 ⊕ (element 36 9 ⊕ element 37 9)))))))
    (on_node 3 InsertAfter (element 35 9 ⊕ element 34 9) ∷ on_node 6 InsertAfter (element 36 9 ⊕ element 37 9) ∷ [])
    (delete 35 ∷ delete 34 ∷ delete 36 ∷ delete 37 ∷ [])
    -- groups of every code in list order, on the root too
    ∷ accepted (on_node 3 InsertAfter (element 35 9) ∷ on_node 5 InsertBefore (element 34 9) ∷ on_node 3 InsertAfter (element 36 9) ∷ on_node 1 InsertLast (element 37 9)
    ∷ on_node 5 InsertBefore (element 33 9) ∷ on_node 1 InsertInto (element 39 9) ∷ on_node 1 InsertLast (element 38 9) ∷ [])
    (root_of (element 39 9 ⊕ (tree_3 ⊕ (element 35 9 ⊕ (element 36 9 ⊕ (element 34 9 ⊕ (element 33 9 ⊕ (element 5 11 ⊕ (element 6 12 ⊕ (element 37 9 ⊕ element 38 9))))))))))
    (on_node 1 InsertFirst (element 39 9) ∷ on_node 3 InsertAfter (element 35 9 ⊕ (element 36 9 ⊕ (element 34 9 ⊕ element 33 9)))
    ∷ on_node 6 InsertAfter (element 37 9 ⊕ element 38 9) ∷ [])
    (delete 39 ∷ delete 35 ∷ delete 36 ∷ delete 34 ∷ delete 33 ∷ delete 37 ∷ delete 38 ∷ [])
    -- names of elements may repeat
    ∷ accepted (on_node 3 ReplaceNode (element 30 9 ⊕ element 31 9) ∷ rename 1 20 ∷ [])
    (node (record { id = 1; kind = Element; name = 20; value = 0 }) (label_of 2 20 7 ∷ []) (element 30 9 ⊕ (element 31 9 ⊕ (element 5 11 ⊕ element 6 12))) nil)
    (rename 1 20 ∷ on_node 3 ReplaceNode (element 30 9 ⊕ element 31 9) ∷ [])
    (on_node 1 InsertFirst tree_3 ∷ rename 1 10 ∷ delete 30 ∷ delete 31 ∷ [])
    -- two nodes fill a room of eight, three are too many, though others go
    ∷ record {
      room = 8;
      list = on_node 5 InsertFirst (text 64 1 ⊕ text 65 1) ∷ [];
      outcome = change (root_of (tree_3 ⊕ (element_with 5 11 (text 64 1 ⊕ text 65 1) ⊕ element 6 12))) (on_node 5 InsertFirst (text 64 1 ⊕ text 65 1) ∷ [])
          (delete 64 ∷ delete 65 ∷ []) (root_of (tree_3 ⊕ (element 5 11 ⊕ element 6 12)));
    }
    ∷ record { room = 8; list = delete 3 ∷ on_node 5 InsertFirst (text 64 1 ⊕ (text 65 1 ⊕ text 66 1)) ∷ []; outcome = refusal 15 0 }
    -- nodes of an overridden change need no room
    ∷ record {
      room = 7;
      list = on_node 3 InsertFirst (text 64 1 ⊕ (text 65 1 ⊕ text 66 1)) ∷ delete 3 ∷ on_node 5 InsertFirst (text 67 1) ∷ [];
      outcome = change (root_of (element_with 5 11 (text 67 1) ⊕ element 6 12)) (delete 3 ∷ on_node 5 InsertFirst (text 67 1) ∷ [])
          (on_node 1 InsertFirst tree_3 ∷ delete 67 ∷ []) (root_of (tree_3 ⊕ (element 5 11 ⊕ element 6 12)));
    }
    -- values and names alone
    ∷ accepted (set_value 4 600 ∷ rename 3 13 ∷ [])
    (root_of (element_with 3 13 (text 4 600) ⊕ (element 5 11 ⊕ element 6 12))) (rename 3 13 ∷ set_value 4 600 ∷ []) (rename 3 11 ∷ set_value 4 500 ∷ [])
    -- a tree with attributes and children, beside a root with a smaller identifier
    ∷ accepted (on_node 6 InsertFirst (node (record { id = 71; kind = Element; name = 9; value = 0 }) (label_of 72 20 1 ∷ label_of 73 21 1 ∷ []) (text 74 1) (text 70 1)) ∷ [])
    (root_of (tree_3 ⊕ (element 5 11 ⊕ element_with 6 12 (node (record { id = 71; kind = Element; name = 9; value = 0 }) (label_of 72 20 1 ∷ label_of 73 21 1 ∷ []) (text 74 1) (text 70 1)))))
    (on_node 6 InsertFirst (node (record { id = 71; kind = Element; name = 9; value = 0 }) (label_of 72 20 1 ∷ label_of 73 21 1 ∷ []) (text 74 1) (text 70 1)) ∷ [])
    (delete 71 ∷ delete 70 ∷ [])
    -- attributes come back in one insertion, and so does replaced content with all below it
    ∷ accepted (delete 2 ∷ on_node 1 ReplaceContent nil ∷ []) (root_with [] nil) (on_node 1 ReplaceContent nil ∷ delete 2 ∷ [])
    (on_node 1 InsertFirst (tree_3 ⊕ (element 5 11 ⊕ element 6 12)) ∷ on_node 1 InsertAttributes (attribute 2 20 7) ∷ [])
    -- a name that another element has; a name given twice to an element that goes
    ∷ accepted (on_node 3 InsertAttributes (attribute 50 20 1) ∷ [])
    (root_of (node (record { id = 3; kind = Element; name = 11; value = 0 }) (label_of 50 20 1 ∷ []) (text 4 500) nil ⊕ (element 5 11 ⊕ element 6 12)))
    (on_node 3 InsertAttributes (attribute 50 20 1) ∷ []) (delete 50 ∷ [])
    ∷ accepted (on_node 3 InsertAttributes (attribute 50 20 1) ∷ on_node 3 InsertAttributes (attribute 51 20 1) ∷ delete 3 ∷ [])
    (root_of (element 5 11 ⊕ element 6 12)) (delete 3 ∷ []) (on_node 1 InsertFirst tree_3 ∷ [])
    -- an attribute replaced by one of its own name, and one renamed as it was
    ∷ declined (on_node 2 ReplaceNode (attribute 51 20 1) ∷ []) 14 0
    ∷ declined (delete 5 ∷ rename 2 20 ∷ []) 14 1
    -- TEST 3: a target 0, a renaming without a name, a value where none is due
    ∷ declined (delete 3 ∷ on_node 0 Delete nil ∷ []) 3 1
    ∷ declined (rename 3 0 ∷ []) 3 0
    ∷ declined (record { target = 3; code = Delete; nodes = nil; name = 0; value = 1 } ∷ []) 3 0
    -- TEST 8: identifiers of the document, and earlier ones of the list
    ∷ declined (delete 3 ∷ on_node 5 InsertFirst (element 4 9) ∷ []) 8 1
    ∷ declined (on_node 5 InsertFirst (text 64 1) ∷ on_node 6 InsertFirst (text 64 1) ∷ []) 8 1
    ∷ declined (on_node 5 InsertFirst (text 64 1 ⊕ text 64 1) ∷ []) 8 0
    -- TEST 10: too few or too many nodes, and wrong roots
    ∷ declined (delete 3 ∷ on_node 5 InsertFirst nil ∷ []) 10 1
    ∷ declined (on_node 5 InsertFirst (attribute 50 21 1) ∷ []) 10 0
    ∷ declined (on_node 5 InsertAfter (text 64 1 ⊕ attribute 50 21 1) ∷ []) 10 0
    ∷ declined (on_node 5 InsertAttributes (text 64 1) ∷ []) 10 0
    ∷ declined (on_node 5 InsertAttributes nil ∷ []) 10 0
    ∷ declined (on_node 5 Delete (text 64 1) ∷ []) 10 0
    ∷ declined (on_node 5 ReplaceNode (text 64 1 ⊕ attribute 50 21 1) ∷ []) 10 0
    ∷ declined (on_node 5 ReplaceContent (element 64 9) ∷ []) 10 0
    ∷ declined (on_node 5 ReplaceContent (text 64 1 ⊕ text 65 1) ∷ []) 10 0
    -- TEST 11: an absent target
    ∷ declined (delete 3 ∷ delete 7 ∷ []) 11 1
    -- TEST 12: targets of the wrong kind, roots against the target, and the root
    ∷ declined (on_node 2 InsertBefore (text 64 1) ∷ []) 12 0
    ∷ declined (on_node 2 InsertAfter (text 64 1) ∷ []) 12 0
    ∷ declined (on_node 4 InsertFirst (text 64 1) ∷ []) 12 0
    ∷ declined (on_node 4 InsertInto (text 64 1) ∷ []) 12 0
    ∷ declined (on_node 2 InsertLast (text 64 1) ∷ []) 12 0
    ∷ declined (on_node 4 InsertAttributes (attribute 50 21 1) ∷ []) 12 0
    ∷ declined (on_node 2 ReplaceNode (text 64 1) ∷ []) 12 0
    ∷ declined (on_node 4 ReplaceNode (attribute 50 21 1) ∷ []) 12 0
    ∷ declined (set_value 3 5 ∷ []) 12 0
    ∷ declined (on_node 4 ReplaceContent nil ∷ []) 12 0
    ∷ declined (rename 4 5 ∷ []) 12 0
    ∷ declined (on_node 1 InsertBefore (element 64 9) ∷ []) 12 0
    ∷ declined (on_node 1 InsertAfter (element 64 9) ∷ []) 12 0
    ∷ declined (on_node 1 ReplaceNode (element 64 9) ∷ []) 12 0
    -- TEST 13: a second replacement, value or content of one target
    ∷ declined (on_node 5 ReplaceNode nil ∷ delete 3 ∷ on_node 5 ReplaceNode (element 64 9) ∷ []) 13 2
    ∷ declined (set_value 4 1 ∷ set_value 4 1 ∷ []) 13 1
    ∷ declined (on_node 3 ReplaceContent nil ∷ on_node 3 ReplaceContent nil ∷ []) 13 1
    -- an earlier test comes first, wherever it finds its place
    ∷ declined (delete 1 ∷ delete 7 ∷ []) 11 1 ∷ []

-- tables that are no list: a count too large, nodes left over, a misformed node, a child before its parent, a name twice on an element,
-- attributes not ascending, an attribute behind a child, a child of a text and of an attribute, a parent in another tree
pub record TableCase : Type 0 where
  pub operations : List Operation
  pub nodes : List Node
  pub refused_at : Report

abbrev pub operation_of : ℕ → Code → ℕ → Operation
operation_of t c n = record { target = t; code = c; count = n; name = 0; value = 0 }

abbrev pub at : ℕ → ℕ → Report
at n p = report n 2 p

abbrev pub table_cases : List TableCase
table_cases =
    record { operations = operation_of 3 Delete 0 ∷ operation_of 5 InsertFirst 2 ∷ []; nodes = row_of 70 0 Element 9 0 ∷ []; refused_at = at 2 1 }
    ∷ record { operations = operation_of 3 Delete 0 ∷ operation_of 5 InsertFirst 1 ∷ []; nodes = row_of 70 0 Element 9 0 ∷ row_of 71 0 Element 9 0 ∷ []; refused_at = at 2 2 }
    ∷ record { operations = operation_of 5 InsertFirst 1 ∷ []; nodes = row_of 70 0 Text 9 0 ∷ []; refused_at = at 3 0 }
    ∷ record { operations = operation_of 5 InsertFirst 2 ∷ []; nodes = row_of 71 70 Text 0 0 ∷ row_of 70 0 Element 9 0 ∷ []; refused_at = at 9 0 }
    ∷ record { operations = operation_of 5 InsertFirst 3 ∷ []; nodes = row_of 70 0 Element 9 0 ∷ row_of 71 70 Attribute 8 0 ∷ row_of 72 70 Attribute 8 0 ∷ []; refused_at = at 9 0 }
    ∷ record { operations = operation_of 5 InsertFirst 3 ∷ []; nodes = row_of 70 0 Element 9 0 ∷ row_of 72 70 Attribute 8 0 ∷ row_of 71 70 Attribute 7 0 ∷ []; refused_at = at 9 0 }
    ∷ record { operations = operation_of 5 InsertFirst 3 ∷ []; nodes = row_of 70 0 Element 9 0 ∷ row_of 71 70 Text 0 0 ∷ row_of 72 70 Attribute 8 0 ∷ []; refused_at = at 9 0 }
    ∷ record { operations = operation_of 5 InsertFirst 2 ∷ []; nodes = row_of 70 0 Text 0 0 ∷ row_of 71 70 Text 0 0 ∷ []; refused_at = at 9 0 }
    ∷ record { operations = operation_of 5 InsertAttributes 2 ∷ []; nodes = row_of 70 0 Attribute 9 0 ∷ row_of 71 70 Text 0 0 ∷ []; refused_at = at 9 0 }
    ∷ record { operations = operation_of 3 Delete 0 ∷ operation_of 5 InsertFirst 3 ∷ []; nodes = row_of 70 0 Element 9 0 ∷ row_of 71 0 Element 9 0 ∷ row_of 72 70 Text 0 0 ∷ []; refused_at = at 9 1 }
    ∷ record { operations = operation_of 5 InsertFirst 1 ∷ operation_of 3 InsertFirst 1 ∷ []; nodes = row_of 70 0 Element 9 0 ∷ row_of 71 70 Text 0 0 ∷ []; refused_at = at 9 1 } ∷ []

abbrev pub reported : Option ListFault → Option Report
reported None = None
reported (Some f) = Some (told_list f)

abbrev pub table_outcome : TableCase → Option Report
table_outcome c = reported (list_test 1000 six c.operations c.nodes)

abbrev pub table_expected : TableCase → Option Report
table_expected c = Some c.refused_at
