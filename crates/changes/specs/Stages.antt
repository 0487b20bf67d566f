-- What a change list does to a document: the five stages of upd:applyUpdates.
-- A change whose target an earlier stage has taken away finds it no more, and does nothing.
use Rattle.std.specs.Prelude.{cond, List, [], ◌∷◌, ◌++◌}
use Rattle.records.specs.declared.operations.Code.{Code}
use Rattle.records.specs.declared.operations.Code.TheVariants.{InsertBefore, InsertAfter, InsertFirst, InsertInto, InsertLast, InsertAttributes, Delete, ReplaceNode, ReplaceValue, ReplaceContent, Rename}
use Rattle.document.specs.Tree.{Label, Forest, nil, node}
use Rattle.changes.specs.Changes.{Change, ◌⊕◌, root_labels, insert_labels, changes_on, joined_nodes, first_of, nodes_given, value_given, name_given, or_else, is_some}

-- a node with the value and the name that the list gives it
abbrev pub edited : List Change → Label → Label
edited l r = record {
  id = r.id;
  kind = r.kind;
  name = or_else (name_given (first_of Rename (changes_on r.id l))) r.name;
  value = or_else (value_given (first_of ReplaceValue (changes_on r.id l))) r.value;
}

abbrev pub edited_labels : List Change → List Label → List Label
edited_labels l [] = []
edited_labels l (r ∷ rs) = edited l r ∷ edited_labels l rs

-- Stage 1: upd:insertInto, upd:insertAttributes, upd:replaceValue, upd:rename.
-- What is inserted into an element stands before all its children.
abbrev pub stage_1_into_attributes_values_names : List Change → Forest → Forest
stage_1_into_attributes_values_names l nil = nil
stage_1_into_attributes_values_names l (node r as' k f) =
    node (edited l r)
    (insert_labels (root_labels (joined_nodes InsertAttributes (changes_on r.id l))) (edited_labels l as'))
    (joined_nodes InsertInto (changes_on r.id l) ⊕ stage_1_into_attributes_values_names l k)
    (stage_1_into_attributes_values_names l f)

-- Stage 2: upd:insertBefore, upd:insertAfter, upd:insertIntoAsFirst, upd:insertIntoAsLast
abbrev pub stage_2_before_after_first_last : List Change → Forest → Forest
stage_2_before_after_first_last l nil = nil
stage_2_before_after_first_last l (node r as' k f) =
    joined_nodes InsertBefore (changes_on r.id l)
    ⊕ node r as'
    (joined_nodes InsertFirst (changes_on r.id l) ⊕ (stage_2_before_after_first_last l k ⊕ joined_nodes InsertLast (changes_on r.id l)))
    (joined_nodes InsertAfter (changes_on r.id l) ⊕ stage_2_before_after_first_last l f)

-- the attributes without a change of one code
abbrev pub without_change : Code → List Change → List Label → List Label
without_change c l [] = []
without_change c l (r ∷ rs) = cond (is_some (first_of c (changes_on r.id l))) (without_change c l rs) (r ∷ without_change c l rs)

-- what stands for the replaced ones among attributes
abbrev pub replacements : List Change → List Label → List Label
replacements l [] = []
replacements l (r ∷ rs) = root_labels (or_else (nodes_given (first_of ReplaceNode (changes_on r.id l))) nil) ++ replacements l rs

-- Stage 3: upd:replaceNode
abbrev pub stage_3_replaced_nodes : List Change → Forest → Forest
stage_3_replaced_nodes l nil = nil
stage_3_replaced_nodes l (node r as' k f) =
    or_else (nodes_given (first_of ReplaceNode (changes_on r.id l)))
    (node r (insert_labels (replacements l as') (without_change ReplaceNode l as')) (stage_3_replaced_nodes l k) nil)
    ⊕ stage_3_replaced_nodes l f

-- Stage 4: upd:replaceElementContent. All children go, those just inserted too.
abbrev pub stage_4_replaced_content : List Change → Forest → Forest
stage_4_replaced_content l nil = nil
stage_4_replaced_content l (node r as' k f) =
    node r as' (or_else (nodes_given (first_of ReplaceContent (changes_on r.id l))) (stage_4_replaced_content l k)) (stage_4_replaced_content l f)

-- Stage 5: upd:delete
abbrev pub stage_5_deletions : List Change → Forest → Forest
stage_5_deletions l nil = nil
stage_5_deletions l (node r as' k f) =
    cond (is_some (first_of Delete (changes_on r.id l))) nil (node r (without_change Delete l as') (stage_5_deletions l k) nil)
    ⊕ stage_5_deletions l f

-- the document after a change list
unfoldable pub apply : List Change → Forest → Forest
apply l d =
    stage_5_deletions l
    (stage_4_replaced_content l
    (stage_3_replaced_nodes l
    (stage_2_before_after_first_last l
    (stage_1_into_attributes_values_names l d))))
