-- The reduced list, read off the document node by node with look-ups in the list.
use Rattle.std.specs.Prelude.{ℕ, Bool, true, false, cond, ◌||◌, List, [], ◌∷◌, ◌++◌, Some, None, Option}
use Rattle.records.specs.declared.operations.Code.{Code}
use Rattle.records.specs.declared.operations.Code.TheVariants.{InsertBefore, InsertAfter, InsertFirst, InsertInto, InsertLast, InsertAttributes, Delete, ReplaceNode, ReplaceValue, ReplaceContent, Rename}
use Rattle.document.specs.Tree.{Label, Forest, nil, node}
use Rattle.changes.specs.Changes.{Change, ◌⊕◌, changes_on, joined_nodes, first_of, value_given, name_given}
use Rattle.changes.specs.Reduced.{insertion, deletion_of, replacement, new_value, new_name}
use Rattle.changes.specs.Overriding.{has_change}
use Rattle.changes.specs.Tests.{is_empty}
use Rattle.walk.specs.Ahead.{Row}

-- the nodes of all changes of a code on a target
abbrev pub group : List Change → ℕ → Code → Forest
group l t c = joined_nodes c (changes_on t l)

abbrev pub value_on : List Change → ℕ → Option ℕ
value_on l t = value_given (first_of ReplaceValue (changes_on t l))

abbrev pub name_on : List Change → ℕ → Option ℕ
name_on l t = name_given (first_of Rename (changes_on t l))

-- whether a node goes, and whether all below it is overridden
abbrev pub goes : List Change → ℕ → Bool
goes l t = has_change ReplaceNode t l || has_change Delete t l

abbrev pub cuts : List Change → ℕ → Bool
cuts l t = goes l t || has_change ReplaceContent t l

-- how a node goes: replaced by something, or else deleted
abbrev pub departure : List Change → ℕ → List Change
departure l t = deletion_of t (is_empty (group l t ReplaceNode)) ++ insertion t ReplaceNode (group l t ReplaceNode)

abbrev pub given_if : Bool → Forest → Option Forest
given_if true f = Some f
given_if false f = None

-- what is left on an attribute, and on all of them
abbrev pub left_on_attribute : List Change → ℕ → List Change
left_on_attribute l t = cond (goes l t) (departure l t) (new_value t (value_on l t) ++ new_name t (name_on l t))

abbrev pub left_on_attributes : List Change → List Label → List Change
left_on_attributes l [] = []
left_on_attributes l (r ∷ rs) = left_on_attribute l r.id ++ left_on_attributes l rs

-- what is inserted before the first of a row below p, or else last into p
abbrev pub gap : List Change → ℕ → Forest → Forest
gap l p nil = group l p InsertLast
gap l p (node r as' k f) = group l r.id InsertBefore

-- what is left on a node that stays; h is what else is inserted before its first child
abbrev pub left_inside : List Change → ℕ → Forest → List Change
left_inside l t h =
    cond (has_change ReplaceContent t l) [] (insertion t InsertFirst (group l t InsertFirst ⊕ (group l t InsertInto ⊕ h)))
    ++ (insertion t InsertAttributes (group l t InsertAttributes) ++ (new_value t (value_on l t)
    ++ (replacement t ReplaceContent (given_if (has_change ReplaceContent t l) (group l t ReplaceContent)) ++ new_name t (name_on l t))))

-- what is left on a node; g is what else is inserted behind it
abbrev pub left_on : List Change → ℕ → Forest → Forest → List Change
left_on l t g h = insertion t InsertAfter (group l t InsertAfter ⊕ g) ++ cond (goes l t) (departure l t) (left_inside l t h)

-- what is left on a node and its attributes, of a row of trees below p that begins with it
abbrev pub left_at : List Change → ℕ → Label → List Label → Forest → Forest → List Change
left_at l p r as' k f = left_on l r.id (gap l p f) (gap l r.id k) ++ cond (goes l r.id) [] (left_on_attributes l as')

-- the reduced changes on a row of trees below p
abbrev pub reduced_row : List Change → ℕ → Forest → List Change
reduced_row l p nil = []
reduced_row l p (node r as' k f) = left_at l p r as' k f ++ (cond (cuts l r.id) [] (reduced_row l r.id k) ++ reduced_row l p f)

-- what is left on the node at which a walk stands
abbrev pub left_at_first : List Change → ℕ → Forest → List Change
left_at_first l p nil = []
left_at_first l p (node r as' k f) = left_at l p r as' k f

abbrev pub left_ahead : List Change → List Row → List Change
left_ahead l [] = []
left_ahead l (w ∷ s) = left_at_first l w.parent w.trees
