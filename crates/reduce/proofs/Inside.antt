-- The parts of what is left inside a node.
use Rattle.std.proofs.Common.{ℕ, cond, List, []}
use Rattle.records.specs.declared.operations.Code.TheVariants.{InsertFirst, InsertInto, ReplaceContent}
use Rattle.document.specs.Tree.{Forest}
use Rattle.changes.specs.Changes.{Change, ◌⊕◌}
use Rattle.changes.specs.Overriding.{has_change}
use Rattle.changes.specs.Reduced.{insertion, replacement}
use Rattle.reduce.specs.Mirror.{group, given_if}

-- what is inserted first, unless the content is replaced
abbrev pub unless_replaced : List Change → ℕ → Forest → List Change
unless_replaced l t below = cond (has_change ReplaceContent t l) [] (insertion t InsertFirst (group l t InsertFirst ⊕ (group l t InsertInto ⊕ below)))

abbrev pub new_content : List Change → ℕ → List Change
new_content l t = replacement t ReplaceContent (given_if (has_change ReplaceContent t l) (group l t ReplaceContent))
