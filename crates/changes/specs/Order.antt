-- The order of a list: by target in document order, then by code.
use Rattle.std.specs.Prelude.{◌≡◌, ℕ, ◌+◌, ◌<◌, Bool, true, false, cond, ◌&&◌, ◌⊎◌, List, [], ◌∷◌, ◌==◌}
use Rattle.records.specs.Formed.{code_number}
use Rattle.records.specs.declared.nodes.Node.{Node}
use Rattle.records.specs.declared.operations.Code.{Code}
use Rattle.records.specs.declared.operations.Code.TheVariants.{InsertBefore, InsertAfter, InsertFirst, InsertInto, InsertLast, InsertAttributes, Delete, ReplaceNode, ReplaceValue, ReplaceContent, Rename}
use Rattle.document.specs.Tree.{Forest, one}
use Rattle.document.specs.Listing.{listing}
use Rattle.changes.specs.Changes.{Change, same_code}

-- the place of a node in a table
abbrev pub rank : ℕ → List Node → ℕ
rank t [] = 0
rank t (x ∷ xs) = cond (x.id == t) 0 (1 + rank t xs)

-- one change comes before another: its target stands before, or has the same place and its code is smaller
abbrev pub Precedes : Forest → Change → Change → Type 0
Precedes d o p =
    (rank o.target (listing d) < rank p.target (listing d))
    ⊎ ((o.target ≡ p.target) × (code_number o.code < code_number p.code))

abbrev pub PrecedesAll : Forest → Change → List Change → Type 0
PrecedesAll d o [] = Unit {0}
PrecedesAll d o (p ∷ l) = Precedes d o p × PrecedesAll d o l

-- each change comes before all behind it
abbrev pub InOrder : Forest → List Change → Type 0
InOrder d [] = Unit {0}
InOrder d (o ∷ l) = PrecedesAll d o l × InOrder d l

-- how many changes of one code a list has on a target
abbrev pub count_changes : ℕ → Code → List Change → ℕ
count_changes t c [] = 0
count_changes t c (o ∷ l) = one (same_code o.code c && o.target == t) + count_changes t c l

-- insertions among children stand behind a child or first in their element: the codes that put nodes elsewhere do not occur
abbrev pub inserts_behind_or_first : Code → Bool
inserts_behind_or_first InsertBefore = false
inserts_behind_or_first InsertAfter = true
inserts_behind_or_first InsertFirst = true
inserts_behind_or_first InsertInto = false
inserts_behind_or_first InsertLast = false
inserts_behind_or_first InsertAttributes = true
inserts_behind_or_first Delete = true
inserts_behind_or_first ReplaceNode = true
inserts_behind_or_first ReplaceValue = true
inserts_behind_or_first ReplaceContent = true
inserts_behind_or_first Rename = true

abbrev pub AllBehindOrFirst : List Change → Type 0
AllBehindOrFirst [] = Unit {0}
AllBehindOrFirst (o ∷ l) = (inserts_behind_or_first o.code ≡ true) × AllBehindOrFirst l
