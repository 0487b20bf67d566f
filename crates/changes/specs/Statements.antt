-- The theorems on change lists.
use Rattle.std.specs.Prelude.{◌≡◌, ℕ, ◌+◌, ◌≤◌, true, List, map, None}
use Rattle.records.specs.declared.nodes.Node.{Node}
use Rattle.records.specs.declared.operations.Operation.{Operation}
use Rattle.records.specs.declared.operations.Code.{Code}
use Rattle.document.specs.Tree.{Forest, nil, WellFormed, count, size}
use Rattle.changes.specs.Changes.{Change, size_nodes}
use Rattle.changes.specs.Stages.{apply}
use Rattle.changes.specs.Marks.{mark, all_stages_at_once}
use Rattle.changes.specs.Reduced.{gathered_by_gap, changes_in_order, reduced}
use Rattle.changes.specs.Inverse.{inverse}
use Rattle.changes.specs.Overriding.{overridden, OverridingRule, not_overridden, empty_replacements_deleted}
use Rattle.changes.specs.Tests.{Suits}
use Rattle.changes.specs.Tables.{operation_rows, node_rows, changes_of, list_test}
use Rattle.changes.specs.Order.{InOrder, count_changes, AllBehindOrFirst}
use Rattle.changes.specs.Cases.{cases, outcome_of, expected, table_cases, table_outcome, table_expected}

-- each worked case comes out as said
abbrev pub CasesComeOut : Type 0
CasesComeOut = (map outcome_of cases ≡ map expected cases) × (map table_outcome table_cases ≡ map table_expected table_cases)

-- something holds of every list that suits a well-formed document
abbrev pub Suiting : (ℕ → Forest → List Change → Type 0) → Type 0
Suiting P = (room : ℕ) (d : Forest) (l : List Change) → WellFormed d → Suits room d l → P room d l

-- the five stages together are one pass over the document with its changes beside the nodes
abbrev pub StagesAreOnePass : Type 0
StagesAreOnePass = Suiting (λ room d l. apply l d ≡ all_stages_at_once (mark l d))

-- the changed document is a document again, and fits the room
abbrev pub ChangedIsWellFormed : Type 0
ChangedIsWellFormed = Suiting (λ room d l. WellFormed (apply l d) × (size (apply l d) ≤ room))

-- the reduced list leads to the same document
abbrev pub ReducedLeadsToTheSame : Type 0
ReducedLeadsToTheSame = Suiting (λ room d l. apply (reduced d l) d ≡ apply l d)

-- the reduced list suits the document, and is its own reduced list
abbrev pub ReducedSuits : Type 0
ReducedSuits = Suiting (λ room d l. Suits room d (reduced d l))

abbrev pub ReducedIsItsOwn : Type 0
ReducedIsItsOwn = Suiting (λ room d l. reduced d (reduced d l) ≡ reduced d l)

-- the reduced list comes from the changes that are not overridden: an empty replacement is a deletion, the insertions of each gap
-- are gathered, and all is put in order
abbrev pub ReducedIsGatheredFromWhatIsNotOverridden : Type 0
ReducedIsGatheredFromWhatIsNotOverridden = (d : Forest) (l : List Change) → ((t : ℕ) → count t d ≤ 1)
    → reduced d l ≡ changes_in_order (gathered_by_gap (empty_replacements_deleted (mark (not_overridden d l) d)) nil)

-- a change is dropped exactly when one of the overriding rules names it
abbrev pub OverriddenByTheRules : Type 0
OverriddenByTheRules = (d : Forest) (l e : List Change) (o : Change)
    → (overridden d l e o ≡ true → OverridingRule d l e o) × (OverridingRule d l e o → overridden d l e o ≡ true)

-- the reduced list stands by target in document order and then by code, and no two of its changes share both
abbrev pub ReducedIsInOrder : Type 0
ReducedIsInOrder = Suiting (λ room d l. InOrder d (reduced d l) × ((t : ℕ) (c : Code) → count_changes t c (reduced d l) ≤ 1))

-- the tables of a list give it back, and pass every test on the document that the list suits
abbrev pub TablesOfChanges : Type 0
TablesOfChanges = (room : ℕ) (d : Forest) (l : List Change) → Suits room d l
    → (changes_of (operation_rows l) (node_rows l) ≡ l) × (list_test room d (operation_rows l) (node_rows l) ≡ None)

-- the list of tables that pass every test gives them back, and suits the document
abbrev pub ChangesOfTables : Type 0
ChangesOfTables = (room : ℕ) (d : Forest) (ops : List Operation) (xs : List Node) → ((t : ℕ) → count t d ≤ 1) → list_test room d ops xs ≡ None
    → Suits room d (changes_of ops xs) × (operation_rows (changes_of ops xs) ≡ ops) × (node_rows (changes_of ops xs) ≡ xs)

-- the inverse list comes from the reduced list: that of the list and that of its reduced list are one
abbrev pub InverseOfReduced : Type 0
InverseOfReduced = Suiting (λ room d l. inverse d (reduced d l) ≡ inverse d l)

-- the inverse list leads back
abbrev pub InverseLeadsBack : Type 0
InverseLeadsBack = Suiting (λ room d l. apply (inverse d l) (apply l d) ≡ d)

-- the inverse list suits the changed document, and is its own reduced list there
abbrev pub InverseSuits : Type 0
InverseSuits = Suiting (λ room d l. Suits room (apply l d) (inverse d l))

abbrev pub InverseIsItsOwn : Type 0
InverseIsItsOwn = Suiting (λ room d l. reduced (apply l d) (inverse d l) ≡ inverse d l)

abbrev pub InverseIsInOrder : Type 0
InverseIsInOrder = Suiting (λ room d l. InOrder (apply l d) (inverse d l) × ((t : ℕ) (c : Code) → count_changes t c (inverse d l) ≤ 1))

-- the changed document and what the inverse list brings have as many nodes as the document and what the reduced list brings:
-- so where a list had room, its inverse has room
abbrev pub NodesBalance : Type 0
NodesBalance = Suiting (λ room d l. size (apply l d) + size_nodes (inverse d l) ≡ size d + size_nodes (reduced d l))

-- in the reduced and in the inverse list nodes are inserted among children only behind a child or first in an element
abbrev pub InsertsBehindOrFirst : Type 0
InsertsBehindOrFirst = Suiting (λ room d l. AllBehindOrFirst (reduced d l) × AllBehindOrFirst (inverse d l))
