-- Putting the rows of trees into a store, one after another.
use Rattle.std.specs.Prelude.{ℕ, cond, List, [], ◌∷◌, ◌++◌, Ok, Err, ◌==◌}
use Rattle.records.specs.declared.nodes.Node.{Node}
use Rattle.document.specs.Tree.{Forest}
use Rattle.document.specs.Table.{is_attribute}
use Rattle.store.specs.Listed.{child_row, last_from}
use Rattle.store.specs.Says.{Answer, put_says, put_leaves}

-- roots come below p
abbrev pub placed : ℕ → Node → Node
placed p x = record { id = x.id; parent = cond (x.parent == 0) p x.parent; kind = x.kind; name = x.name; value = x.value }

-- behind which node a row comes: the last child of its parent among the rows before it; the first root comes behind l
abbrev pub left_for : ℕ → List Node → Node → ℕ
left_for l before x = cond (is_attribute x.kind) 0 (last_from (child_row x.parent) (cond (x.parent == 0) l 0) before)

abbrev pub and_then : Answer → Answer → Answer
and_then (Ok u) later = later
and_then (Err e) later = Err e

abbrev pub leads_on : Answer → Forest → Forest → Forest
leads_on (Ok u) later now = later
leads_on (Err e) later now = now

-- What putting the rows xs in answers, behind the rows before: the first refusal ends it
abbrev pub plant_says : ℕ → ℕ → ℕ → List Node → List Node → Forest → Answer
plant_says room p l before [] d = Ok tt
plant_says room p l before (x ∷ xs) d =
    and_then (put_says room d (placed p x) (left_for l before x)) (plant_says room p l (before ++ (x ∷ [])) xs (put_leaves room d (placed p x) (left_for l before x)))

-- and the document that it leaves
abbrev pub plant_leaves : ℕ → ℕ → ℕ → List Node → List Node → Forest → Forest
plant_leaves room p l before [] d = d
plant_leaves room p l before (x ∷ xs) d =
    leads_on (put_says room d (placed p x) (left_for l before x)) (plant_leaves room p l (before ++ (x ∷ [])) xs (put_leaves room d (placed p x) (left_for l before x))) d
