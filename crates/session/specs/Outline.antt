-- The lines of a node table, one node at a time, by the elements open before each.
use Rattle.std.specs.Prelude.{ℕ, cond, List}
use Rattle.records.specs.declared.nodes.Node.{Node}
use Rattle.document.specs.Table.{closed_to, opened, attached, depth_from}
use Rattle.session.specs.Lines.{node_lines}

-- the elements around a node, and those that are open behind it
abbrev pub elements_around : List ℕ → Node → List ℕ
elements_around es x = cond (attached x) es (closed_to x.parent es)

abbrev pub elements_behind : List ℕ → Node → List ℕ
elements_behind es x = cond (attached x) es (opened x.kind x.id (closed_to x.parent es))

abbrev pub lines_from : List ℕ → List Node → List ℕ
lines_from es xs = node_lines (depth_from es xs) xs
