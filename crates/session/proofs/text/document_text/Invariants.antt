use Rattle.std.proofs.Common.{◌≡◌, ◌≤◌, [], ◌++◌, length, drop, string_bytes}
use Rattle.nodetable.specs.Open.{open_in, places}
use Rattle.session.specs.Lines.{ok_line}
use Rattle.session.specs.Outline.{lines_from}
use Rattle.session.proofs.text.document_text.Given as goal

-- what is still to come completes the text; no more elements are open than nodes were passed
abbrev pub invariant-loop-node : goal.invariant-loop-node
invariant-loop-node l =
    (length (open_in l.elements) ≤ l.node-index)
    × (places l.elements ≡ places l.initial.elements)
    × (string_bytes l.text ++ lines_from (open_in l.elements) (drop l.node-index l.nodes) ≡ ok_line ++ lines_from [] l.nodes)
