-- The lines of a session.
use Rattle.std.specs.Prelude.{ℕ, List, [], ◌∷◌, ◌++◌, codes, decimal}
use Rattle.records.specs.declared.nodes.Node.{Node}
use Rattle.records.specs.Formed.{kind_number}
use Rattle.faults.specs.declared.Report.{Report}
use Rattle.faults.specs.Shown.{shown}
use Rattle.document.specs.Tree.{Forest}
use Rattle.document.specs.Listing.{listing, depths}

abbrev pub ok_line : List ℕ
ok_line = codes "ok\n"

-- number, layer and place
abbrev pub refusal_line : Report → List ℕ
refusal_line r = codes "no " ++ (shown r ++ codes "\n")

-- five numbers in decimals
abbrev pub five_numbers : ℕ → ℕ → ℕ → ℕ → ℕ → List ℕ
five_numbers a b c d e = decimal a ++ (codes " " ++ (decimal b ++ (codes " " ++ (decimal c ++ (codes " " ++ (decimal d ++ (codes " " ++ (decimal e ++ codes "\n"))))))))

-- depth, identifier, kind, name and value
abbrev pub node_line : ℕ → Node → List ℕ
node_line depth n = five_numbers depth n.id (kind_number n.kind) n.name n.value

-- a line for each node, with its depth
abbrev pub node_lines : List ℕ → List Node → List ℕ
node_lines [] xs = []
node_lines (d ∷ ds) [] = []
node_lines (d ∷ ds) (x ∷ xs) = node_line d x ++ node_lines ds xs

-- the nodes of a document in document order
abbrev pub document_lines : Forest → List ℕ
document_lines d = node_lines (depths d) (listing d)
