-- How a report is printed.
use Rattle.std.specs.Prelude.{ℕ, List, ◌++◌, codes, decimal}
use Rattle.faults.specs.declared.Report.{Report}

-- three numbers in decimals, a blank between them
abbrev pub shown : Report → List ℕ
shown r = decimal r.number ++ (codes " " ++ (decimal r.layer ++ (codes " " ++ decimal r.place)))
