-- What the listing answers, and what it leaves.
use Rattle.std.specs.Prelude.{ℕ, cond, List, ◌++◌, length, drop, Ok, Err, Result, nat_lt}
use Rattle.records.specs.declared.nodes.Node.{Node}
use Rattle.faults.specs.declared.BookFault.{BookFault}
use Rattle.faults.specs.declared.BookFault.TheVariants.{TableShort}
use Rattle.document.specs.Tree.{Forest, size}
use Rattle.document.specs.Listing.{listing}

-- the listing, where the table has room for it
abbrev pub list_says : List Node → Forest → Result ℕ BookFault
list_says xs d = cond (nat_lt (length xs) (size d)) (Err TableShort) (Ok (size d))

abbrev pub list_leaves : List Node → Forest → List Node
list_leaves xs d = cond (nat_lt (length xs) (size d)) xs (listing d ++ drop (size d) xs)
