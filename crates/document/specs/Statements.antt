-- What the tests on a node table mean.
use Rattle.std.specs.Prelude.{◌≡◌, ℕ, ◌≤◌, List, [], Ok}
use Rattle.records.specs.declared.nodes.Node.{Node}
use Rattle.document.specs.Tree.{Forest, WellFormed, size}
use Rattle.document.specs.Listing.{listing, depths}
use Rattle.document.specs.Table.{table_test, document_of, depth_from}

-- a table that passes lists a well-formed document that fits the room
abbrev pub PassingListsDocument : Type 0
PassingListsDocument = (room : ℕ) (xs : List Node) → table_test room xs ≡ Ok tt
    → WellFormed (document_of xs) × (size (document_of xs) ≤ room) × (listing (document_of xs) ≡ xs)

-- the listing of a well-formed document that fits the room passes
abbrev pub ListingPasses : Type 0
ListingPasses = (room : ℕ) (d : Forest) → WellFormed d → size d ≤ room → table_test room (listing d) ≡ Ok tt

-- a well-formed document is the one that its listing gives back, so no other has that listing
abbrev pub ListingGivesDocument : Type 0
ListingGivesDocument = (d : Forest) → WellFormed d → document_of (listing d) ≡ d

-- the open elements tell how deep each node stands
abbrev pub DepthsOfListing : Type 0
DepthsOfListing = (d : Forest) → WellFormed d → depth_from [] (listing d) ≡ depths d

-- a table passes exactly when it is the listing of a well-formed document that fits the room, and then of one only
abbrev pub PassesExactlyForOneDocument : Type 0
PassesExactlyForOneDocument = (room : ℕ) (xs : List Node)
    → (table_test room xs ≡ Ok tt → (d : Forest) × WellFormed d × (size d ≤ room) × (listing d ≡ xs) × ((e : Forest) → WellFormed e → listing e ≡ xs → e ≡ d))
    × ((d : Forest) → WellFormed d → size d ≤ room → listing d ≡ xs → table_test room xs ≡ Ok tt)
