-- What the writes do to the document-order listing, and what the answers show of it.
use Rattle.std.specs.Prelude.{◌≡◌, ℕ, ◌<◌, ◌≤◌, true, map, length, Some, Ok, Err, ◌≢◌}
use Rattle.records.specs.declared.nodes.Node.{Node}
use Rattle.document.specs.Tree.{Forest, nil, size, WellFormed}
use Rattle.document.specs.Listing.{listing}
use Rattle.faults.specs.declared.StoreFault.TheVariants.{Absent}
use Rattle.store.specs.Kept.{Kept, NamesOnce}
use Rattle.store.specs.Views.{View, view, first_of, asked, record_says}
use Rattle.store.specs.Says.{put_says, put_leaves, take_says, take_leaves, rename_says, rename_leaves, set_value_says, set_value_leaves}
use Rattle.store.specs.Listed.{inserted_at, removed_at, position, times, row_with, found, put_place, renamed_row, revalued_row, first_where, Shown}

-- a put adds its record to the listing, at its place; all others stay as they were, in their order
abbrev pub PutAddsOne : Type 0
PutAddsOne = (room : ℕ) (d : Forest) (n : Node) (l : ℕ) → Kept d → put_says room d n l ≡ Ok tt
    → (listing (put_leaves room d n l) ≡ inserted_at (put_place d n l) n (listing d)) × (put_place d n l ≤ size d)

-- a take removes its record from the listing; all others stay as they were, in their order
abbrev pub TakeRemovesOne : Type 0
TakeRemovesOne = (d : Forest) (t : ℕ) → Kept d → take_says d t ≡ Ok tt
    → (listing (take_leaves d t) ≡ removed_at (position t (listing d)) (listing d)) × (position t (listing d) < size d)

-- a renaming and a new value change one field of one record
abbrev pub RenameChangesOne : Type 0
RenameChangesOne = (d : Forest) (t m : ℕ) → rename_says d t m ≡ Ok tt → listing (rename_leaves d t m) ≡ map (renamed_row t m) (listing d)

abbrev pub SetValueChangesOne : Type 0
SetValueChangesOne = (d : Forest) (t v : ℕ) → set_value_says d t ≡ Ok tt → listing (set_value_leaves d t v) ≡ map (revalued_row t v) (listing d)

-- taking out what was put leads back
abbrev pub TakeUndoesPut : Type 0
TakeUndoesPut = (room : ℕ) (d : Forest) (n : Node) (l : ℕ) → Kept d → put_says room d n l ≡ Ok tt
    → (take_says (put_leaves room d n l) n.id ≡ Ok tt) × (take_leaves (put_leaves room d n l) n.id ≡ d)

-- every write leaves what a store may hold, within the room
abbrev pub PutKeeps : Type 0
PutKeeps = (room : ℕ) (d : Forest) (n : Node) (l : ℕ) → Kept d → size d ≤ room → Kept (put_leaves room d n l) × (size (put_leaves room d n l) ≤ room)

abbrev pub TakeKeeps : Type 0
TakeKeeps = (room : ℕ) (d : Forest) (t : ℕ) → Kept d → size d ≤ room → Kept (take_leaves d t) × (size (take_leaves d t) ≤ room)

abbrev pub RenameKeeps : Type 0
RenameKeeps = (d : Forest) (t m : ℕ) → Kept d → Kept (rename_leaves d t m) × (size (rename_leaves d t m) ≡ size d)

abbrev pub SetValueKeeps : Type 0
SetValueKeeps = (d : Forest) (t v : ℕ) → Kept d → Kept (set_value_leaves d t v) × (size (set_value_leaves d t v) ≡ size d)

-- the record that a store answers is the one of the listing
abbrev pub RecordIsListed : Type 0
RecordIsListed = (d : Forest) (t : ℕ) → record_says d t ≡ found (row_with t (listing d))

-- every question is refused exactly where no row has the identifier
abbrev pub AbsentIsUnlisted : Type 0
AbsentIsUnlisted = (d : Forest) (t : ℕ) (question : View → ℕ)
    → (asked question (view d t) ≡ Err Absent → times t (listing d) ≡ 0) × (times t (listing d) ≡ 0 → asked question (view d t) ≡ Err Absent)

-- the neighbours that a store answers are those that the listing shows
abbrev pub NeighboursAreListed : Type 0
NeighboursAreListed = (d : Forest) (t : ℕ) (v : View) → Kept d → view d t ≡ Some v → Shown (listing d) t v

-- there are as many nodes as rows, and the root is the first row
abbrev pub SizeAndRootAreListed : Type 0
SizeAndRootAreListed = (d : Forest) → (size d ≡ length (listing d)) × (first_of d ≡ first_where (λ x. true) (listing d))

-- a store may hold every well-formed document; what it holds is well formed but for names that repeat
abbrev pub WellFormedIsKept : Type 0
WellFormedIsKept = (d : Forest) → WellFormed d → Kept d × NamesOnce d

abbrev pub KeptIsWellFormed : Type 0
KeptIsWellFormed = (d : Forest) → Kept d → (d ≢ nil) → NamesOnce d → WellFormed d

-- the root and what is seen of every node tell the document
abbrev pub ViewsTellTheDocument : Type 0
ViewsTellTheDocument = (d e : Forest) → Kept d → Kept e → first_of d ≡ first_of e → ((t : ℕ) → view d t ≡ view e t) → d ≡ e
