-- What a take and a put do to the rows and to the index, place by place.
use Rattle.std.specs.Prelude.{◌≡◌, ℕ, ◌+◌, ◌-◌, ◌<◌, ◌≤◌, cond, ◌&&◌, List, length, Option, ◌≢◌, nat_le, nat_lt, slice_index_or}
use Rattle.records.specs.declared.nodes.Node.{Node}
use Rattle.ordered.specs.declared.entries.RowOf.{RowOf}
use Rattle.ordered.specs.Table.{Inserted, InOrder, Removed}
use Rattle.ordered.specs.Entries.{by_identifier}
use Rattle.flat.specs.declared.rows.FlatRow.{FlatRow}
use Rattle.flat.specs.Means.{no_entry, at, entry}

-- ---- each entry of a table changed by its place

abbrev pub CanChange : {A : Type 0} → (ℕ → A → Type 0) → List A → Type 0
CanChange {A} pre xs = (m : ℕ) (d : A) → m < length xs → pre m (slice_index_or xs m d)

pub record EachChanged {A : Type 0} (post : ℕ → A → A → Type 0) (xs ys : List A) : Type 0 where
  pub long : length ys ≡ length xs
  pub each : (m : ℕ) (d : A) → m < length xs → post m (slice_index_or xs m d) (slice_index_or ys m d)

-- ---- a row i without others in its subtree goes

-- the row at m, smaller by one if it counts the row i
abbrev pub shrunk : ℕ → ℕ → FlatRow → FlatRow
shrunk i m r = cond (nat_lt i (m + r.size)) (record r { size = r.size - 1 }) r

-- the row at k, which moves down by one: nearer to its parent if that stands before i
abbrev pub drawn : ℕ → ℕ → FlatRow → FlatRow
drawn i k r = cond (nat_lt (k - r.distance) i) (record r { distance = r.distance - 1 }) r

pub record Taken (rows : List FlatRow) (used i : ℕ) (left : List FlatRow) : Type 0 where
  pub long : length left ≡ length rows
  pub low : (m : ℕ) → m < i → at left m ≡ shrunk i m (at rows m)
  pub high : (m : ℕ) → i ≤ m → m + 1 < used → at left m ≡ drawn i (m + 1) (at rows (m + 1))

-- the entry of a row behind i
abbrev pub lowered : ℕ → RowOf → RowOf
lowered i e = cond (nat_lt i e.row) (record e { row = e.row - 1 }) e

-- ---- a row comes to the place i, below the row q

-- the row at m, larger by one if it counts the row q
abbrev pub grown : ℕ → ℕ → FlatRow → FlatRow
grown q m r = cond (nat_le m q && nat_lt q (m + r.size)) (record r { size = r.size + 1 }) r

-- the row at k, which moves up by one: farther from its parent if that stands before i
abbrev pub lifted : ℕ → ℕ → FlatRow → FlatRow
lifted i k r = cond (nat_lt (k - r.distance) i) (record r { distance = r.distance + 1 }) r

abbrev pub new_row : Node → ℕ → ℕ → FlatRow
new_row x i q = record { node = x; distance = i - q; size = 1 }

pub record Planted (rows : List FlatRow) (used i q : ℕ) (x : Node) (left : List FlatRow) : Type 0 where
  pub long : length left ≡ length rows
  pub low : (m : ℕ) → m < i → at left m ≡ grown q m (at rows m)
  pub here : at left i ≡ new_row x i q
  pub high : (m : ℕ) → i ≤ m → m < used → at left (m + 1) ≡ lifted i m (at rows m)

-- the entry of a row from i on
abbrev pub raised : ℕ → RowOf → RowOf
raised i e = cond (nat_le i e.row) (record e { row = e.row + 1 }) e

-- ---- the index, once a row is gone or has come

-- what stands before i changed by its place, and nothing else
pub record Changed {A : Type 0} (none : A) (xs : List A) (f : ℕ → A → A) (i : ℕ) (ys : List A) : Type 0 where
  pub long : length ys ≡ length xs
  pub low : (m : ℕ) → m < i → slice_index_or ys m none ≡ f m (slice_index_or xs m none)
  pub high : (m : ℕ) → i ≤ m → slice_index_or ys m none ≡ slice_index_or xs m none

-- the entries of the rows behind i lowered; at is the place of the entry of the row i
pub record Lowered (index : List RowOf) (used i : ℕ) (left : List RowOf) (at : ℕ) : Type 0 where
  pub changed : Changed no_entry index (λ _. lowered i) used left
  pub found : at < used → (entry index at).row ≡ i
  pub missed : used ≤ at → (k : ℕ) → k < used → (entry index k).row ≢ i

-- the index without the entry of the row i, and with those of the rows behind i lowered
abbrev pub Unlisted : List RowOf → ℕ → ℕ → List RowOf → Type 0
Unlisted index used i left = (middle : List RowOf) × (place : ℕ) × (r : Option RowOf) × Lowered index used i middle place × Removed middle used place r left

-- the index with an entry x, and with those of the rows from that of x on raised
abbrev pub Enlisted : List RowOf → ℕ → RowOf → List RowOf → Type 0
Enlisted index used x left =
    (middle : List RowOf) × (r : Option ℕ) × Changed no_entry index (λ _. raised x.row) used middle × Inserted middle used x r left × InOrder by_identifier middle used x r left

-- ---- where a row may come to stand

-- i is a place among the rows below the row q: behind q, within its subtree, and inside no subtree of a row below it
pub record Gap (rows : List FlatRow) (used q i : ℕ) : Type 0 where
  pub parent : q < used
  pub after : q < i
  pub within : i ≤ q + (at rows q).size
  pub clear : (m : ℕ) → q < m → m < i → m + (at rows m).size ≤ i
