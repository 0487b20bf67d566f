-- What an index of identifiers and its rows show of each node, and what the changes of a row, an entry more and an entry fewer do to it.
use Rattle.std.specs.Prelude.{◌≡◌, ℕ, ◌<◌, ◌≤◌, cond, List, length, get_or, Some, None, Option, ◌==◌, slice_index_or, vec_items, vec_len}
use Rattle.std.specs.Option.{option_map}
use Rattle.ordered.specs.declared.entries.RowOf.{RowOf}
use Rattle.ordered.specs.Table.{Ascending}
use Rattle.ordered.specs.Entries.{by_identifier, LookedUp}
use Rattle.linked.specs.declared.row.Row.{Row}
use Rattle.linked.specs.declared.row.Siblings.{Siblings}
use Rattle.linked.specs.declared.table.Table.{Table}
use Rattle.linked.specs.Rows.{with_left, with_first, with_next, next_among}

abbrev pub Lookup : Type 0
Lookup = ℕ → Option Row

-- The first n entries of the index say in which row each node stands, and no others stand there. The entries behind them hold
-- the free rows, so that every row has one entry.
pub record Shows (ix : List RowOf) (rows : List Row) (n : ℕ) (look : Lookup) : Type 0 where
  pub within : n ≤ length ix
  pub equal : length rows ≡ length ix
  pub ascending : Ascending by_identifier n ix
  pub inside : (k : ℕ) (e : RowOf) → k < length ix → (get_or ix k e).row < length rows
  pub apart : (j k : ℕ) (e : RowOf) → j < length ix → k < length ix → (get_or ix j e).row ≡ (get_or ix k e).row → j ≡ k
  pub shown : (k : ℕ) (e : RowOf) (w : Row) → k < n → look (get_or ix k e).id ≡ Some (slice_index_or rows (get_or ix k e).row w)
  pub every : (t : ℕ) (w : Row) → look t ≡ Some w → (k : ℕ) × (k < n) × ((e : RowOf) → (get_or ix k e).id ≡ t)
  pub once : (j k : ℕ) (e : RowOf) → j < n → k < n → (get_or ix j e).id ≡ (get_or ix k e).id → j ≡ k

-- how many nodes can have a row
abbrev pub room_of : Table → ℕ
room_of t = vec_len t.index

-- a table shows n rows, and which one for each node
abbrev pub shows : Table → ℕ → Lookup → Type 0
shows t n look = (t.used ≡ n) × Shows (vec_items t.index) (vec_items t.rows) t.used look

-- What a search for the row of a node answers
abbrev pub RowFound : Table → ℕ → Option ℕ → Type 0
RowFound t id None = LookedUp (vec_items t.index) t.used id None
RowFound t id (Some r) = (r < length (vec_items t.rows)) × LookedUp (vec_items t.index) t.used id (Some r)

-- the function that a closure computes, by what its calls return
abbrev pub Computes : (Row → Row → Type 0) → (Row → Row) → Type 0
Computes returns g = (w r : Row) → returns w r → r ≡ g w

-- the row of one node changed
abbrev pub changed : ℕ → (Row → Row) → Lookup → Lookup
changed t f look u = cond (u == t) (option_map f (look u)) (look u)

abbrev pub with_row : ℕ → Row → Lookup → Lookup
with_row t w look u = cond (u == t) (Some w) (look u)

abbrev pub without_row : ℕ → Lookup → Lookup
without_row t look u = cond (u == t) None (look u)

-- what leads to the place behind `before` among siblings below p, led to t
abbrev pub led : Siblings → ℕ → ℕ → ℕ → Lookup → Lookup
led among p before t look = cond (before == 0) (changed p (with_first among t) look) (changed before (with_next among t) look)

-- what leads to the place of a row behind `before`, led to `next`, and what leads back to it, led to `left`
abbrev pub led_around : Siblings → ℕ → Row → ℕ → ℕ → Lookup → Lookup
led_around among before w next left look = changed w.next_sibling (with_left left) (led among w.node.parent before next look)

-- a row linked in behind `before`, and linked out
abbrev pub linked_in : Siblings → ℕ → Row → Lookup → Lookup
linked_in among before w look = with_row w.node.id w (led_around among before w w.node.id w.node.id look)

abbrev pub linked_out : Siblings → ℕ → Row → Lookup → Lookup
linked_out among before w look = without_row w.node.id (led_around among before w (next_among among w) w.left look)
