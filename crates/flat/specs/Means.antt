-- What the rows of a flat store are, and the document that they mean.
use Rattle.std.specs.Prelude.{◌≡◌, ℕ, ◌+◌, ◌-◌, ◌<◌, ◌≤◌, true, false, ◌⊎◌, List, map, take, slice_index_or}
use Rattle.records.specs.declared.nodes.Kind.TheVariants.{Element}
use Rattle.records.specs.declared.nodes.Node.{Node}
use Rattle.document.specs.Tree.{Forest}
use Rattle.document.specs.Listing.{listing}
use Rattle.document.specs.Table.{is_attribute, document_of}
use Rattle.ordered.specs.declared.entries.RowOf.{RowOf}
use Rattle.store.specs.Kept.{Kept}
use Rattle.store.specs.Says.{is_element}
use Rattle.flat.specs.declared.rows.FlatRow.{FlatRow}

abbrev pub no_node : Node
no_node = record { id = 0; parent = 0; kind = Element; name = 0; value = 0 }

abbrev pub no_row : FlatRow
no_row = record { node = no_node; distance = 0; size = 0 }

abbrev pub no_entry : RowOf
no_entry = record { id = 0; row = 0 }

-- the row at a place, the place of its parent's row, and an entry of the index
abbrev pub at : List FlatRow → ℕ → FlatRow
at rows k = slice_index_or rows k no_row

abbrev pub up : List FlatRow → ℕ → ℕ
up rows k = k - (at rows k).distance

abbrev pub entry : List RowOf → ℕ → RowOf
entry index k = slice_index_or index k no_entry

-- the records of the rows in use, and the document that they list
abbrev pub nodes : List FlatRow → ℕ → List Node
nodes rows used = map (λ (r : FlatRow). r.node) (take used rows)

unfoldable pub means : List FlatRow → ℕ → Forest
means rows used = document_of (nodes rows used)

-- but for the root, a row's distance leads back to the row of its parent, an element;
-- a row's size counts the row itself, and behind it the rows whose parent it counts
pub record Laid (rows : List FlatRow) (used : ℕ) : Type 0 where
  pub backward : (k : ℕ) → 0 < k → k < used → (0 < (at rows k).distance) × ((at rows k).distance ≤ k)
  pub parented : (k : ℕ) → 0 < k → k < used → ((at rows (up rows k)).node.id ≡ (at rows k).node.parent) × (is_element (at rows (up rows k)).node.kind ≡ true)
  pub sized : (i : ℕ) → i < used → (0 < (at rows i).size) × (i + (at rows i).size ≤ used)
  pub inside : (i k : ℕ) → i < used → i < k → k < i + (at rows i).size → i ≤ up rows k
  pub outside : (i k : ℕ) → i < used → i + (at rows i).size ≤ k → k < used → i ≤ up rows k → i + (at rows i).size ≤ up rows k

-- the entries of the index ascend by identifier, each leads to the row with its identifier, and some entry leads to each row
pub record Indexed (rows : List FlatRow) (index : List RowOf) (used : ℕ) : Type 0 where
  pub ascending : (i j : ℕ) → i < j → j < used → (entry index i).id < (entry index j).id
  pub leading : (k : ℕ) → k < used → ((entry index k).row < used) × ((at rows (entry index k).row).node.id ≡ (entry index k).id)
  pub reaching : (i : ℕ) → i < used → ∥ ((k : ℕ) × (k < used) × ((entry index k).row ≡ i)) ∥₁

-- y is the element p, or an attribute of it
abbrev pub Of : ℕ → Node → Type 0
Of p y = (y.id ≡ p) ⊎ ((is_attribute y.kind ≡ true) × (y.parent ≡ p))

-- what document order makes of the rows: no identifier is 0 or stands twice, an attribute stands right behind its element
-- or behind an attribute of it, and the root comes first
pub record Plain (rows : List FlatRow) (used : ℕ) : Type 0 where
  pub above : (k : ℕ) → k < used → 0 < (at rows k).node.id
  pub once : (i j : ℕ) → i < used → j < used → (at rows i).node.id ≡ (at rows j).node.id → i ≡ j
  pub next : (k : ℕ) → k + 1 < used → is_attribute (at rows (k + 1)).node.kind ≡ true → Of (at rows (k + 1)).node.parent (at rows k).node
  pub root : 0 < used → ((at rows 0).node.parent ≡ 0) × (is_attribute (at rows 0).node.kind ≡ false)

-- what a store holds
pub record Stored (rows : List FlatRow) (index : List RowOf) (used : ℕ) : Type 0 where
  pub kept : Kept (means rows used)
  pub listed : listing (means rows used) ≡ nodes rows used
  pub laid : Laid rows used
  pub indexed : Indexed rows index used
