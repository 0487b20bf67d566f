-- The rows in use of a flat store, the document that they list, and the identifier in one of them.
use Rattle.std.specs.Prelude.{ℕ, List, take}
use Rattle.document.specs.Tree.{Forest}
use Rattle.flat.specs.declared.rows.FlatRow.{FlatRow}
use Rattle.flat.specs.declared.flat_store.FlatStore.{FlatStore}
use Rattle.flat.specs.Means.{at, means}

abbrev pub in_use : FlatStore → List FlatRow
in_use s = take s.used s.rows.items

abbrev pub document : FlatStore → Forest
document s = means s.rows.items s.used

abbrev pub id_at : FlatStore → ℕ → ℕ
id_at s row = (at s.rows.items row).node.id
