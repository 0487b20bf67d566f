-- The document that a linked store holds, and how many nodes it can hold.
use Rattle.std.specs.Prelude.{ℕ}
use Rattle.document.specs.Tree.{Forest}
use Rattle.store.specs.Meaning.{meant}
use Rattle.linked.specs.declared.linked_store.LinkedStore.{LinkedStore}
use Rattle.linked.specs.Tables.{room_of}
use Rattle.linked.specs.Stores.{Holds, one_held}

abbrev pub document : LinkedStore → Forest
document s = meant (Holds s.table s.root) (one_held s.table s.root) s.stands

abbrev pub limit_of : LinkedStore → ℕ
limit_of s = room_of s.table
