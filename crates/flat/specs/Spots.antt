-- Where a new node may stand, and what the tests before a put answer.
use Rattle.std.specs.Prelude.{◌≡◌, ℕ, ◌<◌, true, false, ◌⊎◌, List, Some, None, Ok, Err, Option, Result, vec_len}
use Rattle.records.specs.declared.nodes.Node.{Node}
use Rattle.document.specs.Tree.{Forest}
use Rattle.faults.specs.declared.StoreFault.{StoreFault}
use Rattle.store.specs.Says.{after, is_element, fits, put_says}
use Rattle.store.specs.Listed.{put_place}
use Rattle.flat.specs.declared.rows.FlatRow.{FlatRow}
use Rattle.flat.specs.declared.rows.Spot.{Spot}
use Rattle.flat.specs.declared.flat_store.FlatStore.{FlatStore}
use Rattle.flat.specs.Means.{at, means}
use Rattle.flat.specs.Document.{document, id_at}
use Rattle.flat.specs.Shifts.{Gap}

-- the first row of all, or a gap below the parent's row
abbrev pub Below : List FlatRow → ℕ → Node → Spot → Type 0
Below rows used x g =
    ((used ≡ 0) × (x.parent ≡ 0) × (g.parent ≡ 0) × (g.place ≡ 0))
    ⊎ (Gap rows used g.parent g.place × ((at rows g.parent).node.id ≡ x.parent) × (is_element (at rows g.parent).node.kind ≡ true))

-- the node x may stand behind left, and g is where
pub record Suited (rows : List FlatRow) (used : ℕ) (x : Node) (left : ℕ) (g : Spot) : Type 0 where
  pub fit : fits (means rows used) x left ≡ true
  pub place : g.place ≡ put_place (means rows used) x left
  pub below : Below rows used x g

-- the row of the element that is the parent of x
abbrev pub ParentAt : FlatStore → ℕ → Node → Type 0
ParentAt s row x = (row < s.used) × (id_at s row ≡ x.parent) × (is_element (at s.rows.items row).node.kind ≡ true)

abbrev pub SuitedAt : FlatStore → Node → ℕ → Spot → Type 0
SuitedAt s x left g = Suited s.rows.items s.used x left g

abbrev pub Spotted : FlatStore → Node → ℕ → Option Spot → Type 0
Spotted s x left None = fits (document s) x left ≡ false
Spotted s x left (Some g) = SuitedAt s x left g

abbrev pub PutJudged : FlatStore → Node → ℕ → Result Spot StoreFault → Type 0
PutJudged s x left (Err e) =
    (Err e ≡ put_says (vec_len s.rows) (document s) x left) × ((new : Forest) → document s ≡ after (put_says (vec_len s.rows) (document s) x left) new (document s))
PutJudged s x left (Ok g) = (Ok tt ≡ put_says (vec_len s.rows) (document s) x left) × SuitedAt s x left g
