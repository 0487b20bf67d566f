-- What the look-up of a node, and the tests before a write to its row, answer.
use Rattle.std.specs.Prelude.{◌≡◌, ℕ, ◌<◌, Ok, Err, Result}
use Rattle.document.specs.Tree.{Forest}
use Rattle.faults.specs.declared.StoreFault.{StoreFault}
use Rattle.faults.specs.declared.StoreFault.TheVariants.{Absent}
use Rattle.store.specs.Says.{Answer, after}
use Rattle.flat.specs.declared.flat_store.FlatStore.{FlatStore}
use Rattle.flat.specs.Walks.{Unknown}
use Rattle.flat.specs.Document.{document, id_at}

-- the row of the node t, or that it is absent
abbrev pub Sought : FlatStore → ℕ → Result ℕ StoreFault → Type 0
Sought s t (Err e) = (e ≡ Absent) × Unknown (document s) t
Sought s t (Ok i) = (i < s.used) × (id_at s i ≡ t)

-- the row of the node t where the write is accepted; else the refusal, which leaves the document
abbrev pub Judged : FlatStore → ℕ → Answer → Result ℕ StoreFault → Type 0
Judged s t says (Err e) = (Err e ≡ says) × ((new : Forest) → document s ≡ after says new (document s))
Judged s t says (Ok i) = (i < s.used) × (id_at s i ≡ t) × (Ok tt ≡ says)
