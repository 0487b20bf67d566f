-- A look-up in the index finds the row of a node, or tells that it is absent.
use Rattle.std.proofs.Common.{◌≡◌, ℕ, ◌<◌, ◌≤◌, length, Some, None, Ok, Err, Option, Result, sym, ap, ◌∙◌, refl, arith}
use mathlib.Core.Logic.{∥∥₁_elim}
use mathlib.Core.HLevel.{⊥_prop}
use Rattle.std.specs.Option.{ok_or}
use Rattle.std.specs.Result.{result_ok}
use Rattle.faults.specs.declared.StoreFault.{StoreFault}
use Rattle.faults.specs.declared.StoreFault.TheVariants.{Absent}
use Rattle.ordered.specs.declared.entries.RowOf.{RowOf}
use Rattle.ordered.specs.Table.{Ascending}
use Rattle.ordered.specs.Entries.{by_identifier, LookedUp}
use Rattle.flat.specs.declared.flat_store.FlatStore.{FlatStore}
use Rattle.flat.specs.Means.{no_entry, at, entry}
use Rattle.flat.specs.Document.{id_at}
use Rattle.flat.specs.Judging.{Sought}
use Rattle.flat.proofs.Standing.{no_sight}
use Rattle.flat.proofs.Holding.{R, X, fits, index_fits, held}
use Rattle.flat.proofs.Answering.{ascending_from, unknown_from}

module _ (me : FlatStore) (t : ℕ) where
  by : (o : Option ℕ) → LookedUp (X me) me.used t o → Sought me t (ok_or o Absent)
  by (Some r) (k, l, e) =
      let w = (held me).indexed.leading k l in
      let same : entry (X me) k ≡ record { id = t; row = r } = e no_entry in
      let row : (entry (X me) k).row ≡ r = ap (λ (x : RowOf). x.row) same in
      let id : (entry (X me) k).id ≡ t = ap (λ (x : RowOf). x.id) same in
      (omega (arith, w.0), ap (λ (i : ℕ). (at (R me) i).node.id) (sym row) ∙ w.1 ∙ id)
  by None none = (
    refl,
    unknown_from (R me) (X me) me.used (fits me) (held me) t
        (no_sight (R me) (X me) me.used (fits me) (held me) t (λ i l e. ∥∥₁_elim ((held me).indexed.reaching i l) ⊥_prop
        (λ w. none w.0 no_entry w.1 (sym ((held me).indexed.leading w.0 w.1).1 ∙ ap (λ (j : ℕ). (at (R me) j).node.id) w.2 ∙ e)))),
  )

  pub sought : (o : Option ℕ) → (me.used ≤ length (X me) → Ascending by_identifier me.used (X me) → LookedUp (X me) me.used t o) → Sought me t (ok_or o Absent)
  sought o found = by o (found (index_fits me) (ascending_from (X me) me.used (index_fits me) (held me).indexed.ascending))

  pub sought_row : (r : Result ℕ StoreFault) (i : ℕ) → Some i ≡ result_ok r → Sought me t r → (i < me.used) × (id_at me i ≡ t)
  sought_row (Ok j) i e w = let same : i ≡ j = cc in rw same w
  sought_row (Err f) i e w = cc
