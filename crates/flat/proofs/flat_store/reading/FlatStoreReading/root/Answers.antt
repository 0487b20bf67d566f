use Rattle.std.proofs.Common.{◌≡◌, Some, None, refl, ap, sym, arith}
use Rattle.std.specs.List.{slice_get}
use Rattle.flat.specs.declared.rows.FlatRow.{FlatRow}
use Rattle.flat.proofs.Holding.{R, X, U, fits, held, used_first, used_none}
use Rattle.flat.proofs.Answering.{root_is}
use Rattle.flat.proofs.flat_store.reading.FlatStoreReading.root.Goals as goal

pub returns-in-Some : goal.returns-in-Some
returns-in-Some c =
    let me = c.args.self.now in
    let x = c.in-Some.row.now in
    let first : slice_get (U me) 0 ≡ Some x = sym (rw (c.in_use.ensures, c.in-Some.is) at c.first.ensures.value) in
    let w = used_first me x first in
    root_is (R me) (X me) me.used (fits me) (held me) x.node.id (λ e. absurd (omega (arith, w.0))) (λ l. ap (λ (y : FlatRow). y.node.id) w.1)

pub returns-in-None : goal.returns-in-None
returns-in-None c =
    let me = c.args.self.now in
    let first : slice_get (U me) 0 ≡ None = sym (rw (c.in_use.ensures, c.in-None.is) at c.first.ensures.value) in
    let none = used_none me first in
    root_is (R me) (X me) me.used (fits me) (held me) 0 (λ e. refl) (λ l. absurd (omega arith))
