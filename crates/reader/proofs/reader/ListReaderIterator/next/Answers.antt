use Rattle.std.proofs.Common.{◌≡◌, ◌+◌, ◌-◌, ◌*◌, refl, sym, arith}
use Rattle.codec.specs.Fields.{operation_of}
use Rattle.codec.proofs.Spelled.{spelt_ok, spelt_err}
use Rattle.reader.proofs.Handing.{step_end, is_operation, hands}
use Rattle.reader.proofs.reader.ListReaderIterator.next.Goals as goal

pub returns-in_err-raw-clause-steps : goal.returns-in_err-raw-clause-steps
returns-in_err-raw-clause-steps c =
    let s = c.args.self.now in
    let e = step_end s.bytes.now s.place (omega (arith, c.in_err-raw.ensures.lookup.3, c.raw_records.ensures.count)) in
    rw c.from_residual.ensures (sym e, refl, refl)

pub unreachable-requires : goal.unreachable-requires
unreachable-requires c =
    is_operation _ _ _ _ _ c.raw_records.ensures.spelt c.in_ok-raw.ensures.lookup.3 c.from.ensures c.args.self.now.rest
    (spelt_err (operation_of c.from.result) c.try_from.ensures c.in_default.is)

pub slice_bounds-part-end : goal.slice_bounds-part-end
slice_bounds-part-end c =
    let h = hands _ _ _ _ _ c.raw_records.ensures.spelt c.in_ok-raw.ensures.lookup.3 c.from.ensures c.args.self.now.rest c.in-Ok.operation
    (spelt_ok (operation_of c.from.result) c.try_from.ensures c.in-Ok.is) in
    omega (arith, h.within)

pub invariant_of-self : goal.invariant_of-self
invariant_of-self c =
    let h = hands _ _ _ _ _ c.raw_records.ensures.spelt c.in_ok-raw.ensures.lookup.3 c.from.ensures c.args.self.now.rest c.in-Ok.operation
    (spelt_ok (operation_of c.from.result) c.try_from.ensures c.in-Ok.is) in
    record { passed = c.args.self.now.passed; within = h.within; rest = h.rest }

pub returns-clause-steps : goal.returns-clause-steps
returns-clause-steps c =
    let s = c.args.self.now in
    let o = c.in-Ok.operation in
    let h = hands _ _ _ _ _ c.raw_records.ensures.spelt c.in_ok-raw.ensures.lookup.3 c.from.ensures s.rest o
    (spelt_ok (operation_of c.from.result) c.try_from.ensures c.in-Ok.is) in
    let z : 16 * s.place + 16 + 16 * o.count - (16 * s.place + 16) ≡ 16 * o.count = omega arith in
    (rw z (sym h.step), refl, refl)
