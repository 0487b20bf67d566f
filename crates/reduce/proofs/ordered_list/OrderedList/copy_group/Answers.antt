use Rattle.std.proofs.Common.{◌≡◌, ◌+◌, ◌-◌, get_or, take, drop, sym, ap, ◌∙◌, inl, inr, arith, length-drop}
use Rattle.std.proofs.lemmas.List.{length-take-le}
use Rattle.reduce.specs.Groups.{blank}
use Rattle.reduce.proofs.Indexing.{no_entry}
use Rattle.reduce.proofs.Copying.{none_passed, all_passed, known, inside, small, one_passed}
use Rattle.reduce.proofs.ordered_list.OrderedList.copy_group.Goals as goal

pub loop-entry-init : goal.loop-entry-init
loop-entry-init c = none_passed c.args.self.now c.args.key _ c.args.tables.now c.place_of.result c.place_of.ensures c.split_at.ensures.back

pub returns-then-not-is_for : goal.returns-then-not-is_for
returns-then-not-is_for c =
    all_passed c.args.self.now c.args.key _ c.args.tables.now c.loop-entry.entry-index c.loop-entry.tables c.loop-entry.invariant
    (inr (c.loop-entry-test.true, sym c.is_for.ensures ∙ c.if-not-is_for.true))

pub loop-entry-preserved : goal.loop-entry-preserved
loop-entry-preserved c =
    let me = c.args.self.now in
    let x = get_or c.split_at.result.1.now c.loop-entry.entry-index no_entry in
    let count = (get_or me.operations.now x.position blank).count in
    let z : x.start + count - x.start ≡ count = omega arith in
    one_passed me c.args.key _ c.args.tables.now c.loop-entry.entry-index c.loop-entry.tables c.loop-entry.invariant c.loop-entry-test.true (sym c.is_for.ensures ∙ c.if-not-is_for.false)
    c.copy.new.self _ (ap (λ n. take n (drop x.start me.nodes.now)) z) c.copy.ensures

pub copy-requires : goal.copy-requires
copy-requires c =
    let me = c.args.self.now in
    let x = get_or c.split_at.result.1.now c.loop-entry.entry-index no_entry in
    let count = (get_or me.operations.now x.position blank).count in
    let e = sym c.is_for.ensures ∙ c.if-not-is_for.false in
    let fits = small me c.args.key _ c.args.tables.now c.loop-entry.entry-index c.loop-entry.tables c.loop-entry.invariant c.loop-entry-test.true e c.requires in
    let within = inside me c.args.key _ c.args.tables.now c.loop-entry.entry-index c.loop-entry.tables c.loop-entry.invariant c.loop-entry-test.true e in
    let long = length-take-le (x.start + count - x.start) (drop x.start me.nodes.now) (omega (arith, within, length-drop x.start me.nodes.now)) in
    omega (arith, fits, long)

pub slice_bounds-copy-end : goal.slice_bounds-copy-end
slice_bounds-copy-end c =
    inside c.args.self.now c.args.key _ c.args.tables.now c.loop-entry.entry-index c.loop-entry.tables c.loop-entry.invariant c.loop-entry-test.true (sym c.is_for.ensures ∙ c.if-not-is_for.false)

pub returns : goal.returns
returns c = all_passed c.args.self.now c.args.key _ c.args.tables.now c.loop-entry.entry-index c.loop-entry.tables c.loop-entry.invariant (inl c.loop-entry-test.false)

pub bounds-self-entry : goal.bounds-self-entry
bounds-self-entry c =
    known c.args.self.now c.args.key _ c.args.tables.now c.loop-entry.entry-index c.loop-entry.tables c.loop-entry.invariant c.loop-entry-test.true (sym c.is_for.ensures ∙ c.if-not-is_for.false)

pub overflow_add-entry : goal.overflow_add-entry
overflow_add-entry c =
    let within = inside c.args.self.now c.args.key _ c.args.tables.now c.loop-entry.entry-index c.loop-entry.tables c.loop-entry.invariant c.loop-entry-test.true (sym c.is_for.ensures ∙ c.if-not-is_for.false) in
    omega (arith, within)

pub offset_bounds-self-entry-in-loop-entry : goal.offset_bounds-self-entry-in-loop-entry
offset_bounds-self-entry-in-loop-entry c =
    let within = inside c.args.self.now c.args.key _ c.args.tables.now c.loop-entry.entry-index c.loop-entry.tables c.loop-entry.invariant c.loop-entry-test.true (sym c.is_for.ensures ∙ c.if-not-is_for.false) in
    omega (arith, within)
