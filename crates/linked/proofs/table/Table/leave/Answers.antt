use Rattle.std.proofs.Common.{◌-◌, List, length-set, sym, ◌∙◌, subst, set, vec_items, arith}
use Rattle.std.proofs.lemmas.List.{with_items_is}
use Rattle.ordered.specs.declared.entries.RowOf.{RowOf}
use Rattle.linked.specs.Tables.{Shows, without_row}
use Rattle.linked.proofs.Finding.{no_entry}
use Rattle.linked.proofs.Moving.{left, lowered, stood_down, still_inside, ascending_before}
use Rattle.linked.proofs.table.Table.leave.Goals as goal

pub invariant_of-self : goal.invariant_of-self
invariant_of-self c =
    let me = c.args.self.now in
    let x = c.in-Some-remove.entry in
    let ys = c.remove.new.table in
    let m = rw c.deref_mut.ensures.value at c.in-Some-remove.ensures.moves in
    let o = (rw c.deref_mut.ensures.value at c.in-Some-remove.ensures.order) me.ascending in
    let index = with_items_is me.index ys (c.remove.auto.table ∙ c.deref_mut.ensures.len) in
    let l = m.3.long in
    let z = length-set ys (me.used - 1) x in
    record {
      within = rw index (omega (arith, z, m.1));
      ascending = rw index (ascending_before ys (me.used - 1) (me.used - 1) x (omega arith) o);
      inside = rw index (λ k e h. still_inside (lowered c.in-Some.at me.used) _ _ _ (stood_down _ ys c.in-Some.at me.used x m.3 m.2 m.0 m.1) me.inside k e (omega (arith, z)));
    }

pub returns-in-Some-remove-clause-shows : goal.returns-in-Some-remove-clause-shows
returns-in-Some-remove-clause-shows c n look w s e =
    let me = c.args.self.now in
    let x = c.in-Some-remove.entry in
    let p = (rw c.deref.ensures.value at c.in-Some.ensures.place) s.1.within s.1.ascending in
    let m = rw c.deref_mut.ensures.value at c.in-Some-remove.ensures.moves in
    let o = (rw c.deref_mut.ensures.value at c.in-Some-remove.ensures.order) s.1.ascending in (
      omega (arith, s.0),
      subst (λ (ys : List RowOf). Shows (set ys (me.used - 1) x) (vec_items me.rows) (me.used - 1) (without_row c.args.id look)) (sym (with_items_is me.index c.remove.new.table (c.remove.auto.table ∙ c.deref_mut.ensures.len)))
          (left _ c.remove.new.table _ me.used c.in-Some.at c.args.id x look s.1 p.1 p.0 m.3 m.2 (ascending_before c.remove.new.table (me.used - 1) (me.used - 1) x (omega arith) o)),
    )

pub returns-in_default-clause-shows : goal.returns-in_default-clause-shows
returns-in_default-clause-shows c n look w s e =
    let k = s.1.every c.args.id w e in
    absurd ((rw c.deref.ensures.value at c.in_default.ensures.place) s.1.within s.1.ascending k.0 no_entry k.1 (k.2 no_entry))
