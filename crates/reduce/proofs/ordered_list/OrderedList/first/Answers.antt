use Rattle.std.proofs.Common.{◌≡◌, false, ltb, length, get_or, Some, is_some, sym, ap, ◌∙◌, inl, inr, ltb-false}
use Rattle.std.proofs.lemmas.List.{get_or_read}
use Rattle.reduce.specs.declared.keys.Entry.{Entry}
use Rattle.reduce.specs.Groups.{blank, entry_for}
use Rattle.reduce.proofs.Indexing.{no_entry, nothing_first, found_first}
use Rattle.reduce.proofs.Readied.{ready}
use Rattle.reduce.proofs.ordered_list.OrderedList.first.Goals as goal

pub returns-in-Some : goal.returns-in-Some
returns-in-Some c =
    let me = c.args.self.now in
    let found = c.in-Some.ensures.lookup in
    let read = get_or_read me.entries.now c.place_of.result c.in-Some.entry.now found.3.0 found.1 no_entry in
    let e = ap (entry_for c.args.key.target c.args.key.code) (sym read) ∙ sym c.is_for.ensures ∙ c.if-is_for.true in
    ap (λ (x : Entry). Some (get_or me.operations.now x.position blank)) read
    ∙ found_first c.args.key.target c.args.key.code me.operations.now me.nodes.now me.entries.now (ready me) c.place_of.result c.place_of.ensures found.3.0 e

pub returns-in_default : goal.returns-in_default
returns-in_default c =
    let me = c.args.self.now in
    let found = c.in-Some.ensures.lookup in
    let read = get_or_read me.entries.now c.place_of.result c.in-Some.entry.now found.3.0 found.1 no_entry in
    let e = ap (entry_for c.args.key.target c.args.key.code) (sym read) ∙ sym c.is_for.ensures ∙ c.if-is_for.false in
    nothing_first c.args.key.target c.args.key.code me.operations.now me.nodes.now me.entries.now (ready me) c.place_of.result c.place_of.ensures (inr e)

pub returns-in_default-2 : goal.returns-in_default-2
returns-in_default-2 c =
    let me = c.args.self.now in
    let past : false ≡ ltb c.place_of.result (length me.entries.now) = ap is_some (sym c.in_default.is) ∙ c.get.ensures.lookup.0 in
    nothing_first c.args.key.target c.args.key.code me.operations.now me.nodes.now me.entries.now (ready me) c.place_of.result c.place_of.ensures
    (inl (ltb-false c.place_of.result (length me.entries.now) (sym past)))
