use Rattle.std.proofs.Common.{vec_len, sym, ◌∙◌}
use Rattle.std.proofs.lemmas.Bool.{eq-eqb, ne_eqb}
use Rattle.flat.proofs.Putting.{known, unknown, full, suited}
use Rattle.flat.proofs.flat_store.FlatStore.judge_put.Goals as goal

pub returns-then-is_ok : goal.returns-then-is_ok
returns-then-is_ok c =
    known c.args.self.now c.args.node c.args.left (sym c.is_formed.ensures ∙ c.if-not-is_formed.false) c.row_with.result (sym c.is_ok.ensures.value ∙ c.if-is_ok.true) c.row_with.ensures

pub returns-then-self-len : goal.returns-then-self-len
returns-then-self-len c =
    let me = c.args.self.now in
    let new = unknown me c.args.node c.args.left c.row_with.result (sym c.is_ok.ensures.value ∙ c.if-is_ok.false) c.row_with.ensures in
    full me c.args.node c.args.left (sym c.is_formed.ensures ∙ c.if-not-is_formed.false) new (rw c.in_ok-spot.ensures.ok_part at c.spot.ensures).fit (eq-eqb me.used (vec_len me.rows) (c.if-self-len.true ∙ c.len.ensures))

pub returns : goal.returns
returns c =
    let me = c.args.self.now in
    let new = unknown me c.args.node c.args.left c.row_with.result (sym c.is_ok.ensures.value ∙ c.if-is_ok.false) c.row_with.ensures in
    suited me c.args.node c.args.left (sym c.is_formed.ensures ∙ c.if-not-is_formed.false) new c.in_ok-spot.spot (ne_eqb me.used (vec_len me.rows) (λ e. c.if-self-len.false (e ∙ sym c.len.ensures)))
    (rw c.in_ok-spot.ensures.ok_part at c.spot.ensures)
