use Rattle.std.proofs.Common.{sym, ◌∙◌}
use Rattle.std.proofs.lemmas.Bool.{eq-eqb, ne_eqb}
use Rattle.flat.proofs.OfKind.{tests_of}
use Rattle.flat.proofs.Holding.{R, X, fits, held}
use Rattle.flat.proofs.Spotting.{root_fits, root_suited}
use Rattle.flat.proofs.flat_store.FlatStore.root_spot.Goals as goal
use Rattle.flat.proofs.flat_store.FlatStore.root_spot.Goals.{else-self-eq0-via-then-self-eq0+then-eq+else-left-eq0, else-self-eq0-via-then-self-eq0+else-eq, else-self-eq0-via-else-self-eq0}

pub returns-then-left-eq0 : goal.returns-then-left-eq0
returns-then-left-eq0 c =
    let me = c.args.self.now in
    let kind = rw (tests_of c.args.node.kind).element at (sym c.eq.ensures ∙ c.if-eq.true) in
    root_suited (R me) (X me) me.used (fits me) (held me) c.args.node c.args.left c.requires c.if-self-eq0.true kind c.if-left-eq0.true

pub returns-else-self-eq0 : goal.returns-else-self-eq0
returns-else-self-eq0 c =
    let me = c.args.self.now in
    let e = root_fits (R me) (X me) me.used (fits me) (held me) c.args.node c.args.left c.requires in
    let kind = sym (tests_of c.args.node.kind).element in
    elim c.else-self-eq0.branch [
      | else-self-eq0-via-then-self-eq0+then-eq+else-left-eq0 w ↦
          e ∙ rw (eq-eqb me.used 0 w.if-self-eq0.true, kind ∙ sym w.eq.ensures ∙ w.if-eq.true, ne_eqb c.args.left 0 w.if-left-eq0.false)
      | else-self-eq0-via-then-self-eq0+else-eq w ↦ e ∙ rw (eq-eqb me.used 0 w.if-self-eq0.true, kind ∙ sym w.eq.ensures ∙ w.if-eq.false)
      | else-self-eq0-via-else-self-eq0 w ↦ e ∙ rw (ne_eqb me.used 0 w.if-self-eq0.false)
    ]
