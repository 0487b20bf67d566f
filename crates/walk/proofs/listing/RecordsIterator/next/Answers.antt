use Rattle.std.proofs.Common.{◌≡◌, ℕ, None, Ok, Err, Result, sym, ap, ◌∙◌, length, arith, rules}
use Rattle.std.specs.Result.{result_ok}
use Rattle.faults.specs.declared.StoreFault.{StoreFault}
use Rattle.records.specs.declared.nodes.Node.{Node}
use Rattle.walk.proofs.Adding.{attribute_given, node_given, nothing_left}
use Rattle.walk.proofs.listing.RecordsIterator.next.Goals as goal

not_ok : (q : Result Node StoreFault) → None ≡ result_ok q → (r : Node) → q ≡ Ok r → ⊥
not_ok (Ok x) e r h = let z : ◌≡◌ {A = ℕ} 0 1 = cc in absurd (omega arith)
not_ok (Err f) e r h = let z : ◌≡◌ {A = ℕ} 0 1 = cc in absurd (omega arith)

pub returns-in-Ok : goal.returns-in-Ok
returns-in-Ok g c =
    let s = c.args.self.now in
    let u = attribute_given (g.R.Reading.forest s.store.now) c.kept.ensures.shape s.attribute s.node c.in-Ok.attribute c.next_attribute-self.result c.requires.1 c.requires.0 c.in-Ok.ensures c.next_attribute-self.ensures in
    record { steps = u.all; goes = record { on = λ f. ((u.walks, u.begins), tt, omega (arith, ap length u.all)); keeps = (u.walks, u.begins); rests = λ f. tt } }

pub returns-in_err-node-clause-steps : goal.returns-in_err-node-clause-steps
returns-in_err-node-clause-steps g c =
    let s = c.args.self.now in
    let m = nothing_left (g.R.Reading.forest s.store.now) c.kept.ensures.shape s.attribute s.node (λ r e. c.in_default.not-Ok r (c.node.ensures ∙ e)) (λ r e. not_ok c.node-2.result (sym c.in_err-node.was ∙ c.ok.ensures.value) r (c.node-2.ensures ∙ e)) in
    rw c.from_residual.ensures (m, m)

pub returns : goal.returns
returns g c =
    let s = c.args.self.now in
    let u = node_given (g.R.Reading.forest s.store.now) c.kept.ensures.shape s.attribute s.node c.in_ok-node.node c.first_attribute-self.result c.after-self.result
    (λ r e. c.in_default.not-Ok r (c.node.ensures ∙ e)) c.requires.0 (search rules) c.first_attribute-self.ensures c.after-self.ensures in
    record { steps = u.all; goes = record { on = λ f. ((u.walks, u.begins), tt, omega (arith, ap length u.all)); keeps = (u.walks, u.begins); rests = λ f. tt } }
