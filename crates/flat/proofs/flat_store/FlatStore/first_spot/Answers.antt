use Rattle.std.proofs.Common.{◌≡◌, ℕ, Option, ◌∙◌, subst, ap, Bool}
use Rattle.std.specs.Bool.{then_some}
use Rattle.flat.specs.Means.{at}
use Rattle.flat.specs.Walks.{Behind}
use Rattle.flat.proofs.OfKind.{tests_of}
use Rattle.flat.proofs.Holding.{R, X, fits, held, used_behind}
use Rattle.flat.proofs.Spotting.{bound_of, first_suited}
use Rattle.flat.proofs.flat_store.FlatStore.first_spot.Goals as goal

pub returns : goal.returns
returns c =
    let me = c.args.self.now in
    let i = c.args.parent in
    let r = c.behind_attributes.result in
    let e : c.then_some-bound.result ≡ bound_of c.args.node =
    c.then_some-bound.ensures ∙ ap (λ (b : Bool). then_some b c.args.node.id) (c.eq.ensures ∙ (tests_of c.args.node.kind).attribute) in
    let w = used_behind me i r c.then_some-bound.result c.requires.element.0 (rw c.in_use.ensures at c.behind_attributes.ensures) in
    first_suited (R me) (X me) me.used (fits me) (held me) c.args.node i c.requires.element.0 c.requires.element.1 c.requires.element.2 r c.requires.fresh
    (subst (λ (b : Option ℕ). Behind (R me) me.used i (at (R me) i).node.id b r) e w)
