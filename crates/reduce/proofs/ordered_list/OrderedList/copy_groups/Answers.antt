use Rattle.std.proofs.Common.{◌≡◌, ℕ, ◌+◌, List, ◌++◌, length, get_or, drop, sym, ap, ◌∙◌, ap₂, arith, length-append}
use Rattle.records.specs.declared.nodes.Node.{Node}
use Rattle.document.specs.Tree.{Forest}
use Rattle.document.specs.Listing.{rows}
use Rattle.changes.specs.Changes.{Change, ◌⊕◌}
use Rattle.walk.specs.Written.{written}
use Rattle.walk.proofs.Writing.{written-++}
use Rattle.reduce.specs.declared.keys.Key.{Key}
use Rattle.reduce.specs.Mirror.{group}
use Rattle.reduce.specs.Groups.{gathered}
use Rattle.reduce.specs.Lists.{changes}
use Rattle.reduce.specs.Output.{Output}
use Rattle.reduce.proofs.Scanning.{front, rows-⊕, no_key}
use Rattle.reduce.proofs.ordered_list.OrderedList.copy_groups.Goals as goal

pub copy_group-requires : goal.copy_group-requires
copy_group-requires c =
    let l : List Change = changes c.args.self.now in
    let k : Key = get_or c.args.keys.now c.loop-key.key-index no_key in
    let A : Forest = group l k.target k.code in
    let B : Forest = gathered l (drop (c.loop-key.key-index + 1) c.args.keys.now) in
    let e : gathered l (drop c.loop-key.key-index c.args.keys.now) ≡ A ⊕ B = ap (gathered l) (front c.args.keys.now c.loop-key.key-index no_key c.loop-key-test.true) in
    omega (arith, c.requires, c.loop-key.invariant.3, ap (λ (f : Forest). length (rows 0 f)) e, ap length (rows-⊕ 0 A B), length-append (rows 0 A) (rows 0 B))

pub loop-key-preserved : goal.loop-key-preserved
loop-key-preserved c =
    let l : List Change = changes c.args.self.now in
    let k : Key = get_or c.args.keys.now c.loop-key.key-index no_key in
    let A : Forest = group l k.target k.code in
    let B : Forest = gathered l (drop (c.loop-key.key-index + 1) c.args.keys.now) in
    let e : rows 0 (gathered l (drop c.loop-key.key-index c.args.keys.now)) ≡ rows 0 A ++ rows 0 B =
    ap (λ (q : List Key). rows 0 (gathered l q)) (front c.args.keys.now c.loop-key.key-index no_key c.loop-key-test.true) ∙ rows-⊕ 0 A B in
    let left = c.copy_group.ensures.left in
    let same = c.copy_group.ensures.same in
    let was = c.loop-key.tables in
    let count = ap (λ (o : Output). o.used.nodes) left in (
      record { operations = same.operations ∙ c.loop-key.invariant.0.operations; nodes = same.nodes ∙ c.loop-key.invariant.0.nodes },
      ap (λ (o : Output). o.operations) left ∙ c.loop-key.invariant.1,
      ap (λ (o : Output). o.used.operations) left ∙ c.loop-key.invariant.2,
      omega (arith, c.loop-key.invariant.3, ap length e, length-append (rows 0 A) (rows 0 B), count),
      ap₂ (λ (xs : List Node) (m : ℕ). written xs m (rows 0 B)) (ap (λ (o : Output). o.nodes) left) count
          ∙ (written-++ was.nodes.now was.used.nodes (rows 0 A) (rows 0 B) ∙ (ap (written was.nodes.now was.used.nodes) (sym e) ∙ c.loop-key.invariant.4)),
    )
