use Rattle.std.proofs.Common.{rules, ◌≡◌, true, List, [], ◌∷◌, refl, sym, ◌∙◌}
use Rattle.std.specs.List.{slice_get, find}
use Rattle.records.specs.declared.nodes.Node.{Node}
use Rattle.store.proofs.Finding.{first_answered}
use Rattle.sheet.proofs.Showing.{lists, root_listed}
use Rattle.sheet.proofs.sheet.reading.SheetReading.root.Goals as goal

first_is_found : (xs : List Node) → slice_get xs 0 ≡ find (λ x. true) xs
first_is_found [] = refl
first_is_found (x ∷ xs) = refl

pub returns : goal.returns
returns c =
    let xs = c.args.self.now.nodes.now in
    first_answered (λ x. true) xs c.first.result c.map_or.result (c.first.ensures.value ∙ first_is_found xs) (search rules)
    ∙ sym (root_listed xs (lists xs c.args.self.now.listed))
