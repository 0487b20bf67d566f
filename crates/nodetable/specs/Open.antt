-- The elements that are open, innermost first, and how many can be.
use Rattle.std.specs.Prelude.{ℕ, List, length, take}
use Rattle.nodetable.specs.declared.open_elements.OpenElements.{OpenElements}
use Rattle.nodetable.specs.Scratch.{open_ids}

abbrev pub open_in : OpenElements → List ℕ
open_in o = open_ids (take o.count o.slots.now)

abbrev pub places : OpenElements → ℕ
places o = length o.slots.now
