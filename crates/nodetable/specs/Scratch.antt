-- Scratch memory.
use Rattle.std.specs.Prelude.{ℕ, List, [], ◌∷◌, ◌++◌, length, replicate}
use Rattle.nodetable.specs.declared.scratch.Slot.{Slot}

abbrev pub empty_slot : Slot
empty_slot = record { id = 0; name = 0; place = 0 }

abbrev pub cleared : List Slot → List Slot
cleared xs = replicate (length xs) empty_slot

-- the identifiers of the open elements, innermost first, where the slots hold them outermost first
abbrev pub open_ids : List Slot → List ℕ
open_ids [] = []
open_ids (s ∷ ss) = open_ids ss ++ (s.id ∷ [])
