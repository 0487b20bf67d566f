-- Records in their order, with what is due at each.
use Rattle.std.specs.Prelude.{ℕ, List, [], ◌∷◌, length, map}
use Rattle.codec.specs.declared.spelling.Record.{Record}
use Rattle.codec.specs.Codec.{record_of}
use Rattle.reader.specs.declared.reading.DueRecords.{DueRecords}
use Rattle.reader.specs.Reading.{due_after}

-- each record behind how many nodes are due where it stands, and before how many records follow it
abbrev pub due_records : ℕ → List Record → List (ℕ × Record × ℕ)
due_records due [] = []
due_records due (r ∷ rs) = (due, r, length rs) ∷ due_records (due_after due r) rs

-- what is still to be given
abbrev pub left : DueRecords → List (ℕ × Record × ℕ)
left s = due_records s.due (map record_of s.raw.now)
