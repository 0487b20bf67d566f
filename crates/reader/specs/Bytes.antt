-- A file is a row of sixteen-byte records.
use Rattle.std.specs.Prelude.{◌≡◌, ℕ, zero, suc, ◌+◌, ◌/◌, List, [], ◌∷◌, ◌++◌, length, take, drop}
use Rattle.codec.specs.declared.spelling.Record.{Record}
use Rattle.codec.specs.Codec.{record_of, bytes_of}

abbrev pub records_in : ℕ → List ℕ → List Record
records_in zero bs = []
records_in (suc k) bs = record_of bs ∷ records_in k (drop 16 bs)

-- the whole records of a file
unfoldable pub records : List ℕ → List Record
records bs = records_in (length bs / 16) bs

-- the file of records
abbrev pub file_of : List Record → List ℕ
file_of [] = []
file_of (r ∷ rs) = bytes_of r ++ file_of rs

-- a table with xs written over its front
abbrev pub over : {X : Type 0} → List X → List X → List X
over xs table = xs ++ drop (length xs) table

-- a table with xs written over it from a place on
abbrev pub patched : {X : Type 0} → List X → ℕ → List X → List X
patched table at xs = take at table ++ (xs ++ drop (at + length xs) table)

-- each record comes back from its bytes
abbrev pub Spelt : List Record → Type 0
Spelt [] = Unit {0}
Spelt (r ∷ rs) = (record_of (bytes_of r) ≡ r) × Spelt rs
