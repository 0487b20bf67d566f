-- The sixteen bytes of a record.
use Rattle.std.specs.Prelude.{ℕ, ◌+◌, ◌*◌, ◌/◌, ◌%◌, cond, List, [], ◌∷◌, ◌++◌, length, Some, None, Option, nat_lt, slice_index}
use Rattle.codec.specs.declared.spelling.Record.{Record}

-- the number that bytes i, i + 1, .. spell, least significant first
abbrev pub two_bytes : List ℕ → ℕ → ℕ
two_bytes bs i = slice_index bs i + slice_index bs (i + 1) * 256

abbrev pub four_bytes : List ℕ → ℕ → ℕ
four_bytes bs i = slice_index bs i + slice_index bs (i + 1) * 256 + slice_index bs (i + 2) * 65536 + slice_index bs (i + 3) * 16777216

-- the record that the first sixteen bytes spell
unfoldable pub record_of : List ℕ → Record
record_of bs = record {
  key = four_bytes bs 0;
  link = four_bytes bs 4;
  tag = slice_index bs 8;
  spare = slice_index bs 9;
  name = two_bytes bs 10;
  value = four_bytes bs 12;
}

abbrev pub bytes_of_two : ℕ → List ℕ
bytes_of_two n = (n % 256) ∷ (n / 256 % 256) ∷ []

abbrev pub bytes_of_four : ℕ → List ℕ
bytes_of_four n = (n % 256) ∷ (n / 256 % 256) ∷ (n / 65536 % 256) ∷ (n / 16777216 % 256) ∷ []

unfoldable pub bytes_of : Record → List ℕ
bytes_of r = bytes_of_four r.key ++ (bytes_of_four r.link ++ (r.tag ∷ r.spare ∷ (bytes_of_two r.name ++ bytes_of_four r.value)))

-- the record at the front of bytes, where there are sixteen
abbrev pub first_record : List ℕ → Option Record
first_record bs = cond (nat_lt (length bs) 16) None (Some (record_of bs))
