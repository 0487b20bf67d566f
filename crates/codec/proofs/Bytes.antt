-- Records as bytes, and back.
use Rattle.std.proofs.Common.{◌≡◌, ℕ, suc, ◌+◌, ◌*◌, ◌/◌, ◌%◌, ◌<◌, ◌≤◌, List, [], ◌∷◌, ◌++◌, length, get_or, take, drop, sym, ap, ◌∙◌, arith}
use lib.Arith.{digits_div, mod-mul}
use Rattle.std.proofs.lemmas.List.{drop_more, get_or-take}
use Rattle.codec.specs.declared.spelling.Record.{Record}
use Rattle.codec.specs.Codec.{bytes_of_two, bytes_of_four, record_of, bytes_of}

two_back : (a b : ℕ) → a < 256 → b < 256 → bytes_of_two (a + b * 256) ≡ a ∷ b ∷ []
two_back a b p q =
    let e : a + b * 256 ≡ b * 256 + a = omega arith in
    let x : (a + b * 256) % 256 ≡ a = omega arith in
    let y : (a + b * 256) / 256 % 256 ≡ b = ap (λ m. m / 256 % 256) e ∙ ap (λ m. m % 256) (digits_div b p) ∙ omega arith in
    rw (x, y)

four_back : (a b c d : ℕ) → a < 256 → b < 256 → c < 256 → d < 256 → bytes_of_four (a + b * 256 + c * 65536 + d * 16777216) ≡ a ∷ b ∷ c ∷ d ∷ []
four_back a b c d p q r s =
    let x : (a + b * 256 + c * 65536 + d * 16777216) % 256 ≡ a = omega arith in
    let e : a + b * 256 + c * 65536 + d * 16777216 ≡ (b + c * 256 + d * 65536) * 256 + a = omega arith in
    let f : a + b * 256 + c * 65536 + d * 16777216 ≡ (c + d * 256) * 65536 + (b * 256 + a) = omega arith in
    let g : a + b * 256 + c * 65536 + d * 16777216 ≡ d * 16777216 + (c * 65536 + b * 256 + a) = omega arith in
    let y : (a + b * 256 + c * 65536 + d * 16777216) / 256 % 256 ≡ b = ap (λ m. m / 256 % 256) e ∙ ap (λ m. m % 256) (digits_div (b + c * 256 + d * 65536) p) ∙ omega arith in
    let z : (a + b * 256 + c * 65536 + d * 16777216) / 65536 % 256 ≡ c = ap (λ m. m / 65536 % 256) f ∙ ap (λ m. m % 256) (digits_div (c + d * 256) {m = 65536} {r = b * 256 + a} (omega arith)) ∙ omega arith in
    let w : (a + b * 256 + c * 65536 + d * 16777216) / 16777216 % 256 ≡ d = ap (λ m. m / 16777216 % 256) g ∙ ap (λ m. m % 256) (digits_div d {m = 16777216} {r = c * 65536 + b * 256 + a} (omega arith)) ∙ omega arith in
    rw (x, y, z, w)

two_from : (n : ℕ) → n < 65536 → n % 256 + n / 256 % 256 * 256 ≡ n
two_from n h = omega (arith, mod-mul n {m = 256} {c = 256} (omega arith) (omega arith))

four_from : (n : ℕ) → n < 4294967296 → n % 256 + n / 256 % 256 * 256 + n / 65536 % 256 * 65536 + n / 16777216 % 256 * 16777216 ≡ n
four_from n h =
    omega (arith, mod-mul n {m = 256} {c = 256} (omega arith) (omega arith), mod-mul n {m = 256} {c = 65536} (omega arith) (omega arith), mod-mul n {m = 256} {c = 16777216} (omega arith) (omega arith))

-- the first k + 1 bytes from a place on: the byte there, and k more
more_front : (k i : ℕ) (bs : List ℕ) → i < length bs → take (suc k) (drop i bs) ≡ get_or bs i 0 ∷ take k (drop (i + 1) bs)
more_front k i bs h = rw (drop_more bs i 0 h)

sixteen : (bs : List ℕ) → 16 ≤ length bs → take 16 bs ≡ get_or bs 0 0 ∷ get_or bs 1 0 ∷ get_or bs 2 0 ∷ get_or bs 3 0 ∷ get_or bs 4 0 ∷ get_or bs 5 0 ∷ get_or bs 6 0 ∷ get_or bs 7 0
    ∷ get_or bs 8 0 ∷ get_or bs 9 0 ∷ get_or bs 10 0 ∷ get_or bs 11 0 ∷ get_or bs 12 0 ∷ get_or bs 13 0 ∷ get_or bs 14 0 ∷ get_or bs 15 0 ∷ []
sixteen bs h =
    rw (
      more_front 15 0 bs (omega arith),
      more_front 14 1 bs (omega arith),
      more_front 13 2 bs (omega arith),
      more_front 12 3 bs (omega arith),
      more_front 11 4 bs (omega arith),
      more_front 10 5 bs (omega arith),
      more_front 9 6 bs (omega arith),
      more_front 8 7 bs (omega arith),
      more_front 7 8 bs (omega arith),
      more_front 6 9 bs (omega arith),
      more_front 5 10 bs (omega arith),
      more_front 4 11 bs (omega arith),
      more_front 3 12 bs (omega arith),
      more_front 2 13 bs (omega arith),
      more_front 1 14 bs (omega arith),
      more_front 0 15 bs (omega arith),
    )

-- sixteen bytes are those of the record that they spell
pub record_back : (bs : List ℕ) → 16 ≤ length bs → ((i : ℕ) → get_or bs i 0 < 256) → bytes_of (record_of bs) ≡ take 16 bs
unfolding record_of bytes_of
record_back bs h t =
    let p = four_back (get_or bs 0 0) (get_or bs 1 0) (get_or bs 2 0) (get_or bs 3 0) (t 0) (t 1) (t 2) (t 3) in
    let q = four_back (get_or bs 4 0) (get_or bs 5 0) (get_or bs 6 0) (get_or bs 7 0) (t 4) (t 5) (t 6) (t 7) in
    let r = two_back (get_or bs 10 0) (get_or bs 11 0) (t 10) (t 11) in
    let s = four_back (get_or bs 12 0) (get_or bs 13 0) (get_or bs 14 0) (get_or bs 15 0) (t 12) (t 13) (t 14) (t 15) in
    (λ i. p i ++ (q i ++ (get_or bs 8 0 ∷ get_or bs 9 0 ∷ (r i ++ s i)))) ∙ sym (sixteen bs h)

-- the numbers of a record fit their fields
pub record Fits (r : Record) : Type 0 where
  pub key : r.key < 4294967296
  pub link : r.link < 4294967296
  pub name : r.name < 65536
  pub value : r.value < 4294967296

-- a record whose numbers fit comes back from its bytes, whatever follows them
pub record_from : (r : Record) (bs : List ℕ) → Fits r → record_of (bytes_of r ++ bs) ≡ r
unfolding record_of bytes_of
record_from r bs f = rw (four_from r.key f.key, four_from r.link f.link, two_from r.name f.name, four_from r.value f.value)

-- the first sixteen bytes are all that is read
pub record_of_front : (bs : List ℕ) → record_of (take 16 bs) ≡ record_of bs
unfolding record_of
record_of_front bs =
    let at : (i : ℕ) → i < 16 → get_or (take 16 bs) i 0 ≡ get_or bs i 0 = λ i h. get_or-take 16 bs i 0 h in
    rw (
      at 0 (omega arith),
      at 1 (omega arith),
      at 2 (omega arith),
      at 3 (omega arith),
      at 4 (omega arith),
      at 5 (omega arith),
      at 6 (omega arith),
      at 7 (omega arith),
      at 8 (omega arith),
      at 9 (omega arith),
      at 10 (omega arith),
      at 11 (omega arith),
      at 12 (omega arith),
      at 13 (omega arith),
      at 14 (omega arith),
      at 15 (omega arith),
    )
