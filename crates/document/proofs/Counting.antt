-- Identifiers and keys, counted.
use Rattle.std.proofs.Common.{◌≡◌, ℕ, ◌+◌, Bool, true, false, ◌&&◌, eqb, ltb, List, [], ◌∷◌, ◌++◌, length, Some, None, Option, refl, arith, length-append}
use Rattle.std.proofs.lemmas.Bool.{eq-eqb, eqb-true, ltb-true}
use Rattle.std.proofs.lemmas.Bool.Decides.{nat_tests}
use Rattle.records.specs.declared.nodes.Node.{Node}
use Rattle.document.specs.Tree.{Label, Forest, nil, node, one, count_labels, count, size_labels, size}
use Rattle.document.specs.Listing.{attribute_rows, rows}

-- a test as a number
pub one_zero : (b : Bool) → one b ≡ 0 → b ≡ false
one_zero false e = refl
one_zero true e = absurd (omega arith)

pub one_refl : (t : ℕ) → one (eqb t t) ≡ 1
one_refl t = rw (eq-eqb t t refl)

pub eqb_sym : (a b : ℕ) → eqb a b ≡ eqb b a
eqb_sym a b = grind (arith, nat_tests)

-- a number above 0 is not 0
pub above_uncounted : (n : ℕ) → ltb 0 n ≡ true → one (eqb n 0) ≡ 0
above_uncounted n h = go (eqb n 0) refl
  where
    go : (b : Bool) → eqb n 0 ≡ b → one (eqb n 0) ≡ 0
    go false e = rw e
    go true e = absurd (omega (arith, ltb-true 0 n h, eqb-true n 0 e))

-- how often an identifier stands among the open elements
abbrev pub count_open : ℕ → List ℕ → ℕ
count_open t [] = 0
count_open t (e ∷ es) = one (eqb e t) + count_open t es

-- how often an identifier stands in a table
abbrev pub count_rows : ℕ → List Node → ℕ
count_rows t [] = 0
count_rows t (x ∷ xs) = one (eqb x.id t) + count_rows t xs

pub count_rows-++ : (t : ℕ) (xs ys : List Node) → count_rows t (xs ++ ys) ≡ count_rows t xs + count_rows t ys
count_rows-++ t [] ys = omega arith
count_rows-++ t (x ∷ xs) ys = omega (arith, count_rows-++ t xs ys)

pub count_attribute_rows : (t p : ℕ) (l : List Label) → count_rows t (attribute_rows p l) ≡ count_labels t l
count_attribute_rows t p [] = refl
count_attribute_rows t p (r ∷ l) = omega (arith, count_attribute_rows t p l)

-- an identifier stands in the rows of trees as often as in the trees, and there are as many rows as nodes
pub count_of_rows : (t p : ℕ) (f : Forest) → count_rows t (rows p f) ≡ count t f
count_of_rows t p nil = refl
count_of_rows t p (node r as' k f) =
    omega (
      arith,
      count_rows-++ t (attribute_rows r.id as') (rows r.id k ++ rows p f),
      count_rows-++ t (rows r.id k) (rows p f),
      count_attribute_rows t r.id as',
      count_of_rows t r.id k,
      count_of_rows t p f,
    )

pub length_attribute_rows : (p : ℕ) (l : List Label) → length (attribute_rows p l) ≡ size_labels l
length_attribute_rows p [] = refl
length_attribute_rows p (r ∷ l) = omega (arith, length_attribute_rows p l)

pub length_of_rows : (p : ℕ) (f : Forest) → length (rows p f) ≡ size f
length_of_rows p nil = refl
length_of_rows p (node r as' k f) =
    omega (
      arith,
      length-append (attribute_rows r.id as') (rows r.id k ++ rows p f),
      length-append (rows r.id k) (rows p f),
      length_attribute_rows r.id as',
      length_of_rows r.id k,
      length_of_rows p f,
    )

-- how often a key stands in a table
abbrev pub key_is : Option (ℕ × ℕ) → ℕ × ℕ → Bool
key_is None k = false
key_is (Some j) k = eqb j.0 k.0 && eqb j.1 k.1

abbrev pub count_key : (Node → Option (ℕ × ℕ)) → ℕ × ℕ → List Node → ℕ
count_key key k [] = 0
count_key key k (x ∷ xs) = one (key_is (key x) k) + count_key key k xs

pub count_key-++ : (key : Node → Option (ℕ × ℕ)) (k : ℕ × ℕ) (xs ys : List Node) → count_key key k (xs ++ ys) ≡ count_key key k xs + count_key key k ys
count_key-++ key k [] ys = omega arith
count_key-++ key k (x ∷ xs) ys = omega (arith, count_key-++ key k xs ys)
