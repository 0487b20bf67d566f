-- Where no key stands twice, the test for repeats finds none; the identifiers and the attribute names of a listing are such keys.
use Rattle.std.proofs.Common.{◌≡◌, ℕ, ◌+◌, ◌≤◌, Bool, true, false, ◌&&◌, eqb, List, [], ◌∷◌, ◌++◌, Some, None, Option, refl, arith}
use Rattle.std.proofs.lemmas.Bool.{eq-eqb}
use Rattle.records.specs.declared.nodes.Kind.{Kind}
use Rattle.records.specs.declared.nodes.Kind.TheVariants.{Element, Attribute, Text}
use Rattle.records.specs.declared.nodes.Node.{Node}
use Rattle.document.specs.Tree.{Label, Forest, nil, node, one, count, count_labels, count_names, Attributes, Holds, Sound}
use Rattle.document.specs.Listing.{row, attribute_rows, rows}
use Rattle.document.specs.Table.{seen, repeat_from, identifier_key, name_key}
use Rattle.document.proofs.Counting.{one_zero, key_is, count_key, count_key-++}

abbrev pub same_key : ℕ × ℕ → ℕ × ℕ → Bool
same_key j k = eqb j.0 k.0 && eqb j.1 k.1

-- how often a key stands among keys
abbrev pub count_before : ℕ × ℕ → List (ℕ × ℕ) → ℕ
count_before k [] = 0
count_before k (j ∷ js) = one (same_key j k) + count_before k js

pub not_seen : (k : ℕ × ℕ) (js : List (ℕ × ℕ)) → count_before k js ≡ 0 → seen k js ≡ false
not_seen k [] h = refl
not_seen k (j ∷ js) h = rw (one_zero (same_key j k) (omega arith), not_seen k js (omega arith))

pub one_same : (k : ℕ × ℕ) → one (same_key k k) ≡ 1
one_same k = rw (eq-eqb k.0 k.0 refl, eq-eqb k.1 k.1 refl)

-- a key that stands at most once, before and in the list together, is repeated nowhere
pub no_repeat : (key : Node → Option (ℕ × ℕ)) (before : List (ℕ × ℕ)) (n : ℕ) (xs : List Node)
    → ((k : ℕ × ℕ) → count_before k before + count_key key k xs ≤ 1) → repeat_from key before n xs ≡ None
no_repeat key before n [] h = refl
no_repeat key before n (x ∷ xs) h = go (key x) refl (λ js w. no_repeat key js (n + 1) xs w)
  where
    go : (o : Option (ℕ × ℕ)) → key x ≡ o → ((js : List (ℕ × ℕ)) → ((k : ℕ × ℕ) → count_before k js + count_key key k xs ≤ 1) → repeat_from key js (n + 1) xs ≡ None)
        → repeat_from key before n (x ∷ xs) ≡ None
    go None e later = rw e (later before (λ k. omega (arith, h k)))
    go (Some j) e later =
        let u = rw e at (h j) in
        rw (e, not_seen j before (omega (arith, one_same j))) (later (j ∷ before) (λ k. let v = rw e at (h k) in omega arith))

one_and : (b c : Bool) → one (b && c) ≤ one b
one_and true true = omega arith
one_and true false = omega arith
one_and false c = omega arith

one_and_right : (b c : Bool) → one (b && c) ≤ one c
one_and_right true c = omega arith
one_and_right false c = omega arith

-- identifiers: a key with another second part than 0 is the key of none
identifiers_of_attributes : (k : ℕ × ℕ) (p : ℕ) (l : List Label) → count_key identifier_key k (attribute_rows p l) ≤ count_labels k.0 l
identifiers_of_attributes k p [] = omega arith
identifiers_of_attributes k p (r ∷ l) = omega (arith, one_and (eqb r.id k.0) (eqb 0 k.1), identifiers_of_attributes k p l)

pub identifiers_of_rows : (k : ℕ × ℕ) (p : ℕ) (f : Forest) → count_key identifier_key k (rows p f) ≤ count k.0 f
identifiers_of_rows k p nil = omega arith
identifiers_of_rows k p (node r as' l f) =
    omega (
      arith,
      one_and (eqb r.id k.0) (eqb 0 k.1),
      count_key-++ identifier_key k (attribute_rows r.id as') (rows r.id l ++ rows p f),
      count_key-++ identifier_key k (rows r.id l) (rows p f),
      identifiers_of_attributes k r.id as',
      identifiers_of_rows k r.id l,
      identifiers_of_rows k p f,
    )

-- names: only the attributes of the node whose identifier the key has can have the key, and of those at most one
names_of_attributes : (k : ℕ × ℕ) (p : ℕ) (l : List Label) → Attributes l → count_key name_key k (attribute_rows p l) ≤ count_names k.1 l
names_of_attributes k p [] h = omega arith
names_of_attributes k p (r ∷ l) h =
    let e : one (key_is (name_key (row p r)) k) ≡ one (eqb p k.0 && eqb r.name k.1) = rw h.0 in
    omega (arith, one_and_right (eqb p k.0) (eqb r.name k.1), names_of_attributes k p l h.2)

names_of_others : (k : ℕ × ℕ) (p : ℕ) (l : List Label) → Attributes l → eqb p k.0 ≡ false → count_key name_key k (attribute_rows p l) ≡ 0
names_of_others k p [] h w = refl
names_of_others k p (r ∷ l) h w = rw (h.0, w, names_of_others k p l h.2 w)

names_once : (k : ℕ × ℕ) (p : ℕ) (l : List Label) → Attributes l → ((t : ℕ) → count_names t l ≤ 1) → count_key name_key k (attribute_rows p l) ≤ one (eqb p k.0)
names_once k p l h d = go (eqb p k.0) refl
  where
    go : (b : Bool) → eqb p k.0 ≡ b → count_key name_key k (attribute_rows p l) ≤ one (eqb p k.0)
    go true w = rw w (omega (arith, names_of_attributes k p l h, d k.1))
    go false w = omega (arith, names_of_others k p l h w)

-- an element and a text have no name that counts
no_name : (k : ℕ × ℕ) (p : ℕ) (r : Label) (as' : List Label) (l : Forest) → Holds r.kind as' l → one (key_is (name_key (row p r)) k) ≡ 0
no_name k p r as' l h = go r.kind refl h
  where
    go : (κ : Kind) → r.kind ≡ κ → Holds κ as' l → one (key_is (name_key (row p r)) k) ≡ 0
    go Element e w = rw e
    go Attribute e w = absurd w
    go Text e w = rw e

pub names_of_rows : (k : ℕ × ℕ) (p : ℕ) (f : Forest) → Sound f → count_key name_key k (rows p f) ≤ count k.0 f
names_of_rows k p nil s = omega arith
names_of_rows k p (node r as' l f) s =
    omega (
      arith,
      no_name k p r as' l s.1,
      names_once k r.id as' s.2.0 s.2.2,
      count_key-++ name_key k (attribute_rows r.id as') (rows r.id l ++ rows p f),
      count_key-++ name_key k (rows r.id l) (rows p f),
      names_of_rows k r.id l s.3,
      names_of_rows k p f s.4,
    )
