-- The operations and nodes of one target and code, in the tables of a list.
use Rattle.std.proofs.Common.{◌≡◌, ℕ, zero, suc, ◌+◌, ◌-◌, ◌<◌, ◌≤◌, Bool, true, false, cond, eqb, List, [], ◌∷◌, ◌++◌, length, get_or, take, drop, set, is_some as option_is_some, Some, None, Option, sym, refl, ap, ◌∙◌, subst, ap₂, append_assoc, add-one, arith, length-append, length-drop, drop-cons}
use Rattle.std.proofs.lemmas.List.{length-take-le, drop-drop}
use Rattle.records.specs.declared.nodes.Node.{Node}
use Rattle.records.specs.declared.nodes.Kind.TheVariants.{Element}
use Rattle.records.specs.declared.operations.Code.{Code}
use Rattle.records.specs.declared.operations.Code.TheVariants.{InsertBefore}
use Rattle.records.specs.declared.operations.Operation.{Operation}
use Rattle.document.specs.Tree.{Forest, nil, node}
use Rattle.document.specs.Listing.{row, attribute_rows, rows}
use Rattle.changes.specs.Changes.{Change, ◌⊕◌, same_code, changes_on, first_of, value_given, name_given, is_some}
use Rattle.changes.specs.Tables.{trees_of, changes_of}
use Rattle.changes.specs.Overriding.{has_change}
use Rattle.walk.specs.Written.{written}
use Rattle.walk.proofs.Writing.{written-++}
use Rattle.reduce.specs.declared.keys.Key.{Key}
use Rattle.reduce.specs.Mirror.{group}
use Rattle.reduce.specs.Groups.{is_for, first_operation, Stretches, blank, key}

-- LISTS
pub front : {X : Type 0} → (xs : List X) (i : ℕ) (d : X) → i < length xs → drop i xs ≡ get_or xs i d ∷ drop (i + 1) xs
front xs i d h = drop-cons xs i d h ∙ ap (λ (n : ℕ). get_or xs i d ∷ drop n xs) (sym (add-one i))

take_front : {X : Type 0} → (xs : List X) (i n : ℕ) (d : X) → i < length xs → 0 < n → take n (drop i xs) ≡ get_or xs i d ∷ take (n - 1) (drop (i + 1) xs)
take_front xs i zero d h z = absurd (omega arith)
take_front xs i (suc n) d h z = ap (take (suc n)) (front xs i d h) ∙ ap (λ (k : ℕ). get_or xs i d ∷ take k (drop (i + 1) xs)) (let e : n ≡ suc n - 1 = omega arith in e)

-- one node more of a stretch is copied
pub copy_more : {X : Type 0} → (nodes out o2 all : List X) (at a2 i top : ℕ) (d : X) → i < top → top ≤ length nodes → a2 ≡ at + 1 → o2 ≡ set out at (get_or nodes i d)
    → written out at (take (top - i) (drop i nodes)) ≡ all → written o2 a2 (take (top - (i + 1)) (drop (i + 1) nodes)) ≡ all
copy_more nodes out o2 all at a2 i top d lt le ea eo e =
    ap₂ (λ (l : List _) (n : ℕ). written l n (take (top - (i + 1)) (drop (i + 1) nodes))) eo (ea ∙ add-one at)
    ∙ (ap (λ (n : ℕ). written (set out at (get_or nodes i d)) (suc at) (take n (drop (i + 1) nodes))) (let q : top - (i + 1) ≡ top - i - 1 = omega arith in q)
    ∙ (ap (written out at) (sym (take_front nodes i (top - i) d (omega arith) (omega arith))) ∙ e))

-- GROUPS as rows
pub rows-⊕ : (p : ℕ) (f g : Forest) → rows p (f ⊕ g) ≡ rows p f ++ rows p g
rows-⊕ p nil g = refl
rows-⊕ p (node r as' k f) g =
    ap (λ (l : List Node). row p r ∷ l)
    (ap (λ (l : List Node). attribute_rows r.id as' ++ (rows r.id k ++ l)) (rows-⊕ p f g)
    ∙ (ap (λ (l : List Node). attribute_rows r.id as' ++ l) (sym (append_assoc (rows r.id k) (rows p f) (rows p g))) ∙ sym (append_assoc (attribute_rows r.id as') (rows r.id k ++ rows p f) (rows p g))))

-- the rows of a group, read off the tables
abbrev pub group_rows : ℕ → Code → List Operation → List Node → List Node
group_rows t c [] xs = []
group_rows t c (o ∷ l) xs = cond (is_for t c o) (take o.count xs) [] ++ group_rows t c l (drop o.count xs)

pub group_is : (t : ℕ) (c : Code) (ops : List Operation) (xs : List Node) → Stretches ops xs → rows 0 (group (changes_of ops xs) t c) ≡ group_rows t c ops xs
group_is t c [] xs s = refl
group_is t c (o ∷ l) xs s = go (eqb o.target t) (same_code o.code c) refl refl (group_is t c l (drop o.count xs) s.2)
  where
    go : (a b : Bool) → eqb o.target t ≡ a → same_code o.code c ≡ b → rows 0 (group (changes_of l (drop o.count xs)) t c) ≡ group_rows t c l (drop o.count xs)
        → rows 0 (group (changes_of (o ∷ l) xs) t c) ≡ group_rows t c (o ∷ l) xs
    go true true p q i = rw (p, q) (rows-⊕ 0 (trees_of (take o.count xs)) (group (changes_of l (drop o.count xs)) t c) ∙ ap₂ (λ (x y : List Node). x ++ y) s.1 i)
    go true false p q i = rw (p, q) i
    go false b p q i = rw p i

-- THE FIRST OPERATION of a key, in the list and in the table
abbrev Same : Option Change → Option Operation → Type 0
Same None None = Unit {0}
Same None (Some q) = ⊥
Same (Some o) None = ⊥
Same (Some o) (Some q) = (o.value ≡ q.value) × (o.name ≡ q.name)

first_same : (t : ℕ) (c : Code) (ops : List Operation) (xs : List Node) → Same (first_of c (changes_on t (changes_of ops xs))) (first_operation t c ops)
first_same t c [] xs = tt
first_same t c (o ∷ l) xs = go (eqb o.target t) (same_code o.code c) refl refl (first_same t c l (drop o.count xs))
  where
    go : (a b : Bool) → eqb o.target t ≡ a → same_code o.code c ≡ b → Same (first_of c (changes_on t (changes_of l (drop o.count xs)))) (first_operation t c l)
        → Same (first_of c (changes_on t (changes_of (o ∷ l) xs))) (first_operation t c (o ∷ l))
    go true true p q i = rw (p, q) (refl, refl)
    go true false p q i = rw (p, q) i
    go false b p q i = rw p i

value_same : (a : Option Change) (b : Option Operation) → Same a b → (o : Operation) → b ≡ Some o → value_given a ≡ Some o.value
value_same None None s o e = absurd (let z : ◌≡◌ {A = ℕ} 0 1 = cc in omega arith)
value_same None (Some q) s o e = absurd s
value_same (Some p) None s o e = absurd s
value_same (Some p) (Some q) s o e = ap Some (s.0 ∙ (let h : q ≡ o = cc in ap (λ (z : Operation). z.value) h))

name_same : (a : Option Change) (b : Option Operation) → Same a b → (o : Operation) → b ≡ Some o → name_given a ≡ Some o.name
name_same None None s o e = absurd (let z : ◌≡◌ {A = ℕ} 0 1 = cc in omega arith)
name_same None (Some q) s o e = absurd s
name_same (Some p) None s o e = absurd s
name_same (Some p) (Some q) s o e = ap Some (s.1 ∙ (let h : q ≡ o = cc in ap (λ (z : Operation). z.name) h))

none_same : (a : Option Change) (b : Option Operation) → Same a b → b ≡ None → a ≡ None
none_same None None s e = refl
none_same None (Some q) s e = absurd s
none_same (Some p) None s e = absurd s
none_same (Some p) (Some q) s e = absurd (let z : ◌≡◌ {A = ℕ} 0 1 = cc in omega arith)

some_same : (a : Option Change) (b : Option Operation) → Same a b → option_is_some b ≡ is_some a
some_same None None s = refl
some_same None (Some q) s = absurd s
some_same (Some p) None s = absurd s
some_same (Some p) (Some q) s = refl

module _ (t : ℕ) (c : Code) (ops : List Operation) (xs : List Node) where
  pub value_found : (o : Operation) → Some o ≡ first_operation t c ops → value_given (first_of c (changes_on t (changes_of ops xs))) ≡ Some o.value
  value_found o e = value_same _ (first_operation t c ops) (first_same t c ops xs) o (sym e)

  pub name_found : (o : Operation) → Some o ≡ first_operation t c ops → name_given (first_of c (changes_on t (changes_of ops xs))) ≡ Some o.name
  name_found o e = name_same _ (first_operation t c ops) (first_same t c ops xs) o (sym e)

  pub none_found : None ≡ first_operation t c ops → first_of c (changes_on t (changes_of ops xs)) ≡ None
  none_found e = none_same _ (first_operation t c ops) (first_same t c ops xs) (sym e)

  pub has_found : option_is_some (first_operation t c ops) ≡ has_change c t (changes_of ops xs)
  has_found = some_same _ (first_operation t c ops) (first_same t c ops xs)

-- what stands past the end
abbrev pub no_node : Node
no_node = record { id = 0; parent = 0; kind = Element; name = 0; value = 0 }

abbrev pub no_key : Key
no_key = key 0 InsertBefore

-- copying a group
module _ (t : ℕ) (c : Code) (ops : List Operation) (xs : List Node) (i start : ℕ) (h : i < length ops) where
  rest : group_rows t c (drop i ops) (drop start xs)
      ≡ cond (is_for t c (get_or ops i blank)) (take (get_or ops i blank).count (drop start xs)) [] ++ group_rows t c (drop (i + 1) ops) (drop (start + (get_or ops i blank).count) xs)
  rest =
      ap (λ (l : List Operation). group_rows t c l (drop start xs)) (front ops i blank h)
      ∙ ap (λ (l : List Node). cond (is_for t c (get_or ops i blank)) (take (get_or ops i blank).count (drop start xs)) [] ++ group_rows t c (drop (i + 1) ops) l)
      (drop-drop (get_or ops i blank).count start xs)

  pub rest_yes : is_for t c (get_or ops i blank) ≡ true
      → group_rows t c (drop i ops) (drop start xs) ≡ take (get_or ops i blank).count (drop start xs) ++ group_rows t c (drop (i + 1) ops) (drop (start + (get_or ops i blank).count) xs)
  rest_yes e = rest ∙ ap (λ (b : Bool). cond b (take (get_or ops i blank).count (drop start xs)) [] ++ group_rows t c (drop (i + 1) ops) (drop (start + (get_or ops i blank).count) xs)) e

  pub rest_no : is_for t c (get_or ops i blank) ≡ false → group_rows t c (drop i ops) (drop start xs) ≡ group_rows t c (drop (i + 1) ops) (drop (start + (get_or ops i blank).count) xs)
  rest_no e = rest ∙ ap (λ (b : Bool). cond b (take (get_or ops i blank).count (drop start xs)) [] ++ group_rows t c (drop (i + 1) ops) (drop (start + (get_or ops i blank).count) xs)) e

  pub rest_trees : Stretches (drop i ops) (drop start xs) → start ≤ length xs
      → (start + (get_or ops i blank).count ≤ length xs) × Stretches (drop (i + 1) ops) (drop (start + (get_or ops i blank).count) xs)
  rest_trees s le =
      let u : Stretches (get_or ops i blank ∷ drop (i + 1) ops) (drop start xs) = subst (λ (l : List Operation). Stretches l (drop start xs)) (front ops i blank h) s in
      (omega (arith, u.0, length-drop start xs), subst (λ (l : List Node). Stretches (drop (i + 1) ops) l) (drop-drop (get_or ops i blank).count start xs) u.2)

-- one stretch more
pub stretch_more : (out o2 all xs r r2 : List Node) (at a2 n start total : ℕ) → start + n ≤ length xs → r ≡ take n (drop start xs) ++ r2 → a2 ≡ at + n → o2 ≡ written out at (take n (drop start xs))
    → at + length r ≡ total → written out at r ≡ all → (a2 + length r2 ≡ total) × (written o2 a2 r2 ≡ all)
stretch_more out o2 all xs r r2 at a2 n start total le e ea eo e1 e2 =
    let k : length (take n (drop start xs)) ≡ n = length-take-le n (drop start xs) (omega (arith, length-drop start xs)) in (
      omega (arith, ap length e, length-append (take n (drop start xs)) r2, k),
      ap₂ (λ (l : List Node) (m : ℕ). written l m r2) eo (ea ∙ ap (λ (z : ℕ). at + z) (sym k)) ∙ (written-++ out at (take n (drop start xs)) r2 ∙ (ap (written out at) (sym e) ∙ e2)),
    )
