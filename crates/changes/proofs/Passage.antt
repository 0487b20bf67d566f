-- Change lists and their tables: each gives the other back, and the tests on both agree.
use Rattle.std.proofs.Common.{◌≡◌, ℕ, ◌+◌, ◌≤◌, Bool, true, false, not, ◌&&◌, eqb, ltb, leb, List, [], ◌∷◌, ◌++◌, length, take, drop, None, sym, refl, ap, ◌∙◌, ap₂, arith, length-append}
use lib.Seq.{take-append_seam, drop-append_seam}
use Rattle.std.proofs.lemmas.Bool.{le-leb, and_parts, and_from, or_from, le-ltb, leb-true, not-false, or_parts, ltb-false, eqb-true}
use Rattle.std.proofs.lemmas.List.{take-append-drop, length-take-le}
use Rattle.records.specs.Formed.{formed_node, formed_operation}
use Rattle.records.specs.declared.nodes.Node.{Node}
use Rattle.records.specs.declared.operations.Operation.{Operation}
use Rattle.document.specs.Tree.{Sound, node, count, Label, Attributes, Forest, nil}
use Rattle.document.specs.Listing.{rows, row, attribute_rows}
use Rattle.document.proofs.Counting.{count_of_rows, count_rows, one_refl}
use Rattle.document.proofs.Tested.{some_none, passed, passed_not}
use Rattle.changes.specs.Changes.{Change, count_nodes}
use Rattle.changes.specs.Tests.{SoundRoots, SoundChanges, Suits, change_test}
use Rattle.changes.specs.Tables.{all_formed, changes_of, operation_rows, node_rows, miscounted_from, first_operation, parts, misformed, no_row_of_trees, count_ids, taken_identifier, identifier_taken, list_test, parts_are_trees, trees_of}
use Rattle.changes.proofs.Fitting.{Each}
use Rattle.faults.specs.declared.ListFault.TheVariants.{Structure, Misformed, IdentifierTaken, NoTrees}
use Rattle.changes.proofs.Passing.{refused_none}
use Rattle.changes.proofs.Tabling.{trees_back, count_ids-++, trees_forth}

-- FROM CHANGES TO TABLES AND BACK
abbrev Apart : List Change → Type 0
Apart [] = Unit {0}
Apart (o ∷ l) = SoundRoots o.nodes × ((t : ℕ) → count t o.nodes ≤ 1) × Apart l

apart_sound : (l : List Change) → SoundChanges l → ((t : ℕ) → count_nodes t l ≤ 1) → Apart l
apart_sound [] h c = tt
apart_sound (o ∷ l) h c = (h.1, (λ t. omega (arith, c t)), apart_sound l h.2 (λ t. omega (arith, c t)))

changes_come_back : (l : List Change) → Apart l → changes_of (operation_rows l) (node_rows l) ≡ l
changes_come_back [] h = refl
changes_come_back (o ∷ l) h =
    rw (
      take-append_seam (rows 0 o.nodes) (node_rows l),
      drop-append_seam (rows 0 o.nodes) (node_rows l),
      (trees_back o.nodes h.0 h.1).1,
      changes_come_back l h.2,
    )

-- the tables of a list pass the tests on tables
counts_fit : (n : ℕ) (l : List Change) → miscounted_from n (operation_rows l) (node_rows l) ≡ None
counts_fit n [] = refl
counts_fit n (o ∷ l) =
    rw (
      le-leb (length (rows 0 o.nodes)) (length (rows 0 o.nodes ++ node_rows l)) (omega (arith, length-append (rows 0 o.nodes) (node_rows l))),
      drop-append_seam (rows 0 o.nodes) (node_rows l),
    )
    (counts_fit (n + 1) l)

-- a test that each change passes with the rows of its nodes, whatever came before
operations_pass : (p : List Node → Operation → List Node → Bool) (e : List Node) (n : ℕ) (l : List Change)
    → Each (λ o. (e : List Node) → p e (record { target = o.target; code = o.code; count = length (rows 0 o.nodes); name = o.name; value = o.value }) (rows 0 o.nodes)
    ≡ false) l
    → first_operation p e n (operation_rows l) (node_rows l) ≡ None
operations_pass p e n [] h = refl
operations_pass p e n (o ∷ l) h =
    rw (
      take-append_seam (rows 0 o.nodes) (node_rows l),
      drop-append_seam (rows 0 o.nodes) (node_rows l),
      h.0 e,
    ) (operations_pass p (rows 0 o.nodes ++ e) (n + 1) l h.1)

-- formed rows
formed-++ : (xs ys : List Node) → all_formed xs ≡ true → all_formed ys ≡ true → all_formed (xs ++ ys) ≡ true
formed-++ [] ys h k = k
formed-++ (x ∷ xs) ys h k = let u = and_parts (formed_node x) (all_formed xs) h in and_from (formed_node x) (all_formed (xs ++ ys)) u.0 (formed-++ xs ys u.1 k)

formed_attributes : (p : ℕ) (l : List Label) → Attributes l → all_formed (attribute_rows p l) ≡ true
formed_attributes p [] h = refl
formed_attributes p (r ∷ l) h = and_from (formed_node (row p r)) (all_formed (attribute_rows p l)) h.1 (formed_attributes p l h.2)

formed_rows : (p : ℕ) (f : Forest) → Sound f → all_formed (rows p f) ≡ true
formed_rows p nil s = refl
formed_rows p (node r as' k f) s =
    and_from (formed_node (row p r)) (all_formed (attribute_rows r.id as' ++ (rows r.id k ++ rows p f))) s.0
    (formed-++ (attribute_rows r.id as') _ (formed_attributes r.id as' s.2.0) (formed-++ (rows r.id k) (rows p f) (formed_rows r.id k s.3) (formed_rows p f s.4)))

formed_roots : (f : Forest) → SoundRoots f → all_formed (rows 0 f) ≡ true
formed_roots nil s = refl
formed_roots (node r as' k f) s =
    and_from (formed_node (row 0 r)) (all_formed (attribute_rows r.id as' ++ (rows r.id k ++ rows 0 f))) s.0
    (formed-++ (attribute_rows r.id as') _ (formed_attributes r.id as' s.2.0) (formed-++ (rows r.id k) (rows 0 f) (formed_rows r.id k s.3) (formed_roots f s.4)))

none_misformed : (l : List Change) → SoundChanges l
    → Each (λ o. (e : List Node)
    → misformed e (record { target = o.target; code = o.code; count = length (rows 0 o.nodes); name = o.name; value = o.value }) (rows 0 o.nodes) ≡ false) l
none_misformed [] h = tt
none_misformed (o ∷ l) h = ((λ e. rw (h.0, formed_roots o.nodes h.1)), none_misformed l h.2)

all_row_of_trees : (l : List Change) → Apart l
    → Each (λ o. (e : List Node)
    → no_row_of_trees e (record { target = o.target; code = o.code; count = length (rows 0 o.nodes); name = o.name; value = o.value }) (rows 0 o.nodes) ≡ false) l
all_row_of_trees [] h = tt
all_row_of_trees (o ∷ l) h = let u = trees_back o.nodes h.0 h.1 in ((λ e. rw (u.0, u.2)), all_row_of_trees l h.2)

-- identifiers
ids_count : (t p : ℕ) (f : Forest) → count_ids t (rows p f) ≡ count t f
ids_count t p f = same (rows p f) ∙ count_of_rows t p f
  where
    same : (xs : List Node) → count_ids t xs ≡ count_rows t xs
    same [] = refl
    same (x ∷ xs) = omega (arith, same xs)

untaken : (d : Forest) (e xs : List Node) → ((t : ℕ) → count t d + (count_ids t e + count_ids t xs) ≤ 1) → taken_identifier d e xs ≡ false
untaken d e [] h = refl
untaken d e (x ∷ xs) h =
    or_from (ltb 0 (count x.id d + count_ids x.id e)) (taken_identifier d (x ∷ e) xs)
    (le-ltb 0 (count x.id d + count_ids x.id e) (omega (arith, h x.id, one_refl x.id))) (untaken d (x ∷ e) xs (λ t. omega (arith, h t)))

none_taken : (d : Forest) (e : List Node) (n : ℕ) (l : List Change) → ((t : ℕ) → count t d + (count_ids t e + count_nodes t l) ≤ 1)
    → first_operation (identifier_taken d) e n (operation_rows l) (node_rows l) ≡ None
none_taken d e n [] h = refl
none_taken d e n (o ∷ l) h =
    rw (
      take-append_seam (rows 0 o.nodes) (node_rows l),
      drop-append_seam (rows 0 o.nodes) (node_rows l),
      untaken d e (rows 0 o.nodes) (λ t. omega (arith, h t, ids_count t 0 o.nodes)),
    )
    (none_taken d (rows 0 o.nodes ++ e) (n + 1) l (λ t. omega (arith, h t, ids_count t 0 o.nodes, count_ids-++ t (rows 0 o.nodes) e)))

module _ (room : ℕ) (d : Forest) (l : List Change) (s : Suits room d l) where
  apart : Apart l
  apart = apart_sound l s.sound (λ t. omega (arith, s.distinct t))

  pub tables_give_changes : changes_of (operation_rows l) (node_rows l) ≡ l
  tables_give_changes = changes_come_back l apart

  pub tables_pass : list_test room d (operation_rows l) (node_rows l) ≡ None
  unfolding list_test
  tables_pass =
      rw (
        counts_fit 0 l,
        operations_pass misformed [] 0 l (none_misformed l s.sound),
        none_taken d [] 0 l (λ t. omega (arith, s.distinct t)),
        operations_pass no_row_of_trees [] 0 l (all_row_of_trees l apart),
        tables_give_changes,
      )
      s.passes

-- FROM TABLES TO CHANGES AND BACK
-- the counts part the nodes among the operations
abbrev Parted : List Operation → List Node → Type 0
Parted [] xs = xs ≡ []
Parted (o ∷ l) xs = (o.count ≤ length xs) × Parted l (drop o.count xs)

parted : (n : ℕ) (ops : List Operation) (xs : List Node) → miscounted_from n ops xs ≡ None → Parted ops xs
parted n [] [] h = refl
parted n [] (x ∷ xs) h = absurd (some_none n h)
parted n (o ∷ l) xs h =
    let u = passed (leb o.count (length xs)) (miscounted_from (n + 1) l (drop o.count xs)) n h in
    (leb-true o.count (length xs) u.0, parted (n + 1) l (drop o.count xs) u.1)

-- what each operation passes
abbrev EachPasses : (Operation → List Node → Bool) → List Operation → List Node → Type 0
EachPasses q [] xs = Unit {0}
EachPasses q (o ∷ l) xs = (q o (take o.count xs) ≡ true) × EachPasses q l (drop o.count xs)

each_operation : (q : Operation → List Node → Bool) (e : List Node) (n : ℕ) (ops : List Operation) (xs : List Node) → first_operation (λ e o ys. not (q o ys)) e n ops xs ≡ None
    → EachPasses q ops xs
each_operation q e n [] xs h = tt
each_operation q e n (o ∷ l) xs h =
    let u = passed_not (not (q o (take o.count xs))) (first_operation (λ e o ys. not (q o ys)) (take o.count xs ++ e) (n + 1) l (drop o.count xs)) n h in
    (not-false (q o (take o.count xs)) u.0, each_operation q (take o.count xs ++ e) (n + 1) l (drop o.count xs) u.1)

fresh_ids : (d : Forest) (e xs : List Node) → taken_identifier d e xs ≡ false → ((t : ℕ) → count t d + count_ids t e ≤ 1) → (t : ℕ)
    → count t d + (count_ids t e + count_ids t xs) ≤ 1
fresh_ids d e [] h c t = omega (arith, c t)
fresh_ids d e (x ∷ xs) h c t =
    let u = or_parts (ltb 0 (count x.id d + count_ids x.id e)) (taken_identifier d (x ∷ e) xs) h in
    omega (arith, fresh_ids d (x ∷ e) xs u.1 (λ s. more s (eqb x.id s) refl (ltb-false 0 (count x.id d + count_ids x.id e) u.0)) t)
  where
    more : (s : ℕ) (b : Bool) → eqb x.id s ≡ b → count x.id d + count_ids x.id e ≤ 0 → count s d + count_ids s (x ∷ e) ≤ 1
    more s true q z = let i = eqb-true x.id s q in let w : count s d + count_ids s e ≤ 0 = rw i at z in rw q (omega arith)
    more s false q z = rw q (omega (arith, c s))

all_fresh : (d : Forest) (e : List Node) (n : ℕ) (ops : List Operation) (xs : List Node) → first_operation (identifier_taken d) e n ops xs ≡ None → Parted ops xs
    → ((t : ℕ) → count t d + count_ids t e ≤ 1) → (t : ℕ) → count t d + (count_ids t e + count_ids t xs) ≤ 1
all_fresh d e n [] xs h p c t = rw p (omega (arith, c t))
all_fresh d e n (o ∷ l) xs h p c t =
    let own = take o.count xs in
    let u = passed_not (taken_identifier d e own) (first_operation (identifier_taken d) (own ++ e) (n + 1) l (drop o.count xs)) n h in
    omega (
      arith,
      ap (count_ids t) (take-append-drop o.count xs),
      count_ids-++ t own (drop o.count xs),
      count_ids-++ t own e,
      all_fresh d (own ++ e) (n + 1) l (drop o.count xs) u.1 p.1 (λ s. omega (arith, count_ids-++ s own e, fresh_ids d e own u.0 c s)) t,
    )

abbrev own_formed : Operation → List Node → Bool
own_formed o xs = formed_operation o && all_formed xs

abbrev own_trees : Operation → List Node → Bool
own_trees o xs = eqb (length (parts xs).0) 0 && parts_are_trees (parts xs).1

tables_forth : (ops : List Operation) (xs : List Node) → Parted ops xs → EachPasses own_formed ops xs → EachPasses own_trees ops xs → ((t : ℕ) → count_ids t xs ≤ 1)
    → SoundChanges (changes_of ops xs) × (operation_rows (changes_of ops xs) ≡ ops) × (node_rows (changes_of ops xs) ≡ xs)
tables_forth [] xs p f w c = (tt, refl, sym p)
tables_forth (o ∷ l) xs p f w c = go (tables_forth l (drop o.count xs) p.1 f.1 w.1 (λ t. omega (arith, c t, part t)))
  where
    own : List Node
    own = take o.count xs

    a : (formed_operation o ≡ true) × (all_formed own ≡ true)
    a = and_parts (formed_operation o) (all_formed own) f.0

    part : (t : ℕ) → count_ids t xs ≡ count_ids t own + count_ids t (drop o.count xs)
    part t = omega (arith, ap (count_ids t) (take-append-drop o.count xs), count_ids-++ t own (drop o.count xs))

    b : SoundRoots (trees_of own) × (rows 0 (trees_of own) ≡ own)
    b = trees_forth own a.1 (λ t. omega (arith, c t, part t)) w.0

    same : ◌≡◌ {A = Operation} (record { target = o.target; code = o.code; count = length (rows 0 (trees_of own)); name = o.name; value = o.value }) o
    same = ap (λ (n : ℕ). record { target = o.target; code = o.code; count = n; name = o.name; value = o.value }) (ap length b.1 ∙ length-take-le o.count xs p.0)

    go : SoundChanges (changes_of l (drop o.count xs)) × (operation_rows (changes_of l (drop o.count xs)) ≡ l)
        × (node_rows (changes_of l (drop o.count xs)) ≡ drop o.count xs)
        → SoundChanges (changes_of (o ∷ l) xs) × (operation_rows (changes_of (o ∷ l) xs) ≡ o ∷ l) × (node_rows (changes_of (o ∷ l) xs) ≡ xs)
    go later = (
      (a.0, b.0, later.0),
      ap₂ (λ (x : Operation) (y : List Operation). x ∷ y) same later.1,
      ap₂ (λ (y z : List Node). y ++ z) b.1 later.2 ∙ take-append-drop o.count xs,
    )

count_node_rows : (t : ℕ) (l : List Change) → count_nodes t l ≡ count_ids t (node_rows l)
count_node_rows t [] = refl
count_node_rows t (o ∷ l) = omega (arith, count_ids-++ t (rows 0 o.nodes) (node_rows l), ids_count t 0 o.nodes, count_node_rows t l)

-- tables that pass the tests
module _ (room : ℕ) (d : Forest) (ops : List Operation) (xs : List Node) (single : (t : ℕ) → count t d ≤ 1) where
  told_tests : list_test room d ops xs ≡ None
      → (miscounted_from 0 ops xs ≡ None) × (first_operation misformed [] 0 ops xs ≡ None) × (first_operation (identifier_taken d) [] 0 ops xs ≡ None)
      × (first_operation no_row_of_trees [] 0 ops xs ≡ None) × (change_test room d (changes_of ops xs) ≡ None)
  unfolding list_test
  told_tests h =
      let a = refused_none Structure (miscounted_from 0 ops xs) _ h in
      let b = refused_none Misformed (first_operation misformed [] 0 ops xs) _ a.1 in
      let c = refused_none IdentifierTaken (first_operation (identifier_taken d) [] 0 ops xs) _ b.1 in
      let e = refused_none NoTrees (first_operation no_row_of_trees [] 0 ops xs) _ c.1 in
      (a.0, b.0, c.0, e.0, e.1)

  module _ (h : list_test room d ops xs ≡ None) where
    ids : (t : ℕ) → count t d + (0 + count_ids t xs) ≤ 1
    ids t = let u = told_tests h in all_fresh d [] 0 ops xs u.2 (parted 0 ops xs u.0) (λ s. omega (arith, single s)) t

    whole : SoundChanges (changes_of ops xs) × (operation_rows (changes_of ops xs) ≡ ops) × (node_rows (changes_of ops xs) ≡ xs)
    whole =
        let u = told_tests h in
        tables_forth ops xs (parted 0 ops xs u.0) (each_operation own_formed [] 0 ops xs u.1) (each_operation own_trees [] 0 ops xs u.3) (λ t. omega (arith, ids t))

    pub changes_give_tables : (operation_rows (changes_of ops xs) ≡ ops) × (node_rows (changes_of ops xs) ≡ xs)
    changes_give_tables = (whole.1, whole.2)

    pub passing_suits : Suits room d (changes_of ops xs)
    passing_suits = record {
      sound = whole.0;
      distinct = λ t. omega (arith, ids t, count_node_rows t (changes_of ops xs), ap (count_ids t) whole.2);
      passes = (told_tests h).4;
    }
