-- The nodes of one change as rows of a table, and the trees of such rows.
use Rattle.std.proofs.Common.{◌≡◌, ℕ, ◌+◌, ◌≤◌, Bool, true, false, cond, not, ◌&&◌, eqb, ltb, List, [], ◌∷◌, ◌++◌, length, Some, None, Ok, Option, sym, refl, ap, ◌∙◌, subst, ap₂, true≢false, append_assoc, append-nil, arith}
use Rattle.std.proofs.lemmas.Bool.{eqb-true, and_parts, le-ltb, and_from}
use Rattle.std.proofs.lemmas.List.{nil_from_length}
use Rattle.records.specs.Formed.{formed_node}
use Rattle.records.specs.declared.nodes.Kind.{Kind}
use Rattle.records.specs.declared.nodes.Kind.TheVariants.{Element, Attribute, Text}
use Rattle.records.specs.declared.nodes.Node.{Node}
use Rattle.document.specs.Tree.{one, count, Label, Forest, Sound, nil, node, WellFormed}
use Rattle.document.specs.Listing.{label, attribute_rows, rows, row, listing}
use Rattle.document.specs.Table.{document_of, children_for, groups, out_of_order, repeat_from, name_key, misformed_from, identifier_key, table_test}
use Rattle.document.proofs.Counting.{one_zero, above_uncounted}
use Rattle.document.proofs.Gathering.{formed_above, listing_gives_document}
use Rattle.document.proofs.Passing.{passing_lists_document}
use Rattle.document.proofs.Scanned.{listing_scans}
use Rattle.document.proofs.Repeats.{no_repeat}
use Rattle.document.proofs.Counting.{count_key}
use Rattle.document.proofs.Passes.{listing_names_once}
use Rattle.changes.specs.Changes.{is_some, ◌⊕◌}
use Rattle.changes.specs.Tests.{SoundRoots, is_element, RootHolds}
use Rattle.changes.specs.Tables.{all_formed, parts, part_is_tree, part_in_order, trees_of, parts_are_trees, count_ids, trees_of_parts}
use Rattle.changes.proofs.Suiting.{roots_sound}

-- FROM TREES TO ROWS: inside a tree no row has parent 0
abbrev Inner : List Node → Type 0
Inner [] = Unit {0}
Inner (x ∷ xs) = (eqb x.parent 0 ≡ false) × Inner xs

inner-++ : (xs ys : List Node) → Inner xs → Inner ys → Inner (xs ++ ys)
inner-++ [] ys h k = k
inner-++ (x ∷ xs) ys h k = (h.0, inner-++ xs ys h.1 k)

above_not_zero : (t : ℕ) → ltb 0 t ≡ true → eqb t 0 ≡ false
above_not_zero t h = one_zero (eqb t 0) (above_uncounted t h)

inner_attributes : (p : ℕ) (l : List Label) → eqb p 0 ≡ false → Inner (attribute_rows p l)
inner_attributes p [] e = tt
inner_attributes p (r ∷ l) e = (e, inner_attributes p l e)

inner_rows : (p : ℕ) (f : Forest) → eqb p 0 ≡ false → Sound f → Inner (rows p f)
inner_rows p nil e s = tt
inner_rows p (node r as' k f) e s =
    let u = above_not_zero r.id (formed_above r s.0) in
    (e, inner-++ (attribute_rows r.id as') _ (inner_attributes r.id as' u) (inner-++ (rows r.id k) (rows p f) (inner_rows r.id k u s.3) (inner_rows p f e s.4)))

parts_inner : (xs ys : List Node) → Inner xs → parts (xs ++ ys) ≡ (xs ++ (parts ys).0, (parts ys).1)
parts_inner [] ys h = refl
parts_inner (x ∷ xs) ys h = rw (h.0, parts_inner xs ys h.1)

-- a tree that is a document, or one attribute or text
tree_well_formed : (r : Label) (as' : List Label) (k f : Forest) → r.kind ≡ Element → SoundRoots (node r as' k f) → ((t : ℕ) → count t (node r as' k f) ≤ 1)
    → WellFormed (node r as' k nil)
tree_well_formed r as' k f e s c = record { root = e; sound = (s.0, rw e tt, s.2, s.3, tt); distinct = λ t. omega (arith, c t) }

tree_rows : (r : Label) (as' : List Label) (k : Forest) → listing (node r as' k nil) ≡ row 0 r ∷ (attribute_rows r.id as' ++ rows r.id k)
unfolding listing
tree_rows r as' k = rw (append-nil (rows r.id k))

one_row : (r : Label) → is_element r.kind ≡ false → document_of (row 0 r ∷ []) ≡ node r [] nil nil
unfolding document_of
one_row r e = go r.kind refl
  where
    go : (κ : Kind) → r.kind ≡ κ → children_for 0 (groups (row 0 r ∷ [])) ≡ node r [] nil nil
    go Element q = absurd (true≢false (rw q at e))
    go Attribute q = rw q (rw (sym q))
    go Text q = rw q (rw (sym q))

-- the part of a table that one tree takes
abbrev part_of : Label → List Label → Forest → List Node
part_of r as' k = row 0 r ∷ (attribute_rows r.id as' ++ rows r.id k)

part_back : (r : Label) (as' : List Label) (k f : Forest) → SoundRoots (node r as' k f) → ((t : ℕ) → count t (node r as' k f) ≤ 1)
    → (document_of (part_of r as' k) ≡ node r as' k nil) × (part_is_tree (part_of r as' k) ≡ true)
part_back r as' k f s c = go r.kind refl s.1
  where
    go : (κ : Kind) → r.kind ≡ κ → RootHolds κ as' k → (document_of (part_of r as' k) ≡ node r as' k nil)
        × (part_in_order r.kind (part_of r as' k) (attribute_rows r.id as' ++ rows r.id k) ≡ true)
    go Element e h =
        let w = tree_well_formed r as' k f e s c in
        let q = tree_rows r as' k in
        let order : out_of_order (part_of r as' k) ≡ None = rw q at (listing_scans (node r as' k nil) w).0 in
        let names : repeat_from name_key [] 0 (part_of r as' k) ≡ None = rw q at (listing_names_once (node r as' k nil) w) in
        (rw q at (listing_gives_document (node r as' k nil) w), in_order order names)
      where
        in_order : out_of_order (part_of r as' k) ≡ None → repeat_from name_key [] 0 (part_of r as' k) ≡ None
            → part_in_order r.kind (part_of r as' k) (attribute_rows r.id as' ++ rows r.id k) ≡ true
        in_order a b = ap (λ κ. part_in_order κ (part_of r as' k) (attribute_rows r.id as' ++ rows r.id k)) e
            ∙ ap₂ (λ (x y : Option ℕ). not (is_some x) && not (is_some y)) a b
    go Attribute e h = let z : is_element r.kind ≡ false = rw e in rw (h.0, h.1) (one_row r z, rw e)
    go Text e h = let z : is_element r.kind ≡ false = rw e in rw (h.0, h.1) (one_row r z, rw e)

-- the trees come back, and their rows pass the test on trees
pub trees_back : (f : Forest) → SoundRoots f → ((t : ℕ) → count t f ≤ 1)
    → ((parts (rows 0 f)).0 ≡ []) × (trees_of (rows 0 f) ≡ f) × (parts_are_trees (parts (rows 0 f)).1 ≡ true)
trees_back nil s c = (refl, refl, refl)
trees_back (node r as' k f) s c = go (trees_back f s.4 (λ t. omega (arith, c t)))
  where
    below : List Node
    below = attribute_rows r.id as' ++ rows r.id k

    nonzero : eqb r.id 0 ≡ false
    nonzero = above_not_zero r.id (formed_above r s.0)

    split : parts (attribute_rows r.id as' ++ (rows r.id k ++ rows 0 f)) ≡ (below ++ (parts (rows 0 f)).0, (parts (rows 0 f)).1)
    split = ap parts (sym (append_assoc (attribute_rows r.id as') (rows r.id k) (rows 0 f)))
        ∙ parts_inner below (rows 0 f) (inner-++ (attribute_rows r.id as') (rows r.id k) (inner_attributes r.id as' nonzero) (inner_rows r.id k nonzero s.3))

    go : ((parts (rows 0 f)).0 ≡ []) × (trees_of (rows 0 f) ≡ f) × (parts_are_trees (parts (rows 0 f)).1 ≡ true)
        → ((parts (rows 0 (node r as' k f))).0 ≡ []) × (trees_of (rows 0 (node r as' k f)) ≡ node r as' k f) × (parts_are_trees (parts (rows 0 (node r as' k f))).1 ≡ true)
    go h =
        let u = part_back r as' k f s c in
        rw (split, h.0, append-nil below) (refl, rw (u.0, h.1), rw u.1 h.2)

-- FROM ROWS TO TREES
-- the parts hold the whole table, and each begins with a root
abbrev concat : List (List Node) → List Node
concat [] = []
concat (p ∷ ps) = p ++ concat ps

parts_whole : (xs : List Node) → (parts xs).0 ++ concat (parts xs).1 ≡ xs
parts_whole [] = refl
parts_whole (x ∷ xs) = go (eqb x.parent 0) (parts_whole xs)
  where
    go : (b : Bool) → (parts xs).0 ++ concat (parts xs).1 ≡ xs
        → (cond {A = List Node × List (List Node)} b ([], (x ∷ (parts xs).0) ∷ (parts xs).1) (x ∷ (parts xs).0, (parts xs).1)).0
        ++ concat (cond {A = List Node × List (List Node)} b ([], (x ∷ (parts xs).0) ∷ (parts xs).1) (x ∷ (parts xs).0, (parts xs).1)).1 ≡ x ∷ xs
    go true h = ap (λ z. x ∷ z) h
    go false h = ap (λ z. x ∷ z) h

abbrev Rooted : List (List Node) → Type 0
Rooted [] = Unit {0}
Rooted ([] ∷ ps) = ⊥
Rooted ((x ∷ p) ∷ ps) = (x.parent ≡ 0) × Rooted ps

parts_rooted : (xs : List Node) → Rooted (parts xs).1
parts_rooted [] = tt
parts_rooted (x ∷ xs) = go (eqb x.parent 0) refl (parts_rooted xs)
  where
    go : (b : Bool) → eqb x.parent 0 ≡ b → Rooted (parts xs).1
        → Rooted (cond {A = List Node × List (List Node)} b ([], (x ∷ (parts xs).0) ∷ (parts xs).1) (x ∷ (parts xs).0, (parts xs).1)).1
    go true e h = (eqb-true x.parent 0 e, h)
    go false e h = h

pub rows-⊕ : (p : ℕ) (f g : Forest) → rows p (f ⊕ g) ≡ rows p f ++ rows p g
rows-⊕ p nil g = refl
rows-⊕ p (node r as' k f) g =
    ap (λ z. row p r ∷ z)
    (ap (λ z. attribute_rows r.id as' ++ (rows r.id k ++ z)) (rows-⊕ p f g)
    ∙ sym (append_assoc (attribute_rows r.id as') (rows r.id k ++ rows p f) (rows p g)
    ∙ ap (λ z. attribute_rows r.id as' ++ z) (append_assoc (rows r.id k) (rows p f) (rows p g))))

pub sound_roots-⊕ : (f g : Forest) → SoundRoots f → SoundRoots g → SoundRoots (f ⊕ g)
sound_roots-⊕ nil g p q = q
sound_roots-⊕ (node r as' k f) g p q = (p.0, p.1, p.2, p.3, sound_roots-⊕ f g p.4 q)

-- a part that passes is the rows of its tree
formed_none : (n : ℕ) (xs : List Node) → all_formed xs ≡ true → misformed_from n xs ≡ None
formed_none n [] h = refl
formed_none n (x ∷ xs) h = let u = and_parts (formed_node x) (all_formed xs) h in rw u.0 (formed_none (n + 1) xs u.1)

one_and_left : (b c : Bool) → one (b && c) ≤ one b
one_and_left true true = omega arith
one_and_left true false = omega arith
one_and_left false c = omega arith

identifiers_counted : (k : ℕ × ℕ) (xs : List Node) → count_key identifier_key k xs ≤ count_ids k.0 xs
identifiers_counted k [] = omega arith
identifiers_counted k (x ∷ xs) = omega (arith, one_and_left (eqb x.id k.0) (eqb 0 k.1), identifiers_counted k xs)

none_if : (o : Option ℕ) → not (is_some o) ≡ true → o ≡ None
none_if None h = refl
none_if (Some n) h = absurd (true≢false (sym h))

document_part : (p : List Node) → all_formed p ≡ true → ((t : ℕ) → count_ids t p ≤ 1) → out_of_order p ≡ None → repeat_from name_key [] 0 p ≡ None
    → table_test (length p) p ≡ Ok tt
unfolding table_test
document_part p f c o n =
    rw (formed_none 0 p f, no_repeat identifier_key [] 0 p (λ k. omega (arith, identifiers_counted k p, c k.0)), o, n, le-ltb (length p) (length p) (omega arith))

element_part : (p : List Node) → all_formed p ≡ true → ((t : ℕ) → count_ids t p ≤ 1) → (not (is_some (out_of_order p)) && not (is_some (repeat_from name_key [] 0 p))) ≡ true
    → SoundRoots (document_of p) × (rows 0 (document_of p) ≡ p)
unfolding listing
element_part p f c h =
    let u = and_parts (not (is_some (out_of_order p))) (not (is_some (repeat_from name_key [] 0 p))) h in
    let v = passing_lists_document (length p) p (document_part p f c (none_if (out_of_order p) u.0) (none_if (repeat_from name_key [] 0 p) u.1)) in
    ((roots_sound (document_of p) v.0.sound).0, v.2)

lone_part : (x : Node) → x.parent ≡ 0 → is_element x.kind ≡ false → formed_node x ≡ true → SoundRoots (document_of (x ∷ [])) × (rows 0 (document_of (x ∷ [])) ≡ x ∷ [])
lone_part x e q f =
    let z : row 0 (label x) ≡ x = ap (λ (p : ℕ). row p (label x)) (sym e) in
    let d : document_of (x ∷ []) ≡ node (label x) [] nil nil = ap (λ y. document_of (y ∷ [])) (sym z) ∙ one_row (label x) q in
    rw d ((f, holds x.kind q, (tt, tt, λ t. omega arith), tt, tt), ap (λ y. y ∷ []) z)
  where
    holds : (κ : Kind) → is_element κ ≡ false → RootHolds κ [] nil
    holds Element w = tt
    holds Attribute w = (refl, refl)
    holds Text w = (refl, refl)

part_forth : (x : Node) (ys : List Node) → x.parent ≡ 0 → all_formed (x ∷ ys) ≡ true → ((t : ℕ) → count_ids t (x ∷ ys) ≤ 1) → part_in_order x.kind (x ∷ ys) ys ≡ true
    → SoundRoots (document_of (x ∷ ys)) × (rows 0 (document_of (x ∷ ys)) ≡ x ∷ ys)
part_forth x ys e f c h = go x.kind refl
  where
    alone : (κ : Kind) → x.kind ≡ κ → is_element κ ≡ false → eqb (length ys) 0 ≡ true → SoundRoots (document_of (x ∷ ys)) × (rows 0 (document_of (x ∷ ys)) ≡ x ∷ ys)
    alone κ q w b = rw (nil_from_length ys (eqb-true (length ys) 0 b)) (lone_part x e (ap is_element q ∙ w) (and_parts (formed_node x) (all_formed ys) f).0)

    go : (κ : Kind) → x.kind ≡ κ → SoundRoots (document_of (x ∷ ys)) × (rows 0 (document_of (x ∷ ys)) ≡ x ∷ ys)
    go Element q = element_part (x ∷ ys) f c (subst (λ (κ : Kind). part_in_order κ (x ∷ ys) ys ≡ true) q h)
    go Attribute q = alone Attribute q refl (subst (λ (κ : Kind). part_in_order κ (x ∷ ys) ys ≡ true) q h)
    go Text q = alone Text q refl (subst (λ (κ : Kind). part_in_order κ (x ∷ ys) ys ≡ true) q h)

all_formed_parts : (xs ys : List Node) → all_formed (xs ++ ys) ≡ true → (all_formed xs ≡ true) × (all_formed ys ≡ true)
all_formed_parts [] ys h = (refl, h)
all_formed_parts (x ∷ xs) ys h =
    let u = and_parts (formed_node x) (all_formed (xs ++ ys)) h in
    let v = all_formed_parts xs ys u.1 in
    (and_from (formed_node x) (all_formed xs) u.0 v.0, v.1)

pub count_ids-++ : (t : ℕ) (xs ys : List Node) → count_ids t (xs ++ ys) ≡ count_ids t xs + count_ids t ys
count_ids-++ t [] ys = omega arith
count_ids-++ t (x ∷ xs) ys = omega (arith, count_ids-++ t xs ys)

parts_forth : (ps : List (List Node)) → Rooted ps → all_formed (concat ps) ≡ true → ((t : ℕ) → count_ids t (concat ps) ≤ 1) → parts_are_trees ps ≡ true
    → SoundRoots (trees_of_parts ps) × (rows 0 (trees_of_parts ps) ≡ concat ps)
parts_forth [] r f c h = (tt, refl)
parts_forth ([] ∷ ps) r f c h = absurd r
parts_forth ((x ∷ p) ∷ ps) r f c h =
    let u = and_parts (part_is_tree (x ∷ p)) (parts_are_trees ps) h in
    let v = all_formed_parts (x ∷ p) (concat ps) f in
    let a = part_forth x p r.0 v.0 (λ t. omega (arith, c t, count_ids-++ t (x ∷ p) (concat ps))) u.0 in
    let b = parts_forth ps r.1 v.1 (λ t. omega (arith, c t, count_ids-++ t (x ∷ p) (concat ps))) u.1 in (
      sound_roots-⊕ (document_of (x ∷ p)) (trees_of_parts ps) a.0 b.0,
      rows-⊕ 0 (document_of (x ∷ p)) (trees_of_parts ps)
          ∙ ap₂ (λ (y z : List Node). y ++ z) a.1 b.1,
    )

pub trees_forth : (xs : List Node) → all_formed xs ≡ true → ((t : ℕ) → count_ids t xs ≤ 1) → (eqb (length (parts xs).0) 0 && parts_are_trees (parts xs).1) ≡ true
    → SoundRoots (trees_of xs) × (rows 0 (trees_of xs) ≡ xs)
trees_forth xs f c h =
    let u = and_parts (eqb (length (parts xs).0) 0) (parts_are_trees (parts xs).1) h in
    let z = nil_from_length (parts xs).0 (eqb-true (length (parts xs).0) 0 u.0) in
    let w : concat (parts xs).1 ≡ xs = rw z at (parts_whole xs) in
    let v = parts_forth (parts xs).1 (parts_rooted xs) (rw w f) (λ t. rw w (c t)) u.1 in
    (v.0, v.1 ∙ w)
