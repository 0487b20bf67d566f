-- The listing of a well-formed document gives that document back.
use Rattle.std.proofs.Common.{◌≡◌, ℕ, ◌≤◌, Bool, true, false, eqb, ltb, List, [], ◌∷◌, ◌++◌, sym, refl, ap, ◌∙◌, append_assoc, append-nil, arith}
use Rattle.std.proofs.lemmas.Bool.{eq-eqb, eqb-true, and_parts}
use Rattle.records.specs.Formed.{fields_suit_kind}
use Rattle.records.specs.declared.nodes.Kind.{Kind}
use Rattle.records.specs.declared.nodes.Kind.TheVariants.{Element, Attribute, Text}
use Rattle.records.specs.declared.nodes.Node.{Node}
use Rattle.document.specs.Tree.{Label, Forest, nil, node, one, count, count_labels, Formed, Attributes, Holds, Sound, WellFormed}
use Rattle.document.specs.Listing.{attribute_rows, rows, listing}
use Rattle.document.specs.Table.{is_attribute, Group, attributes_for, children_for, without, with_attribute, with_tree, groups, document_of}
use Rattle.document.proofs.Counting.{one_zero, one_refl, above_uncounted}

-- an identifier is above 0
pub formed_above : (r : Label) → Formed r → ltb 0 r.id ≡ true
formed_above r h = (and_parts (ltb 0 r.id) (fields_suit_kind r.kind r.name r.value) h).0

attributes_nonzero : (l : List Label) → Attributes l → count_labels 0 l ≡ 0
attributes_nonzero [] h = refl
attributes_nonzero (r ∷ l) h = omega (arith, above_uncounted r.id (formed_above r h.1), attributes_nonzero l h.2)

pub sound_nonzero : (f : Forest) → Sound f → count 0 f ≡ 0
sound_nonzero nil h = refl
sound_nonzero (node r as' k f) h =
    omega (arith, above_uncounted r.id (formed_above r h.0), attributes_nonzero as' h.2.0, sound_nonzero k h.3, sound_nonzero f h.4)

-- a node of a row of trees is no attribute
pub holder_no_attribute : (c : Kind) (as' : List Label) (k : Forest) → Holds c as' k → is_attribute c ≡ false
holder_no_attribute Element as' k h = refl
holder_no_attribute Attribute as' k h = absurd h
holder_no_attribute Text as' k h = refl

-- what is gathered once a row of trees below p, or the attributes of p, have been read
graft : ℕ → Forest → List Group → List Group
graft p nil gs = gs
graft p (node r as' k f) gs = with_tree p r as' k (graft p f gs)

graft_attributes : ℕ → List Label → List Group → List Group
graft_attributes p [] gs = gs
graft_attributes p (r ∷ l) gs = with_attribute p r (graft_attributes p l gs)

-- nothing on top is gathered for t
abbrev pub Clear : ℕ → List Group → Type 0
Clear t [] = Unit {0}
Clear t (g ∷ gs) = eqb g.parent t ≡ false

pub clear_attributes : (t : ℕ) (gs : List Group) → Clear t gs → attributes_for t gs ≡ []
clear_attributes t [] c = refl
clear_attributes t (g ∷ gs) c = rw c

pub clear_children : (t : ℕ) (gs : List Group) → Clear t gs → children_for t gs ≡ nil
clear_children t [] c = refl
clear_children t (g ∷ gs) c = rw c

pub clear_without : (t : ℕ) (gs : List Group) → Clear t gs → without t gs ≡ gs
clear_without t [] c = refl
clear_without t (g ∷ gs) c = rw c

clear_graft : (t p : ℕ) (f : Forest) (gs : List Group) → eqb p t ≡ false → Clear t gs → Clear t (graft p f gs)
unfolding graft
clear_graft t p nil gs e c = c
clear_graft t p (node r as' k f) gs e c = e

-- what a graft below t gives back
graft_takes_no_attribute : (t : ℕ) (k : Forest) (gs : List Group) → Clear t gs → attributes_for t (graft t k gs) ≡ []
unfolding graft
graft_takes_no_attribute t nil gs c = clear_attributes t gs c
graft_takes_no_attribute t (node r as' k f) gs c = rw (eq-eqb t t refl) (graft_takes_no_attribute t f gs c)

graft_children : (t : ℕ) (k : Forest) (gs : List Group) → Clear t gs → children_for t (graft t k gs) ≡ k
unfolding graft
graft_children t nil gs c = clear_children t gs c
graft_children t (node r as' k f) gs c = rw (eq-eqb t t refl, graft_children t f gs c)

graft_without : (t : ℕ) (k : Forest) (gs : List Group) → Clear t gs → without t (graft t k gs) ≡ gs
unfolding graft
graft_without t nil gs c = clear_without t gs c
graft_without t (node r as' k f) gs c = rw (eq-eqb t t refl) (graft_without t f gs c)

attributes_back : (t : ℕ) (l : List Label) (gs : List Group) → attributes_for t gs ≡ [] → attributes_for t (graft_attributes t l gs) ≡ l
unfolding graft_attributes
attributes_back t [] gs c = c
attributes_back t (r ∷ l) gs c = rw (eq-eqb t t refl, attributes_back t l gs c)

attributes_keep_children : (t : ℕ) (l : List Label) (gs : List Group) → children_for t (graft_attributes t l gs) ≡ children_for t gs
unfolding graft_attributes
attributes_keep_children t [] gs = refl
attributes_keep_children t (r ∷ l) gs = rw (eq-eqb t t refl) (attributes_keep_children t l gs)

attributes_without : (t : ℕ) (l : List Label) (gs : List Group) → without t (graft_attributes t l gs) ≡ without t gs
unfolding graft_attributes
attributes_without t [] gs = refl
attributes_without t (r ∷ l) gs = rw (eq-eqb t t refl) (attributes_without t l gs)

-- reading the rows of attributes, and of a row of trees
groups_attributes : (p : ℕ) (l : List Label) (rest : List Node) → ltb 0 p ≡ true → Attributes l
    → groups (attribute_rows p l ++ rest) ≡ graft_attributes p l (groups rest)
unfolding graft_attributes
groups_attributes p [] rest q h = refl
groups_attributes p (r ∷ l) rest q h = rw (h.0, q, groups_attributes p l rest q h.2)

groups_rows : (p : ℕ) (f : Forest) (rest : List Node) → Sound f → ((t : ℕ) → count t f ≤ 1) → ((t : ℕ) → 1 ≤ count t f → eqb p t ≡ false)
    → ((t : ℕ) → 1 ≤ count t f → Clear t (groups rest)) → groups (rows p f ++ rest) ≡ graft p f (groups rest)
unfolding graft
groups_rows p nil rest h d a c = refl
groups_rows p (node r as' k f) rest h d a c =
    go (groups_rows p f rest h.4 (λ t. omega (arith, d t)) (λ t q. a t (omega arith)) (λ t q. c t (omega arith)))
    (λ e. groups_rows r.id k (rows p f ++ rest) h.3 (λ t. omega (arith, d t)) (λ t q. one_zero (eqb r.id t) (omega (arith, d t)))
    (λ t q. rw e (clear_graft t p f (groups rest) (a t (omega arith)) (c t (omega arith)))))
  where
    u : one (eqb r.id r.id) ≡ 1
    u = one_refl r.id

    clear : Clear r.id (graft p f (groups rest))
    clear = clear_graft r.id p f (groups rest) (a r.id (omega (arith, u))) (c r.id (omega (arith, u)))

    go : groups (rows p f ++ rest) ≡ graft p f (groups rest)
        → (groups (rows p f ++ rest) ≡ graft p f (groups rest) → groups (rows r.id k ++ (rows p f ++ rest)) ≡ graft r.id k (groups (rows p f ++ rest)))
        → groups (rows p (node r as' k f) ++ rest) ≡ with_tree p r as' k (graft p f (groups rest))
    go ef ek =
        rw (
          append_assoc (attribute_rows r.id as') (rows r.id k ++ rows p f) rest,
          append_assoc (rows r.id k) (rows p f) rest,
          groups_attributes r.id as' (rows r.id k ++ (rows p f ++ rest)) (formed_above r h.0) h.2.0,
          ek ef,
          ef,
          holder_no_attribute r.kind as' k h.1,
          attributes_back r.id as' (graft r.id k (graft p f (groups rest))) (graft_takes_no_attribute r.id k (graft p f (groups rest)) clear),
          attributes_keep_children r.id as' (graft r.id k (graft p f (groups rest))),
          graft_children r.id k (graft p f (groups rest)) clear,
          attributes_without r.id as' (graft r.id k (graft p f (groups rest))),
          graft_without r.id k (graft p f (groups rest)) clear,
        )

pub listing_gives_document : (d : Forest) → WellFormed d → document_of (listing d) ≡ d
unfolding listing document_of
listing_gives_document d w =
    ap (λ x. children_for 0 (groups x)) (sym (append-nil (rows 0 d)))
    ∙ ap (children_for 0) (groups_rows 0 d [] w.sound w.distinct far (λ t q. tt)) ∙ graft_children 0 d [] tt
  where
    far : (t : ℕ) → 1 ≤ count t d → eqb 0 t ≡ false
    far t q = go (eqb 0 t) refl
      where
        go : (b : Bool) → eqb 0 t ≡ b → eqb 0 t ≡ false
        go false e = e
        go true e = let w' : 1 ≤ count 0 d = rw (eqb-true 0 t e) q in absurd (omega (arith, sound_nonzero d w.sound))
