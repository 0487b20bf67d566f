-- The rows of a listing, put in one after another, are the puts that build the document.
use Rattle.std.proofs.Common.{◌≡◌, ℕ, ◌≤◌, Bool, true, false, cond, eqb, List, [], ◌∷◌, ◌++◌, Ok, sym, refl, ap, ◌∙◌, subst, ap₂, append_assoc, append-nil, arith}
use Rattle.std.proofs.lemmas.Bool.{eq-eqb, eqb-true, eqb-false}
use Rattle.records.specs.declared.nodes.Node.{Node}
use Rattle.document.specs.Tree.{Label, Forest, nil, node, count, size, Attributes}
use Rattle.document.specs.Listing.{row, attribute_rows, rows, listing}
use Rattle.document.specs.Table.{is_attribute, document_of}
use Rattle.document.proofs.Counting.{one_zero}
use Rattle.document.proofs.Gathering.{holder_no_attribute}
use Rattle.document.proofs.Passing.{passing_lists_document}
use Rattle.store.specs.Kept.{Shaped, Kept}
use Rattle.store.specs.Listed.{child_row, last_from}
use Rattle.store.specs.Says.{Answer, after}
use Rattle.store.specs.Writes.{put_in}
use Rattle.store.proofs.Formed.{well_formed_is_kept}
use Rattle.store.proofs.Neighbours.{Free, last_skip, child_below, free_rows, labels_no_children}
use Rattle.store.proofs.Shapes.{no_zero}
use Rattle.store.proofs.Telling.{one_here}
use Rattle.carry.specs.Planting.{placed, left_for, and_then, leads_on, plant_says, plant_leaves}
use Rattle.carry.specs.Statements.{LoadingLeadsToTheDocument}
use Rattle.carry.proofs.Contexts.{top}
use Rattle.carry.proofs.Growing.{attribute_steps, steps, Leads, planted}

-- the puts that planting rows as a document makes, behind the rows before
abbrev puts : List Node → List Node → List (Node × ℕ)
puts before [] = []
puts before (x ∷ xs) = (placed 0 x, left_for 0 before x) ∷ puts (before ++ (x ∷ [])) xs

-- planting makes these puts
carried : (room : ℕ) (before xs : List Node) (d e : Forest) → Leads room (puts before xs) d e → (plant_says room 0 0 before xs d ≡ Ok tt) × (plant_leaves room 0 0 before xs d ≡ e)
carried room before [] d e h = (refl, h)
carried room before (x ∷ xs) d e h =
    let n : Node = placed 0 x in
    let l : ℕ = left_for 0 before x in
    let b : List Node = before ++ (x ∷ []) in
    subst (λ (a : Answer). (and_then a (plant_says room 0 0 b xs (after a (put_in d n l) d)) ≡ Ok tt) × (leads_on a (plant_leaves room 0 0 b xs (after a (put_in d n l) d)) d ≡ e))
    (sym h.0) (carried room b xs (put_in d n l) e h.1)

-- at the top a row stands where it says, behind the last child of its parent
same_either : (b : Bool) (n : ℕ) → cond b n n ≡ n
same_either true n = refl
same_either false n = refl

stays : (p : ℕ) → cond (eqb p 0) 0 p ≡ p
stays p = go (eqb p 0) refl
  where
    go : (b : Bool) → eqb p 0 ≡ b → cond b 0 p ≡ p
    go true e = sym (eqb-true p 0 e)
    go false e = refl

attribute_put : (p : ℕ) (r : Label) (b : List Node) → is_attribute r.kind ≡ true → ◌≡◌ {A = Node × ℕ} (placed 0 (row p r), left_for 0 b (row p r)) (row p r, 0)
attribute_put p r b k = rw (stays p, k) refl

child_put : (p : ℕ) (r : Label) (b : List Node) → is_attribute r.kind ≡ false → ◌≡◌ {A = Node × ℕ} (placed 0 (row p r), left_for 0 b (row p r)) (row p r, last_from (child_row p) 0 b)
child_put p r b k = rw (stays p, k, same_either (eqb p 0) 0) refl

attribute_puts : (p : ℕ) (as' : List Label) (b rest : List Node) → Attributes as' → puts b (attribute_rows p as' ++ rest) ≡ attribute_steps p as' ++ puts (b ++ attribute_rows p as') rest
attribute_puts p [] b rest a = ap (λ (c : List Node). puts c rest) (sym (append-nil b))
attribute_puts p (r ∷ l) b rest a =
    ap₂ (λ (s : Node × ℕ) (ss : List (Node × ℕ)). s ∷ ss) (attribute_put p r b (ap is_attribute a.0))
    (attribute_puts p l (b ++ (row p r ∷ [])) rest a.2 ∙ ap (λ (c : List Node). attribute_steps p l ++ puts c rest) (append_assoc b (row p r ∷ []) (attribute_rows p l)))

-- the last child of a node among rows
abbrev last_child : ℕ → List Node → ℕ
last_child t b = last_from (child_row t) 0 b

last_joined : (q : Node → Bool) (m : ℕ) (xs ys : List Node) → last_from q m (xs ++ ys) ≡ last_from q (last_from q m xs) ys
last_joined q m [] ys = refl
last_joined q m (x ∷ xs) ys = last_joined q (cond (q x) x.id m) xs ys

last_free : (t : ℕ) (b xs : List Node) → Free (child_row t) xs → last_child t (b ++ xs) ≡ last_child t b
last_free t b xs h =
    last_joined (child_row t) 0 b xs
    ∙ ap (last_from (child_row t) (last_child t b)) (sym (append-nil xs)) ∙ last_skip (child_row t) (last_child t b) xs [] h

last_here : (p : ℕ) (r : Label) (b : List Node) → is_attribute r.kind ≡ false → last_child p (b ++ (row p r ∷ [])) ≡ r.id
last_here p r b k = last_joined (child_row p) 0 b (row p r ∷ []) ∙ rw (eq-eqb p p refl, k) refl

-- the rows down to a node, its attributes, and all below it
abbrev with_row : ℕ → Label → List Node → List Node
with_row q r b = b ++ (row q r ∷ [])

abbrev with_attributes : ℕ → Label → List Label → List Node → List Node
with_attributes q r as' b = with_row q r b ++ attribute_rows r.id as'

abbrev with_tree : ℕ → Label → List Label → Forest → List Node → List Node
with_tree q r as' k b = with_attributes q r as' b ++ rows r.id k

whole : (q : ℕ) (r : Label) (as' : List Label) (k f : Forest) (b : List Node) → with_tree q r as' k b ++ rows q f ≡ b ++ rows q (node r as' k f)
whole q r as' k f b =
    append_assoc (with_attributes q r as' b) (rows r.id k) (rows q f)
    ∙ append_assoc (with_row q r b) (attribute_rows r.id as') (rows r.id k ++ rows q f)
    ∙ append_assoc b (row q r ∷ []) (attribute_rows r.id as' ++ (rows r.id k ++ rows q f))

module _ (q : ℕ) (r : Label) (as' : List Label) (k : Forest) (b : List Node) (a : Attributes as') where
  -- the last child of another node is where it was
  last_past_attributes : (t : ℕ) → (q ≡ t → ⊥) → last_child t (with_attributes q r as' b) ≡ last_child t b
  last_past_attributes t ne =
      last_free t (with_row q r b) (attribute_rows r.id as') (labels_no_children t r.id as' a) ∙ last_free t b (row q r ∷ []) (child_below t (row q r) ne, tt)

  last_past_tree : (t : ℕ) → (q ≡ t → ⊥) → (r.id ≡ t → ⊥) → count t k ≡ 0 → last_child t (with_tree q r as' k b) ≡ last_child t b
  last_past_tree t ne ne' z = last_free t (with_attributes q r as' b) (rows r.id k) (free_rows t (child_row t) (child_below t) r.id k ne' z) ∙ last_past_attributes t ne

  -- and the node is the last child of its parent
  last_is_node : is_attribute r.kind ≡ false → (r.id ≡ q → ⊥) → count q k ≡ 0 → last_child q (with_tree q r as' k b) ≡ r.id
  last_is_node child ne z =
      last_free q (with_attributes q r as' b) (rows r.id k) (free_rows q (child_row q) (child_below q) r.id k ne z)
      ∙ last_free q (with_row q r b) (attribute_rows r.id as') (labels_no_children q r.id as' a) ∙ last_here q r b child

-- a node that is counted is another than one that is not
another : (q t : ℕ) (f : Forest) → count q f ≡ 0 → 1 ≤ count t f → q ≡ t → ⊥
another q t f z o e = let y : count t f ≡ 0 = subst (λ (n : ℕ). count n f ≡ 0) e z in omega arith

row_puts : (f : Forest) (q l : ℕ) (b rest : List Node) → Shaped f → ((t : ℕ) → count t f ≤ 1) → count q f ≡ 0 → last_child q b ≡ l → ((t : ℕ) → 1 ≤ count t f → last_child t b ≡ 0)
    → puts b (rows q f ++ rest) ≡ steps q l f ++ puts (b ++ rows q f) rest
row_puts nil q l b rest s once z last none = ap (λ (c : List Node). puts c rest) (sym (append-nil b))
row_puts (node r as' k f) q l b rest s once z last none =
    joined
    (row_puts k r.id 0 (with_attributes q r as' b) (rows q f ++ rest) s.4 (λ t. omega (arith, once t)) (let u = one_here r.id in omega (arith, once r.id))
    (last_past_attributes q r as' k b s.2 r.id (λ e. not_node (sym e)) ∙ none r.id (let u = one_here r.id in omega arith))
    (λ t o. last_past_attributes q r as' k b s.2 t (another q t k (omega arith) o) ∙ none t (omega arith)))
    (row_puts f q r.id (with_tree q r as' k b) rest s.5 (λ t. omega (arith, once t)) (omega arith)
    (last_is_node q r as' k b s.2 child not_node (omega arith))
    (λ t o. last_past_tree q r as' k b s.2 t (another q t f (omega arith) o) (another r.id t f (let u = one_here r.id in omega (arith, once r.id)) o) (omega (arith, once t)) ∙ none t (omega arith)))
  where
    child : is_attribute r.kind ≡ false
    child = holder_no_attribute r.kind as' k s.1

    not_node : r.id ≡ q → ⊥
    not_node = eqb-false r.id q (one_zero (eqb r.id q) (omega arith))

    joined : puts (with_attributes q r as' b) (rows r.id k ++ (rows q f ++ rest)) ≡ steps r.id 0 k ++ puts (with_tree q r as' k b) (rows q f ++ rest)
        → puts (with_tree q r as' k b) (rows q f ++ rest) ≡ steps q r.id f ++ puts (with_tree q r as' k b ++ rows q f) rest
        → puts b (rows q (node r as' k f) ++ rest) ≡ steps q l (node r as' k f) ++ puts (b ++ rows q (node r as' k f)) rest
    joined below behind =
        ap₂ (λ (s : Node × ℕ) (ss : List (Node × ℕ)). s ∷ ss) (child_put q r b child ∙ ap (λ (m : ℕ). (row q r, m)) last)
        (ap (puts (with_row q r b)) (append_assoc (attribute_rows r.id as') (rows r.id k ++ rows q f) rest ∙ ap (λ (c : List Node). attribute_rows r.id as' ++ c) (append_assoc (rows r.id k) (rows q f) rest))
        ∙ attribute_puts r.id as' (with_row q r b) (rows r.id k ++ (rows q f ++ rest)) s.2
        ∙ ap (λ (ss : List (Node × ℕ)). attribute_steps r.id as' ++ ss) (below ∙ ap (λ (ss : List (Node × ℕ)). steps r.id 0 k ++ ss) behind)
        ∙ ap (λ (ss : List (Node × ℕ)). attribute_steps r.id as' ++ ss) (sym (append_assoc (steps r.id 0 k) (steps q r.id f) (puts (with_tree q r as' k b ++ rows q f) rest)))
        ∙ sym (append_assoc (attribute_steps r.id as') (steps r.id 0 k ++ steps q r.id f) (puts (with_tree q r as' k b ++ rows q f) rest))
        ∙ ap (λ (c : List Node). (attribute_steps r.id as' ++ (steps r.id 0 k ++ steps q r.id f)) ++ puts c rest) (whole q r as' k f b))

-- the rows of a document that a store may hold lead to it
listing_loads : (room : ℕ) (d : Forest) → Kept d → size d ≤ room → (plant_says room 0 0 [] (listing d) nil ≡ Ok tt) × (plant_leaves room 0 0 [] (listing d) nil ≡ d)
unfolding listing
listing_loads room d kept fits =
    let made : puts [] (rows 0 d) ≡ steps 0 0 d =
    ap (puts []) (sym (append-nil (rows 0 d))) ∙ row_puts d 0 0 [] [] kept.shaped kept.distinct (no_zero d kept.shaped) refl (λ t o. refl) ∙ append-nil (steps 0 0 d) in
    carried room [] (rows 0 d) nil d
    (subst (λ (ss : List (Node × ℕ)). Leads room ss nil d) (sym made) (planted room d 0 0 (λ g. g) (λ t. 0) 0 top kept.shaped (λ e. kept.root) (λ t. omega (arith, kept.distinct t)) (omega arith)))

pub loading_leads_to_the_document : LoadingLeadsToTheDocument
loading_leads_to_the_document room xs h =
    let p = passing_lists_document room xs h in
    subst (λ (ys : List Node). (plant_says room 0 0 [] ys nil ≡ Ok tt) × (plant_leaves room 0 0 [] ys nil ≡ document_of xs)) p.2
    (listing_loads room (document_of xs) (well_formed_is_kept (document_of xs) p.0).0 p.1)
