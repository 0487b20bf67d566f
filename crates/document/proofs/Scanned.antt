-- Scanning the listing of a document: no node is out of order, and the open elements tell how deep each stands.
use Rattle.std.proofs.Common.{◌≡◌, ℕ, suc, ◌+◌, ◌≤◌, Bool, true, false, eqb, ltb, List, [], ◌∷◌, ◌++◌, length, Some, None, Option, sym, refl, ap, ◌∙◌, append_assoc, arith}
use Rattle.std.proofs.lemmas.Bool.{eq-eqb, eqb-true, lt-ltb}
use Rattle.records.specs.declared.nodes.Kind.{Kind}
use Rattle.records.specs.declared.nodes.Kind.TheVariants.{Element, Attribute, Text}
use Rattle.records.specs.declared.nodes.Node.{Node}
use Rattle.document.specs.Tree.{Label, Forest, nil, node, count, Above, Attributes, Holds, Sound, WellFormed}
use Rattle.document.specs.Listing.{attribute_rows, rows, listing, attribute_depths, row_depths, depths}
use Rattle.document.specs.Table.{closed_to, order_from, out_of_order, depth_from}
use Rattle.document.specs.Statements.{DepthsOfListing}
use Rattle.document.proofs.Counting.{one_refl, count_open}
use Rattle.document.proofs.Gathering.{formed_above}

-- all of es is open still, and what is open besides them is inside them
abbrev pub Upon : List ℕ → List ℕ → Type 0
Upon es open' = (q : ℕ) → 1 ≤ count_open q es → closed_to q open' ≡ closed_to q es

-- closing the innermost element e leaves those around it open
pub upon_outer : (e : ℕ) (es open' : List ℕ) → count_open e es ≡ 0 → Upon (e ∷ es) open' → Upon es open'
upon_outer e es open' z u q h = go (eqb e q) refl
  where
    go : (b : Bool) → eqb e q ≡ b → closed_to q open' ≡ closed_to q es
    go true w = let v : count_open q es ≡ 0 = rw (sym (eqb-true e q w)) z in absurd (omega arith)
    go false w = u q (omega arith) ∙ rw w

-- a scan finds no node out of order, and the depths are ds
abbrev pub Scans : List ℕ → Option ℕ → ℕ → List Node → List ℕ → Type 0
Scans open' above n xs ds = (order_from open' above n xs ≡ None) × (depth_from open' xs ≡ ds)

-- the same wherever all of es is open still
abbrev pub ScansUpon : List ℕ → List Node → List ℕ → Type 0
ScansUpon es xs ds = (open' : List ℕ) (above : Option ℕ) (n : ℕ) → Upon es open' → Scans open' above n xs ds

-- the attributes of the innermost element t, all above a, and what comes behind them
pub attributes_scan : (t : ℕ) (es : List ℕ) (a m n : ℕ) (as' : List Label) (rest : List Node) (ds : List ℕ) → ltb 0 t ≡ true → suc (length es) ≡ n
    → Attributes as' → Above a as' → ((b : Option ℕ) (m : ℕ) → Scans (t ∷ es) b m rest ds)
    → Scans (t ∷ es) (Some a) m (attribute_rows t as' ++ rest) (attribute_depths n as' ++ ds)
attributes_scan t es a m n [] rest ds p l h v k = k (Some a) m
attributes_scan t es a m n (r ∷ as') rest ds p l h v k = go (attributes_scan t es r.id (m + 1) n as' rest ds p l h.2 v.1 k)
  where
    go : Scans (t ∷ es) (Some r.id) (m + 1) (attribute_rows t as' ++ rest) (attribute_depths n as' ++ ds)
        → Scans (t ∷ es) (Some a) m (attribute_rows t (r ∷ as') ++ rest) (attribute_depths n (r ∷ as') ++ ds)
    go s = rw (h.0, p, eq-eqb t t refl, lt-ltb a r.id v.0, l) (s.0, ap (λ z. n ∷ z) s.1)

-- the rows below p, scanned where p and the elements es around it are open, and what comes behind them
pub rows_scan : (p : ℕ) (es : List ℕ) (f : Forest) (open' : List ℕ) (b : Option ℕ) (m n : ℕ) (rest : List Node) (ds : List ℕ) → Sound f
    → ((t : ℕ) → count_open t (p ∷ es) + count t f ≤ 1) → suc (length es) ≡ n → Upon (p ∷ es) open'
    → ScansUpon (p ∷ es) rest ds → Scans open' b m (rows p f ++ rest) (row_depths n f ++ ds)
rows_scan p es nil open' b m n rest ds s d l u w = w open' b m u
rows_scan p es (node r as' k f) open' b m n rest ds s d l u w =
    go r.kind refl s.1
    (λ later b m v. rows_scan p es f later b m n rest ds s.4 (λ t. omega (arith, d t)) l v w)
    (λ b m w'. rows_scan r.id (p ∷ es) k (r.id ∷ (p ∷ es)) b m (n + 1) (rows p f ++ rest) (row_depths n f ++ ds) s.3 (λ t. omega (arith, d t)) (omega arith) (λ q h. refl) w')
  where
    closed : closed_to p open' ≡ p ∷ es
    closed = u p (omega (arith, one_refl p)) ∙ rw (eq-eqb p p refl)

    fresh : count_open r.id (p ∷ es) ≡ 0
    fresh = omega (arith, d r.id, one_refl r.id)

    go : (κ : Kind) → r.kind ≡ κ → Holds κ as' k → ScansUpon (p ∷ es) (rows p f ++ rest) (row_depths n f ++ ds)
        → ((b : Option ℕ) (m : ℕ) → ScansUpon (r.id ∷ (p ∷ es)) (rows p f ++ rest) (row_depths n f ++ ds)
        → Scans (r.id ∷ (p ∷ es)) b m (rows r.id k ++ (rows p f ++ rest)) (row_depths (n + 1) k ++ (row_depths n f ++ ds)))
        → Scans open' b m (rows p (node r as' k f) ++ rest) (row_depths n (node r as' k f) ++ ds)
    go Element e h behind below =
        let a = attributes_scan r.id (p ∷ es) 0 (m + 1) (n + 1) as' (rows r.id k ++ (rows p f ++ rest)) (row_depths (n + 1) k ++ (row_depths n f ++ ds))
        (formed_above r s.0) (omega arith) s.2.0 s.2.1 (λ b m. below b m (λ later b m v. behind later b m (upon_outer r.id (p ∷ es) later fresh v))) in
        rw (
          append_assoc (attribute_rows r.id as') (rows r.id k ++ rows p f) rest,
          append_assoc (rows r.id k) (rows p f) rest,
          append_assoc (attribute_depths (n + 1) as') (row_depths (n + 1) k ++ row_depths n f) ds,
          append_assoc (row_depths (n + 1) k) (row_depths n f) ds,
          e,
          closed,
          eq-eqb p p refl,
          l,
        )
        (a.0, ap (λ z. n ∷ z) a.1)
    go Attribute e h behind below = absurd h
    go Text e h behind below =
        let a = behind (p ∷ es) None (m + 1) (λ q h. refl) in
        rw (h.0, h.1, e, closed, eq-eqb p p refl, l) (a.0, ap (λ z. n ∷ z) a.1)

-- a document: its root alone is open at first, and nothing comes behind it
pub listing_scans : (d : Forest) → WellFormed d → (out_of_order (listing d) ≡ None) × (depth_from [] (listing d) ≡ depths d)
unfolding listing depths
listing_scans nil w = absurd w.root
listing_scans (node r as' k nil) w =
    let a = attributes_scan r.id [] 0 1 1 as' (rows r.id k ++ []) (row_depths 1 k ++ []) (formed_above r w.sound.0) refl w.sound.2.0 w.sound.2.1
    (λ b m. rows_scan r.id [] k (r.id ∷ []) b m 1 [] [] w.sound.3 (λ t. omega (arith, w.distinct t)) refl (λ q h. refl) (λ later b m v. (refl, refl))) in
    rw w.root (a.0, ap (λ z. 0 ∷ z) a.1)
listing_scans (node r as' k (node s bs l f)) w = absurd w.root

pub depths_of_listing : DepthsOfListing
depths_of_listing d w = (listing_scans d w).1
