-- Attributes stand right behind their element, one behind the other.
use Rattle.std.proofs.Common.{◌≡◌, ℕ, zero, suc, ◌<◌, true, List, [], ◌∷◌, ◌++◌, length, refl, ap, inl, inr, append_assoc, append-nil, arith}
use Rattle.std.proofs.lemmas.Bool.{both_ways}
use Rattle.records.specs.declared.nodes.Node.{Node}
use Rattle.document.specs.Tree.{Label, Forest, nil, node, Attributes}
use Rattle.document.specs.Listing.{row, attribute_rows, rows}
use Rattle.document.specs.Table.{is_attribute}
use Rattle.document.proofs.Gathering.{holder_no_attribute}
use Rattle.store.specs.Kept.{Shaped}
use Rattle.flat.specs.Means.{Of}
use Rattle.flat.proofs.Tables.{nth}

abbrev pub Follows : Node → Node → Type 0
Follows y x = is_attribute x.kind ≡ true → Of x.parent y

abbrev Chained : Node → List Node → Type 0
Chained y [] = Unit {0}
Chained y (x ∷ xs) = Follows y x × Chained x xs

chain_labels : (y : Node) (p : ℕ) (as' : List Label) (rest : List Node) → Attributes as' → Of p y → ((z : Node) → Chained z rest) → Chained y (attribute_rows p as' ++ rest)
chain_labels y p [] rest a o c = c y
chain_labels y p (r ∷ l) rest a o c = (λ h. o, chain_labels (row p r) p l rest a.2 (inr (ap is_attribute a.0, refl)) c)

chain_rows : (p : ℕ) (f : Forest) (rest : List Node) → Shaped f → ((z : Node) → Chained z rest) → (z : Node) → Chained z (rows p f ++ rest)
chain_rows p nil rest s c z = c z
chain_rows p (node r as' k f) rest s c z =
    rw (append_assoc (attribute_rows r.id as') (rows r.id k ++ rows p f) rest, append_assoc (rows r.id k) (rows p f) rest) (
      λ h. absurd (both_ways (is_attribute r.kind) (holder_no_attribute r.kind as' k s.1) h),
      chain_labels (row p r) r.id as' (rows r.id k ++ (rows p f ++ rest)) s.2 (inl refl)
          (chain_rows r.id k (rows p f ++ rest) s.4 (chain_rows p f rest s.5 c)),
    )

chained_at : (y : Node) (xs : List Node) (k : ℕ) → Chained y xs → k < length xs → Follows (nth (y ∷ xs) k) (nth xs k)
chained_at y [] k c h = absurd (omega arith)
chained_at y (x ∷ xs) zero c h = c.0
chained_at y (x ∷ xs) (suc k) c h = chained_at x xs k c.1 (omega arith)

pub follows_at : (xs : List Node) (k : ℕ) → ((z : Node) → Chained z xs) → suc k < length xs → Follows (nth xs k) (nth xs (suc k))
follows_at [] k c h = absurd (omega arith)
follows_at (x ∷ xs) k c h = chained_at x xs k (c x).1 (omega arith)

pub chained : (p : ℕ) (f : Forest) → Shaped f → (k : ℕ) → suc k < length (rows p f) → Follows (nth (rows p f) k) (nth (rows p f) (suc k))
chained p f s k h = follows_at (rows p f) k (λ z. rw append-nil at (chain_rows p f [] s (λ y. tt) z)) h
