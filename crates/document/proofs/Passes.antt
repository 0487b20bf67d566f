-- The listing of a well-formed document that fits the room passes the tests on node tables.
use Rattle.std.proofs.Common.{◌≡◌, ℕ, ◌+◌, ◌≤◌, List, [], ◌∷◌, ◌++◌, length, None, sym, refl, ap, ◌∙◌, append_assoc, append-nil, arith}
use Rattle.std.proofs.lemmas.Bool.{le-ltb}
use Rattle.records.specs.declared.nodes.Node.{Node}
use Rattle.document.specs.Tree.{Label, Forest, nil, node, size, Attributes, Sound, WellFormed}
use Rattle.document.specs.Listing.{attribute_rows, rows, listing}
use Rattle.document.specs.Table.{misformed_from, repeat_from, identifier_key, name_key, over_room, table_test}
use Rattle.document.specs.Statements.{ListingPasses}
use Rattle.document.proofs.Counting.{length_of_rows}
use Rattle.document.proofs.Scanned.{listing_scans}
use Rattle.document.proofs.Repeats.{no_repeat, identifiers_of_rows, names_of_rows}

-- every row is formed
attributes_formed : (n p : ℕ) (l : List Label) (rest : List Node) → Attributes l → ((m : ℕ) → misformed_from m rest ≡ None) → misformed_from n (attribute_rows p l ++ rest) ≡ None
attributes_formed n p [] rest h w = w n
attributes_formed n p (r ∷ l) rest h w = rw h.1 (attributes_formed (n + 1) p l rest h.2 w)

rows_formed : (n p : ℕ) (f : Forest) (rest : List Node) → Sound f → ((m : ℕ) → misformed_from m rest ≡ None) → misformed_from n (rows p f ++ rest) ≡ None
rows_formed n p nil rest s w = w n
rows_formed n p (node r as' k f) rest s w =
    rw (append_assoc (attribute_rows r.id as') (rows r.id k ++ rows p f) rest, append_assoc (rows r.id k) (rows p f) rest, s.0)
    (attributes_formed (n + 1) r.id as' (rows r.id k ++ (rows p f ++ rest)) s.2.0
    (λ m. rows_formed m r.id k (rows p f ++ rest) s.3 (λ m. rows_formed m p f rest s.4 w)))

pub listing_formed : (d : Forest) → WellFormed d → misformed_from 0 (listing d) ≡ None
unfolding listing
listing_formed d w = ap (misformed_from 0) (sym (append-nil (rows 0 d))) ∙ rows_formed 0 0 d [] w.sound (λ m. refl)

pub listing_identifiers_once : (d : Forest) → WellFormed d → repeat_from identifier_key [] 0 (listing d) ≡ None
unfolding listing
listing_identifiers_once d w = no_repeat identifier_key [] 0 (rows 0 d) (λ k. omega (arith, identifiers_of_rows k 0 d, w.distinct k.0))

pub listing_names_once : (d : Forest) → WellFormed d → repeat_from name_key [] 0 (listing d) ≡ None
unfolding listing
listing_names_once d w = no_repeat name_key [] 0 (rows 0 d) (λ k. omega (arith, names_of_rows k 0 d w.sound, w.distinct k.0))

pub listing_fits : (room : ℕ) (d : Forest) → size d ≤ room → over_room room (listing d) ≡ None
unfolding listing
listing_fits room d h = rw (le-ltb room (length (rows 0 d)) (omega (arith, length_of_rows 0 d)))

pub listing_passes : ListingPasses
unfolding table_test
listing_passes room d w h = rw (listing_formed d w, listing_identifiers_once d w, (listing_scans d w).0, listing_names_once d w, listing_fits room d h)
