-- The lines of a node table, from one node to the next.
use Rattle.std.proofs.Common.{◌≡◌, ℕ, ◌+◌, ◌<◌, ◌≤◌, Bool, true, false, cond, List, [], ◌∷◌, ◌++◌, length, get_or, drop, Ok, Err, sym, refl, ap, ◌∙◌, append_assoc, append-nil}
use Rattle.std.proofs.lemmas.List.{at_drop_more, at_drop_all}
use Rattle.records.specs.declared.nodes.Node.{Node}
use Rattle.faults.specs.declared.Fault.{Fault}
use Rattle.faults.specs.Numbers.{told}
use Rattle.document.specs.Table.{closed_to, opened, attached, depth_from, table_test, document_of}
use Rattle.document.specs.Listing.{depths}
use Rattle.document.proofs.Passing.{passing_lists_document}
use Rattle.document.proofs.Scanned.{depths_of_listing}
use Rattle.session.specs.Lines.{ok_line, node_line, node_lines, refusal_line}
use Rattle.session.specs.Outline.{elements_around, elements_behind, lines_from}
use Rattle.session.specs.Printed.{room, answer, document_in, printed}

lines_more : (es : List ℕ) (x : Node) (xs : List Node) → lines_from es (x ∷ xs) ≡ node_line (length (elements_around es x)) x ++ lines_from (elements_behind es x) xs
lines_more es x xs = go (attached x) (closed_to x.parent es) (opened x.kind x.id (closed_to x.parent es))
  where
    go : (a : Bool) (cs os : List ℕ)
        → node_lines (cond a (length es ∷ depth_from es xs) (length cs ∷ depth_from os xs)) (x ∷ xs) ≡ node_line (length (cond a es cs)) x ++ lines_from (cond a es os) xs
    go true cs os = refl
    go false cs os = refl

-- the line of the node at i goes to the end of the text
pub lines_on : (es : List ℕ) (xs : List Node) (i : ℕ) (d : Node) (depth : ℕ) (after text longer line whole : List ℕ) → i < length xs
    → depth ≡ length (elements_around es (get_or xs i d)) → after ≡ elements_behind es (get_or xs i d) → line ≡ node_line depth (get_or xs i d)
    → longer ≡ text ++ line → text ++ lines_from es (drop i xs) ≡ whole → longer ++ lines_from after (drop (i + 1) xs) ≡ whole
lines_on es xs i d depth after text longer line whole h deep behind l e known =
    let here : lines_from es (drop i xs) ≡ line ++ lines_from after (drop (i + 1) xs) =
    at_drop_more (lines_from es) xs i d h ∙ lines_more es (get_or xs i d) (drop (i + 1) xs)
    ∙ (λ j. (ap (λ n. node_line n (get_or xs i d)) (sym deep) ∙ sym l) j ++ lines_from (sym behind j) (drop (i + 1) xs)) in
    ap (λ t. t ++ lines_from after (drop (i + 1) xs)) e ∙ append_assoc text line (lines_from after (drop (i + 1) xs)) ∙ ap (λ t. text ++ t) (sym here) ∙ known

-- behind the last node the text is whole
pub lines_all : (es : List ℕ) (xs : List Node) (i : ℕ) (text whole : List ℕ) → length xs ≤ i → text ++ lines_from es (drop i xs) ≡ whole → text ≡ whole
lines_all es xs i text whole h known = sym (ap (λ l. text ++ l) (at_drop_all (lines_from es) xs i h) ∙ append-nil text) ∙ known

-- a table that passes lists its document, so these are the document's lines
pub prints_document : (bs : List ℕ) (xs : List Node) → table_test room xs ≡ Ok tt → document_in bs ≡ Ok (document_of xs) → ok_line ++ lines_from [] xs ≡ printed bs
unfolding printed
prints_document bs xs t e =
    let p = passing_lists_document room xs t in
    let d : depth_from [] xs ≡ depths (document_of xs) = ap (depth_from []) (sym p.2) ∙ depths_of_listing (document_of xs) p.0 in
    (λ i. ok_line ++ node_lines (d i) (sym p.2 i)) ∙ ap answer (sym e)

pub prints_refusal : (bs : List ℕ) (f : Fault) → document_in bs ≡ Err f → refusal_line (told f) ≡ printed bs
unfolding printed
prints_refusal bs f e = ap answer (sym e)
