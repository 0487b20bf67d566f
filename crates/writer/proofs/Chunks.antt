-- The records of a list, operation by operation.
use Rattle.std.proofs.Common.{◌≡◌, ℕ, ◌+◌, ◌<◌, ◌≤◌, List, [], ◌∷◌, ◌++◌, length, get_or, take, drop, None, sym, ap, ◌∙◌, append_assoc, arith, length-append, length-drop}
use lib.ListN.{length-map}
use Rattle.std.proofs.lemmas.List.{take-append-drop, length-take-le, take_at, drop_at, drop_more, get_or_default}
use Rattle.records.specs.declared.nodes.Node.{Node}
use Rattle.records.specs.declared.operations.Operation.{Operation}
use Rattle.records.specs.declared.operations.Code.TheVariants.{InsertBefore}
use Rattle.codec.specs.Fields.{record_of_node, record_of_operation}
use Rattle.reader.specs.Layout.{document_records, list_records}
use Rattle.writer.specs.Scans.{counts_from}
use Rattle.writer.proofs.Passing.{counts_first, none_left}

-- what reading past the end of an operation table would give, and the operation at a place
abbrev pub blank : Operation
blank = record { target = 0; code = InsertBefore; count = 0; name = 0; value = 0 }

pub turn : (os : List Operation) (k : ℕ) → k < length os → get_or os k blank ≡ get_or os k (get_or os k blank)
turn os k h = get_or_default os k blank (get_or os k blank) h

-- what stands at a place, and what behind it
pub take_chunk : {X : Type 0} (l xs ys : List X) (n : ℕ) → n ≤ length l → drop n l ≡ xs ++ ys → (take (n + length xs) l ≡ take n l ++ xs) × (drop (n + length xs) l ≡ ys)
take_chunk l xs ys n h e =
    let whole : l ≡ (take n l ++ xs) ++ ys = sym (take-append-drop n l) ∙ ap (λ r. take n l ++ r) e ∙ sym (append_assoc (take n l) xs ys) in
    let long : length (take n l ++ xs) ≡ n + length xs = omega (arith, length-append (take n l) xs, length-take-le n l h) in
    (ap (take (n + length xs)) whole ∙ take_at (take n l ++ xs) ys (n + length xs) long, ap (drop (n + length xs)) whole ∙ drop_at (take n l ++ xs) ys (n + length xs) long)

pub length_list_records : (n : ℕ) (os : List Operation) (xs : List Node) → counts_from n os (length xs) ≡ None → length (list_records os xs) ≡ length os + length xs
length_list_records n [] xs c = omega (arith, none_left n (length xs) c)
length_list_records n (o ∷ os) xs c =
    let f = counts_first n o os (length xs) c in
    let l = length-drop o.count xs in
    omega (
      arith,
      length-append (document_records (take o.count xs)) (list_records os (drop o.count xs)),
      length-map (take o.count xs) record_of_node,
      length-take-le o.count xs f.0,
      l,
      length_list_records (n + 1) os (drop o.count xs) (ap (counts_from (n + 1) os) l ∙ f.1),
      f.0,
    )

-- one operation on, with the nodes that it counts
module _ (os : List Operation) (rest : List Node) (k : ℕ) (o : Operation) (h : k < length os) (e : o ≡ get_or os k o)
    (c : counts_from k (drop k os) (length rest) ≡ None) where
  here : drop k os ≡ o ∷ drop (k + 1) os
  here = drop_more os k o h ∙ ap (λ x. x ∷ drop (k + 1) os) (sym e)

  pub count_within : o.count ≤ length rest
  count_within = (counts_first k o (drop (k + 1) os) (length rest) (ap (λ l. counts_from k l (length rest)) (sym here) ∙ c)).0

  pub counts_on : counts_from (k + 1) (drop (k + 1) os) (length (drop o.count rest)) ≡ None
  counts_on =
      let f = counts_first k o (drop (k + 1) os) (length rest) (ap (λ l. counts_from k l (length rest)) (sym here) ∙ c) in
      ap (counts_from (k + 1) (drop (k + 1) os)) (length-drop o.count rest) ∙ f.1

  pub records_here : list_records (drop k os) rest ≡ (record_of_operation o ∷ document_records (take o.count rest)) ++ list_records (drop (k + 1) os) (drop o.count rest)
  records_here = ap (λ l. list_records l rest) here

  pub nodes_here : length (document_records (take o.count rest)) ≡ o.count
  nodes_here = length-map (take o.count rest) record_of_node ∙ length-take-le o.count rest count_within
