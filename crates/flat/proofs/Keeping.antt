-- A store that is changed holds what its rows list.
use Rattle.std.proofs.Common.{◌≡◌, ℕ, ◌+◌, ◌<◌, ◌≤◌, ◌⊎◌, List, map, length, set, sym, refl, ap, ◌∙◌, subst, inl, inr, arith, length-set}
use Rattle.std.proofs.lemmas.List.{ext_get_or, get_or-map, get_or-set_same, get_or-set_other, length-map}
use Rattle.std.proofs.lemmas.Bool.{cases_eq}
use Rattle.records.specs.declared.nodes.Node.{Node}
use Rattle.document.specs.Tree.{Forest}
use Rattle.document.specs.Listing.{listing}
use Rattle.document.specs.Table.{document_of}
use Rattle.ordered.specs.declared.entries.RowOf.{RowOf}
use Rattle.store.specs.Kept.{Kept}
use Rattle.store.specs.Says.{is_element}
use Rattle.flat.specs.declared.rows.FlatRow.{FlatRow}
use Rattle.flat.specs.Means.{no_node, no_row, at, up, entry, nodes, means, Laid, Indexed, Stored}
use Rattle.flat.proofs.Regathering.{listing_gives_kept}
use Rattle.flat.proofs.Tables.{nth}
use Rattle.flat.proofs.Standing.{nodes_long, node_at, plain}

-- rows that list d mean d
pub means_listed : (R : List FlatRow) (n : ℕ) (d : Forest) → Kept d → listing d ≡ nodes R n → means R n ≡ d
unfolding means
means_listed R n d kept e = ap document_of (sym e) ∙ listing_gives_kept d kept

pub stored_from : (R : List FlatRow) (X : List RowOf) (n : ℕ) (d : Forest) → Kept d → listing d ≡ nodes R n → Laid R n → Indexed R X n → Stored R X n
stored_from R X n d kept e laid indexed =
    let m = means_listed R n d kept e in
    record { kept = subst Kept (sym m) kept; listed = ap listing m ∙ e; laid = laid; indexed = indexed }

-- records of equal places are equal lists
pub same_nodes : (R : List FlatRow) (n : ℕ) (xs : List Node) → n ≤ length R → length xs ≡ n → ((k : ℕ) → k < n → nth xs k ≡ (at R k).node) → xs ≡ nodes R n
same_nodes R n xs h l e =
    ext_get_or no_node xs (nodes R n) (l ∙ sym (nodes_long R n h)) (λ k g. let b : k < n = omega arith in e k b ∙ sym (node_at R n k h b))

-- ---- rows that differ in names and values only

pub record Alike (x y : FlatRow) : Type 0 where
  pub distance : x.distance ≡ y.distance
  pub size : x.size ≡ y.size
  pub id : x.node.id ≡ y.node.id
  pub parent : x.node.parent ≡ y.node.parent
  pub kind : x.node.kind ≡ y.node.kind

module _ (R S : List FlatRow) (n : ℕ) (a : (k : ℕ) → k < n → Alike (at R k) (at S k)) where
  same_up : (k : ℕ) → k < n → up R k ≡ up S k
  same_up k l = omega (arith, (a k l).distance)

  pub laid_alike : Laid R n → Laid S n
  laid_alike L =
      record {
        backward = λ k b c. let u = L.backward k b c in (omega (arith, (a k c).distance), omega (arith, (a k c).distance));
        parented = λ k b c.
            let u = L.parented k b c in
            let l : up R k < n = omega arith in (
              ap (λ (j : ℕ). (at S j).node.id) (sym (same_up k c)) ∙ sym (a (up R k) l).id ∙ u.0 ∙ (a k c).parent,
              ap (λ (j : ℕ). is_element (at S j).node.kind) (sym (same_up k c)) ∙ ap is_element (sym (a (up R k) l).kind) ∙ u.1,
            );
        sized = λ i b. let u = L.sized i b in (omega (arith, (a i b).size), omega (arith, (a i b).size));
        inside = λ i k b c e.
            let z : k < i + (at R i).size = omega (arith, (a i b).size) in
            let l : k < n = omega (arith, (L.sized i b).1) in omega (arith, same_up k l, L.inside i k b c z);
        outside = λ i k b c e f. omega (arith, same_up k e, (a i b).size, L.outside i k b (omega (arith, (a i b).size)) e (omega (arith, same_up k e)));
      }

  pub indexed_alike : (X : List RowOf) → Indexed R X n → Indexed S X n
  indexed_alike X I =
      record {
        ascending = I.ascending;
        leading = λ k b. ((I.leading k b).0, sym (a (entry X k).row (I.leading k b).0).id ∙ (I.leading k b).1);
        reaching = I.reaching;
      }

-- ---- one record changed in name or value

pub record Edits (t : ℕ) (f : Node → Node) : Type 0 where
  pub others : (x : Node) → (x.id ≡ t → ⊥) → f x ≡ x
  pub id : (x : Node) → (f x).id ≡ x.id
  pub parent : (x : Node) → (f x).parent ≡ x.parent
  pub kind : (x : Node) → (f x).kind ≡ x.kind

abbrev pub edited_row : (Node → Node) → FlatRow → FlatRow
edited_row f r = record r { node = f r.node }

module _ (R : List FlatRow) (X : List RowOf) (n : ℕ) (h : n ≤ length R) (s : Stored R X n) (i : ℕ) (l : i < n) (f : Node → Node) (q : Edits (at R i).node.id f) where
  abbrev S : List FlatRow
  S = set R i (edited_row f (at R i))

  at_edited : (k : ℕ) → (k ≡ i) ⊎ (k ≡ i → ⊥) → (at S k ≡ at R k) ⊎ (at S k ≡ edited_row f (at R k))
  at_edited k (inl e) = inr (ap (λ (j : ℕ). at S j) e ∙ get_or-set_same R i (edited_row f (at R i)) no_row (omega arith) ∙ ap (λ (j : ℕ). edited_row f (at R j)) (sym e))
  at_edited k (inr e) = inl (get_or-set_other R i k (edited_row f (at R i)) no_row e)

  alike_by : (k : ℕ) → (at S k ≡ at R k) ⊎ (at S k ≡ edited_row f (at R k)) → Alike (at R k) (at S k)
  alike_by k (inl e) = rw e (record { distance = refl; size = refl; id = refl; parent = refl; kind = refl })
  alike_by k (inr e) =
      rw e (record { distance = refl; size = refl; id = sym (q.id (at R k).node); parent = sym (q.parent (at R k).node); kind = sym (q.kind (at R k).node) })

  alike : (k : ℕ) → Alike (at R k) (at S k)
  alike k = alike_by k (at_edited k (cases_eq k i))

  edited_node : (k : ℕ) → k < n → f (at R k).node ≡ (at S k).node
  edited_node k b = go (cases_eq k i)
    where
      go : (k ≡ i) ⊎ (k ≡ i → ⊥) → f (at R k).node ≡ (at S k).node
      go (inl e) = sym (ap (λ (j : ℕ). (at S j).node) e ∙ ap (λ (r : FlatRow). r.node) (get_or-set_same R i (edited_row f (at R i)) no_row (omega arith)) ∙ ap (λ (j : ℕ). f (at R j).node) (sym e))
      go (inr e) =
          q.others (at R k).node (λ w. e ((plain R X n h s).once k i b l w)) ∙ sym (ap (λ (r : FlatRow). r.node) (get_or-set_other R i k (edited_row f (at R i)) no_row e))

  module _ (d : Forest) (kept : Kept d) (list : listing d ≡ map f (listing (means R n))) where
    edited_listed : listing d ≡ nodes S n
    edited_listed =
        list ∙ ap (map f) s.listed
        ∙ same_nodes S n (map f (nodes R n)) (omega (arith, length-set R i (edited_row f (at R i)))) (length-map (nodes R n) f ∙ nodes_long R n h)
        (λ k b. get_or-map f (nodes R n) k no_node no_node (omega (arith, nodes_long R n h)) ∙ ap f (node_at R n k h b) ∙ edited_node k b)

    pub edited_stored : Stored S X n
    edited_stored = stored_from S X n d kept edited_listed (laid_alike R S n (λ k _. alike k) s.laid) (indexed_alike R S n (λ k _. alike k) X s.indexed)

    pub edited_means : means S n ≡ d
    edited_means = means_listed S n d kept edited_listed
