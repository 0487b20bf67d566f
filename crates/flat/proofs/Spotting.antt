-- Where a new node may stand: the tests, and the places that they lead to.
use Rattle.std.proofs.Common.{◌≡◌, ℕ, zero, suc, ◌+◌, ◌<◌, ◌≤◌, Bool, true, false, not, ◌&&◌, eqb, List, length, None, Option, sym, refl, ap, ◌∙◌, inl, inr, arith}
use Rattle.std.specs.Bool.{then_some}
use Rattle.std.proofs.lemmas.Bool.{eq-eqb, ne_eqb, eqb-true}
use Rattle.records.specs.declared.nodes.Kind.{Kind}
use Rattle.records.specs.declared.nodes.Kind.TheVariants.{Element, Attribute, Text}
use Rattle.records.specs.declared.nodes.Node.{Node}
use Rattle.document.specs.Table.{is_attribute}
use Rattle.ordered.specs.declared.entries.RowOf.{RowOf}
use Rattle.store.specs.Views.{view}
use Rattle.store.specs.Says.{is_element, is_element_there, is_child_of, fits}
use Rattle.store.specs.Listed.{put_place}
use Rattle.store.proofs.Along.{unseen}
use Rattle.flat.specs.declared.rows.FlatRow.{FlatRow}
use Rattle.flat.specs.Means.{at, nodes, means, Laid, Plain, Stored}
use Rattle.flat.specs.Walks.{Behind}
use Rattle.flat.specs.Spots.{Suited}
use Rattle.flat.proofs.Tables.{times_at}
use Rattle.flat.proofs.Standing.{nodes_long, node_at, plain, sight, listed_times}
use Rattle.flat.proofs.Families.{up_is}
use Rattle.flat.proofs.Answering.{size_is}
use Rattle.flat.proofs.Placing.{first_place, attribute_place, behind_place}
use Rattle.flat.proofs.Gapping.{attributes_gap, sibling_gap}

element_child : (c : Kind) → is_element c ≡ true → is_attribute c ≡ false
element_child Element e = refl
element_child Attribute e = cc
element_child Text e = refl

-- the bound of a walk over attributes
abbrev pub bound_of : Node → Option ℕ
bound_of x = then_some (is_attribute x.kind) x.id

module _ (R : List FlatRow) (X : List RowOf) (n : ℕ) (h : n ≤ length R) (s : Stored R X n) where
  L : Laid R n
  L = s.laid

  P : Plain R n
  P = plain R X n h s

  -- ---- a root

  pub root_fits : (x : Node) (left : ℕ) → x.parent ≡ 0 → fits (means R n) x left ≡ (eqb n 0 && (is_element x.kind && eqb left 0))
  root_fits x left e = rw (eq-eqb x.parent 0 e, size_is R X n h s)

  pub root_suited : (x : Node) (left : ℕ) → x.parent ≡ 0 → n ≡ 0 → is_element x.kind ≡ true → left ≡ 0 → Suited R n x left (record { parent = 0; place = 0 })
  root_suited x left e z k o =
      record {
        fit = root_fits x left e ∙ rw (eq-eqb n 0 z, k, eq-eqb left 0 o);
        place = rw (eq-eqb x.parent 0 e);
        below = inl (z, e, refl, refl);
      }

  -- ---- below the element in row i

  module _ (x : Node) (i : ℕ) (l : i < n) (same : (at R i).node.id ≡ x.parent) where
    above : 0 < x.parent
    above = omega (arith, P.above i l)

    other : eqb x.parent 0 ≡ false
    other = ne_eqb x.parent 0 (λ e. omega (arith, above))

    element_seen : is_element_there (view (means R n) x.parent) ≡ is_element (at R i).node.kind
    element_seen =
        let S = sight R X n h s x.parent i l same in
        ap is_element_there S.seen ∙ ap (λ (y : Node). is_element y.kind) (S.row ∙ node_at R n i h l)

    pub unfit_parent : (left : ℕ) → is_element (at R i).node.kind ≡ false → fits (means R n) x left ≡ false
    unfit_parent left e = rw (other, element_seen, e)

    module _ (element : is_element (at R i).node.kind ≡ true) where
      child : is_attribute (at R i).node.kind ≡ false
      child = element_child (at R i).node.kind element

      first_fit : fits (means R n) x 0 ≡ true
      first_fit = rw (other, element_seen, element)

      pub first_suited : (r : ℕ) → view (means R n) x.id ≡ None → Behind R n i (at R i).node.id (bound_of x) r → Suited R n x 0 (record { parent = i; place = r })
      first_suited r new w =
          record { fit = first_fit; place = by (is_attribute x.kind) refl w; below = inr (attributes_gap R n L P i r (bound_of x) l w, same, element) }
        where
          fresh : (k : ℕ) → k < n → (at R k).node.id ≡ x.id → ⊥
          fresh k b e =
              let g : k < length (nodes R n) = omega (arith, nodes_long R n h) in
              omega (arith, times_at x.id (nodes R n) k g (ap (λ (y : Node). y.id) (node_at R n k h b) ∙ e), listed_times (means R n) s.kept (nodes R n) s.listed x.id, unseen x.id 0 0 (means R n) new)

          by : (b : Bool) → is_attribute x.kind ≡ b → Behind R n i (at R i).node.id (then_some b x.id) r → r ≡ put_place (means R n) x 0
          by true e v = attribute_place R X n h s i l child x.id r fresh v ∙ rw (other, e, same)
          by false e v = first_place R X n h s i l child r v ∙ rw (other, e, same)

      -- ---- behind the row j

      module _ (left j : ℕ) (b : j < n) (at_left : (at R j).node.id ≡ left) (no_attribute : is_attribute x.kind ≡ false) (some : left ≡ 0 → ⊥) where
        child_seen : is_child_of x.parent (view (means R n) left) ≡ (eqb (at R j).node.parent x.parent && not (is_attribute (at R j).node.kind))
        child_seen =
            let S = sight R X n h s left j b at_left in
            ap (is_child_of x.parent) S.seen ∙ ap (λ (y : Node). eqb y.parent x.parent && not (is_attribute y.kind)) (S.row ∙ node_at R n j h b)

        pub behind_fits : fits (means R n) x left ≡ (eqb (at R j).node.parent x.parent && not (is_attribute (at R j).node.kind))
        behind_fits = rw (other, element_seen, element, ne_eqb left 0 some, no_attribute, child_seen)

        pub behind_suited : (at R j).node.parent ≡ x.parent → is_attribute (at R j).node.kind ≡ false
            → Suited R n x left (record { parent = i; place = j + (at R j).size })
        behind_suited e k =
            record {
              fit = behind_fits ∙ rw (eq-eqb (at R j).node.parent x.parent e, k);
              place = behind_place R X n h s j b k ∙ rw (other, no_attribute, ne_eqb left 0 some, at_left);
              below = inr (sibling_gap R n L P i j z b (up_is R n L P i j l z b (e ∙ sym same)), same, element);
            }
          where
            z : 0 < j
            z = positive j b e
              where
                positive : (j : ℕ) → j < n → (at R j).node.parent ≡ x.parent → 0 < j
                positive zero b e = absurd (omega (arith, above, (P.root b).0))
                positive (suc j) b e = omega arith

        pub unfit_behind : ((at R j).node.parent ≡ x.parent → is_attribute (at R j).node.kind ≡ false → ⊥) → fits (means R n) x left ≡ false
        unfit_behind no' = behind_fits ∙ go (eqb (at R j).node.parent x.parent) refl (is_attribute (at R j).node.kind) refl
          where
            go : (c : Bool) → eqb (at R j).node.parent x.parent ≡ c → (d : Bool) → is_attribute (at R j).node.kind ≡ d
                → (eqb (at R j).node.parent x.parent && not (is_attribute (at R j).node.kind)) ≡ false
            go false e d f = rw e
            go true e true f = rw (e, f)
            go true e false f = absurd (no' (eqb-true (at R j).node.parent x.parent e) f)
